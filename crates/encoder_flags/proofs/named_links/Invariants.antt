-- `encoder_flags::named_links` meets its contract. Assumes nothing.
use Rattle.std.proofs.Common.{List, [], length, ℕ, ◌+◌, ◌-◌, ◌<◌, ◌≡◌, ◌≤◌}
use Rattle.records.specs.StatementRecords.{Stands}
use Rattle.encoder_slots.specs.Pieces.{WritesTree, Ready}
use Rattle.encoder_slots.specs.Places.{place_of}
use Rattle.encoding.specs.Steps.{chain, leads}
use Rattle.encoding.specs.Slots.{Term}
use Rattle.records.specs.Sets.{Set, most_statements}
use Rattle.encoder_flags.specs.Named.{NamedFirst}
use Rattle.encoder_flags.proofs.Written.{Reached}
use Rattle.encoder_flags.proofs.named_links.Given as goal

abbrev pub invariant-loop-i : goal.invariant-loop-i
invariant-loop-i l =
    (l.hit ≤ l.i) × (l.i < l.end → l.tree.next ≤ l.n + (l.i - l.hit)) × (l.tree.next ≤ l.n + (l.end - l.hit)) × (length l.out ≡ length l.initial.out)
    × ((S : Set) (cs members : List ℕ) (base-tree : Term) (start : List ℕ) (m j count from : ℕ) → j < most_statements → from ≤ l.hit → from ≤ l.end → l.end ≤ count
    → ((x : ℕ) → from ≤ x → x < l.end → (j ≡ x + 1 → ⊥)) → l.t < S.threads → Stands S l.set l.first count l.t
    → Ready S cs members l.lists l.slots m → NamedFirst S l.t count l.hit from j
    → WritesTree (place_of l.slots) (chain (leads S [] 0 l.t j) from base-tree) start m l.initial.out l.n l.base
    → Reached (place_of l.slots) S l.t j count from l.end base-tree start m l.i l.out l.tree.next l.tree.at)

abbrev pub decreases-loop-i : goal.decreases-loop-i
decreases-loop-i l = l.end - l.i
