-- `encoder_chains::chains::raised_chain` meets its contract. Assumes nothing.
use Rattle.std.proofs.Common.{List, length, ℕ, ◌+◌, ◌-◌, ◌<◌, ◌≡◌, ◌≤◌}
use Rattle.records.specs.Sets.{Set}
use Rattle.encoding.specs.Slots.{Term}
use Rattle.encoder_slots.specs.Pieces.{WritesTree, Ready, chain_room}
use Rattle.encoder_slots.specs.Places.{place_of}
use Rattle.encoder_chains.proofs.Raised.{Reached}
use Rattle.set_index.specs.ListTables.{no_statement}
use Rattle.table.specs.Repeats.{last_index}
use Rattle.encoder_chains.proofs.chains.raised_chain.Given as goal

abbrev pub invariant-loop-i : goal.invariant-loop-i
invariant-loop-i l =
    (l.tree.next ≤ l.n + l.i) × (l.tree.next ≤ l.n + chain_room) × (length l.out ≡ length l.initial.out)
    × ((S : Set) (cs members : List ℕ) (base-tree : Term) (start : List ℕ) (m : ℕ) → l.t < S.threads → l.p < length cs → l.n + chain_room ≤ last_index → Ready S cs members l.table l.slots m
    → WritesTree (place_of l.slots) base-tree start m l.initial.out l.n l.base
    → Reached S cs l.t l.p (place_of l.slots) base-tree start m l.out l.tree.next l.tree.at l.i)

abbrev pub decreases-loop-i : goal.decreases-loop-i
decreases-loop-i l = no_statement - l.i
