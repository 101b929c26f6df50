-- `encoder_chains::put_links` meets its contract. Assumes nothing.
use Rattle.std.proofs.Common.{List, length, ℕ, ◌+◌, ◌<◌, ◌≡◌, ◌≤◌}
use Rattle.encoding.specs.Slots.{Slot, Term}
use Rattle.encoding.specs.Steps.{Link as ChainLink, chain}
use Rattle.encoder_slots.specs.Pieces.{WritesTree}
use Rattle.encoder_chains.specs.Placed.{placed_link, numbers_of}
use Rattle.table.specs.Repeats.{last_index}
use Rattle.encoder_chains.proofs.put_links.Given as goal

abbrev pub invariant-loop-i : goal.invariant-loop-i
invariant-loop-i g l =
    (l.tree.next ≤ l.n + l.i) × (length l.out ≡ length l.initial.out)
    × ((places : Slot → ℕ) (links : ℕ → ChainLink) (base-tree : Term) (start : List ℕ) (m : ℕ) → l.n + l.many ≤ last_index
    → ((i : ℕ) (k : _) → i < l.many → goal.F-post g l.link i k → numbers_of k ≡ placed_link places (links i))
    → WritesTree places base-tree start m l.initial.out l.n l.base
    → WritesTree places (chain links l.i base-tree) start m l.out l.tree.next l.tree.at)
