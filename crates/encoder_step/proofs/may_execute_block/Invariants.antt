-- `encoder_step::may_execute_block` meets its contract. Assumes nothing.
use Rattle.std.proofs.Common.{List, length, ℕ, ◌*◌, ◌+◌, ◌≡◌, ◌≤◌}
use Rattle.records.specs.Sets.{Set}
use Rattle.table.specs.Programs.{upto}
use Rattle.encoding.specs.Slots.{may_execute}
use Rattle.encoding.specs.Steps.{line}
use Rattle.encoder_slots.specs.Pieces.{Writes, Ready, tree_room}
use Rattle.encoder_step.proofs.may_execute_block.Given as goal

abbrev pub invariant-loop-t : goal.invariant-loop-t
invariant-loop-t l =
    (l.next ≤ l.n + tree_room * l.t) × (length l.out ≡ length l.initial.out) × (length l.slots ≡ length l.initial.slots)
    × ((S : Set) (cs members lists : List ℕ) → S.threads ≡ l.threads → Ready S cs members lists l.initial.slots l.n
    → (Writes (upto (line S cs l.step may_execute) l.t) l.initial.out l.initial.slots l.n l.out l.slots l.next) × (Ready S cs members lists l.slots l.next))
