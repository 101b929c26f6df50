-- `encoder_marks::waits` meets its contract. Assumes nothing.
use Rattle.std.proofs.Common.{List, length, ℕ, ◌*◌, ◌+◌, ◌≡◌, ◌≤◌}
use Rattle.encoder_slots.specs.Pieces.{Writes, Ready, entry_room}
use Rattle.encoding.specs.Steps.{line}
use Rattle.encoding.specs.Slots.{waits}
use Rattle.table.specs.Programs.{upto}
use Rattle.records.specs.Sets.{Set}
use Rattle.encoder_marks.proofs.waits.Given as goal

abbrev pub invariant-loop-t : goal.invariant-loop-t
invariant-loop-t l =
    (l.next ≤ l.n + entry_room * l.t) × (length l.out ≡ length l.initial.out) × (length l.slots ≡ length l.initial.slots)
    × ((S : Set) (cs members : List ℕ) → S.threads ≡ l.threads → length cs ≡ l.count → Ready S cs members l.table l.initial.slots l.n
    → (Ready S cs members l.table l.slots l.next) × (Writes (upto (line S cs l.step waits) l.t) l.initial.out l.initial.slots l.n l.out l.slots l.next))
