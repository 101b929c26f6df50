-- `encoder_marks::openings` meets its contract. Assumes nothing.
use Rattle.std.proofs.Common.{List, length, ℕ, ◌*◌, ◌+◌, ◌≡◌, ◌≤◌}
use Rattle.encoder_slots.specs.Pieces.{Writes, Ready, entry_room}
use Rattle.encoding.specs.Steps.{entry}
use Rattle.encoding.specs.Slots.{opening}
use Rattle.table.specs.Programs.{upto}
use Rattle.records.specs.Sets.{Set}
use Rattle.encoder_marks.proofs.openings.Given as goal

abbrev pub invariant-loop-p : goal.invariant-loop-p
invariant-loop-p l =
    (l.next ≤ l.n + entry_room * l.p) × (length l.out ≡ length l.initial.out) × (length l.slots ≡ length l.initial.slots)
    × ((S : Set) (cs members : List ℕ) → S.threads ≡ l.threads → length cs ≡ l.count → Ready S cs members l.table l.initial.slots l.n
    → (Ready S cs members l.table l.slots l.next) × (Writes (upto (entry S cs l.step opening 0) l.p) l.initial.out l.initial.slots l.n l.out l.slots l.next))
