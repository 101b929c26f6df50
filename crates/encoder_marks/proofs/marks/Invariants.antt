-- `encoder_marks::marks` meets its contract. Assumes nothing.
use Rattle.std.proofs.Common.{List, length, true, ℕ, ◌*◌, ◌+◌, ◌≡◌, ◌≤◌}
use Rattle.encoder_slots.specs.Kinds.{number_of}
use Rattle.encoder_slots.specs.Pieces.{Writes, Ready, entry_room}
use Rattle.encoder_marks.specs.Marked.{marked}
use Rattle.encoding.specs.Steps.{line}
use Rattle.encoding.specs.Slots.{kind_at}
use Rattle.table.specs.Programs.{upto}
use Rattle.records.specs.Sets.{Set, most_checkpoints}
use Rattle.encoder_marks.proofs.marks.Given as goal

abbrev pub invariant-loop-t : goal.invariant-loop-t
invariant-loop-t g l =
    (l.next ≤ l.n + most_checkpoints * entry_room * l.t) × (length l.out ≡ length l.initial.out) × (length l.slots ≡ length l.initial.slots)
    × ((S : Set) (cs members : List ℕ) → S.threads ≡ l.threads → length cs ≡ l.count → marked (number_of l.kind) ≡ true → Ready S cs members l.table l.initial.slots l.n
    → (Ready S cs members l.table l.slots l.next) × (Writes (upto (line S cs l.step (kind_at (number_of l.kind))) l.t) l.initial.out l.initial.slots l.n l.out l.slots l.next))
