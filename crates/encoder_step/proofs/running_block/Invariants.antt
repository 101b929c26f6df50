-- `encoder_step::running_block` meets its contract. Assumes nothing.
use Rattle.std.proofs.Common.{List, length, ℕ, ◌*◌, ◌+◌, ◌≡◌, ◌≤◌}
use Rattle.records.specs.Sets.{Set}
use Rattle.table.specs.Programs.{upto}
use Rattle.encoding.specs.Slots.{kind_at}
use Rattle.encoding.specs.Steps.{entry}
use Rattle.encoder_slots.specs.Kinds.{number_of}
use Rattle.encoder_slots.specs.Pieces.{Writes, Ready, entry_room}
use Rattle.encoder_step.specs.Entries.{AfterThread}
use Rattle.encoder_step.proofs.running_block.Given as goal

abbrev pub invariant-loop-t : goal.invariant-loop-t
invariant-loop-t l =
    (l.next ≤ l.initial.next + entry_room * l.t) × (length l.out ≡ length l.initial.out) × (length l.slots ≡ length l.initial.slots)
    × ((S : Set) (cs lists begun begun_slots : List ℕ) (m : ℕ) → S.threads ≡ l.threads → AfterThread S cs (number_of l.kind) → Ready S cs l.members lists l.initial.slots l.initial.next
    → Writes (upto (entry S cs l.step (kind_at (number_of l.kind)) 0) 1) begun begun_slots m l.initial.out l.initial.slots l.initial.next
    → (Writes (upto (entry S cs l.step (kind_at (number_of l.kind)) 0) (l.t + 1)) begun begun_slots m l.out l.slots l.next) × (Ready S cs l.members lists l.slots l.next))
