-- `encoder_step::bare_line` meets its contract. Assumes nothing.
use Rattle.std.proofs.Common.{List, length, ℕ, ◌*◌, ◌+◌, ◌≡◌, ◌≤◌}
use Rattle.records.specs.Sets.{Set}
use Rattle.table.specs.Programs.{upto}
use Rattle.encoding.specs.Slots.{kind_at}
use Rattle.encoding.specs.Steps.{entry}
use Rattle.encoder_slots.specs.Kinds.{number_of}
use Rattle.encoder_slots.specs.Pieces.{Writes, Ready, tree_room}
use Rattle.encoder_step.specs.Entries.{BareEntry}
use Rattle.encoder_step.proofs.bare_line.Given as goal

abbrev pub invariant-loop-b : goal.invariant-loop-b
invariant-loop-b l =
    (l.next ≤ l.n + tree_room * l.b) × (length l.out ≡ length l.initial.out) × (length l.slots ≡ length l.initial.slots)
    × ((S : Set) (cs members lists : List ℕ) → S.threads ≡ l.threads → ((j : ℕ) → BareEntry S cs (number_of l.kind) 0 j) → Ready S cs members lists l.initial.slots l.n
    → (Writes (upto (entry S cs l.step (kind_at (number_of l.kind)) 0) l.b) l.initial.out l.initial.slots l.n l.out l.slots l.next) × (Ready S cs members lists l.slots l.next))
