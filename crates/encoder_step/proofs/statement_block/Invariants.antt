-- `encoder_step::statement_block` meets its contract. Assumes nothing.
use Rattle.std.proofs.Common.{List, length, ℕ, ◌*◌, ◌+◌, ◌≡◌, ◌≤◌}
use Rattle.encoding.specs.Steps.{line}
use Rattle.encoding.specs.Slots.{kind_at}
use Rattle.table.specs.Programs.{upto}
use Rattle.records.specs.Sets.{set_by, most_threads}
use Rattle.encoder_slots.specs.Kinds.{number_of}
use Rattle.encoder_slots.specs.Pieces.{Writes, Ready, line_room}
use Rattle.encoder_step.proofs.statement_block.Given as goal

abbrev pub invariant-loop-t : goal.invariant-loop-t
invariant-loop-t l =
    (l.threads ≤ most_threads) × (l.next ≤ l.n + line_room * l.t) × (length l.out ≡ length l.initial.out) × (length l.slots ≡ length l.initial.slots)
    × ((cs lists : List ℕ) (step : ℕ) → Ready (set_by l.set l.layout) cs l.members lists l.initial.slots l.n
    → (Writes (upto (line (set_by l.set l.layout) cs step (kind_at (number_of l.kind))) l.t) l.initial.out l.initial.slots l.n l.out l.slots l.next) × (Ready (set_by l.set l.layout) cs l.members lists l.slots l.next))
