-- `encoder::steps` meets its contract. Assumes nothing.
use Rattle.std.proofs.Common.{length, ◌*◌, ◌+◌, ◌≡◌, ◌≤◌}
use Rattle.set_index.specs.Points.{listed}
use Rattle.encoding.specs.Steps.{step}
use Rattle.table.specs.Programs.{upto}
use Rattle.records.specs.Sets.{set_by}
use Rattle.encoder_step.specs.Entries.{step_room}
use Rattle.encoder_slots.specs.Pieces.{Writes, Ready}
use Rattle.encoder.proofs.steps.Given as goal

abbrev pub invariant-loop-k : goal.invariant-loop-k
invariant-loop-k l =
    (l.bound ≤ 64) × (l.next ≤ l.n + step_room * l.k) × (length l.out ≡ length l.initial.out) × (length l.slots ≡ length l.initial.slots)
    × (Ready (set_by l.set l.layout) (listed l.points) l.members l.lists l.slots l.next)
    × (Writes (upto (step (set_by l.set l.layout) (listed l.points)) l.k) l.initial.out l.initial.slots l.n l.out l.slots l.next)
