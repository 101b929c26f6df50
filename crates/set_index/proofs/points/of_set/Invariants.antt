-- `set_index::points::points` meets its contract. Assumes nothing.
use Rattle.std.proofs.Common.{take, ◌≡◌}
use Rattle.set_index.specs.Points.{listed}
use Rattle.encoding.specs.Checkpoints.{noted_below}
use Rattle.records.specs.Sets.{set_by}
use Rattle.set_index.proofs.points.of_set.Given as goal

abbrev pub invariant-loop-t : goal.invariant-loop-t
invariant-loop-t l =
    (listed l.points ≡ take 8 (noted_below (set_by l.set l.layout) l.t))
