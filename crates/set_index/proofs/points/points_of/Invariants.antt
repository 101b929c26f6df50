-- `set_index::points::points_of` meets its contract. Assumes nothing.
use Rattle.std.proofs.Common.{List, take, ℕ, ◌<◌, ◌≡◌, ◌≤◌}
use Rattle.set_index.specs.Points.{listed}
use Rattle.encoding.specs.Checkpoints.{noted_in}
use Rattle.records.specs.Sets.{Set}
use Rattle.records.specs.StatementRecords.{StandsFrom}
use Rattle.set_index.proofs.points.points_of.Given as goal

abbrev pub invariant-loop-i : goal.invariant-loop-i
invariant-loop-i l =
    (l.i ≤ l.n) × (l.first < 65536)
    × ((S : Set) → StandsFrom S l.set l.t l.first l.n → (before : List ℕ) → listed l.initial.points ≡ take 8 before → listed l.points ≡ take 8 (noted_in S l.t before l.i))
