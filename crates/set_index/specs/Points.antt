-- The checkpoints of a set, as a list of at most eight. This serves the code; no call's promise needs it. Assumes nothing.
use Rattle.std.specs.Prelude.{ℕ, List, take}
use Rattle.set_index.specs.declared.points.Points.{Points}

-- the checkpoints in a list of at most eight
abbrev pub listed : Points → List ℕ
listed points = take points.count points.numbers
