-- How many checkpoints are listed. Assumes nothing.
use Prim.Native.Nat.{ℕ, ◌≤◌}
use mathlib.Core.Path.{◌≡◌, ap}
use mathlib.Core.List.{List}
use native.Mathlib.Omega.{arith}
use native.Mathlib.Decide.{dec_lt}
use lib.Seq.{length-take-le, take_all}
use lib.ListN.{length, get_or, take, length-take, get_or-eq_default}
use Rattle.set_index.specs.Points.{listed}
use Rattle.set_index.specs.declared.points.Points.{Points}

-- at most as many as there is room for
pub listed-most : (points : Points) → length points.numbers ≡ 8 → length (listed points) ≤ 8
listed-most points eight =
    elim (dec_lt points.count 8) [
      | yes h ↦ let e = length-take-le points.count points.numbers (omega arith) in omega arith
      | no h ↦ let e = ap length (take_all points.count points.numbers (omega arith)) in omega arith
    ]

-- what stands past a part of a list
pub past-take : (n : ℕ) (l : List ℕ) (i : ℕ) → n ≤ i → get_or (take n l) i 0 ≡ 0
past-take n l i h = get_or-eq_default (take n l) 0 (let e = length-take n l in omega arith)
