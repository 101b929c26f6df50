-- A map's cell, and a number that passes, as the code looks them up. This serves the code; no call's promise needs it. Assumes nothing.
use Rattle.std.specs.Prelude.{ℕ, Bool, cond, List, Option, Some, None, ltb}
use Rattle.base.specs.Below.{least}
use Rattle.records.specs.Maps.{mapped, map_value}

-- the value of a map's cell at an address, None where it has none
abbrev pub cell_of : List ℕ → ℕ → Option ℕ
cell_of map a = cond (mapped map a) (Some (map_value map a)) None

-- the least number below n that passes, None where none does
abbrev pub first_of : ℕ → (ℕ → Bool) → Option ℕ
first_of n test = cond (ltb (least n test) n) (Some (least n test)) None
