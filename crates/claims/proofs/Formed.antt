-- Tables are well formed by document 01's rules. Assumes nothing.
use Prim.Native.Nat.{ℕ, zero, suc, ◌<◌}
use mathlib.Core.List.{List, [], ◌∷◌}
use native.Mathlib.Omega.{arith}
use lib.ListN.{get_or}
use Rattle.encoding.proofs.WellFormed.{well-formed}
use Rattle.claims.specs.Runs.{AreBytes}
use Rattle.claims.specs.Tables.{TablesAreWellFormed}

-- each number of a list of bytes is below 256, also the 0 past its end
pub below : (xs : List ℕ) → AreBytes xs → (i : ℕ) → get_or xs i 0 < 256
below [] h i = omega arith
below (x ∷ xs) h zero = h.0
below (x ∷ xs) h (suc i) = below xs h.1 i

pub tables_are_well_formed : TablesAreWellFormed
tables_are_well_formed set map bound a b one few h k = well-formed set map bound (below set h) (below map k) one
