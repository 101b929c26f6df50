-- A number that no arm of a `match` names. Assumes nothing.
use Prim.Native.Nat.{ℕ}
use mathlib.Core.Path.{◌≡◌}
use mathlib.Core.List.{List, [], ◌∷◌}

-- a number is none of those listed, as a `match` leaves it
abbrev pub Apart : ℕ → List ℕ → Type 0
Apart n [] = Unit
Apart n (k ∷ ks) = Apart n ks × (n ≡ k → ⊥)
