-- Laws of counters of records by a number: one turn of the loop that counts. Assumes nothing.
use Prim.Native.Nat.{ℕ, ◌+◌, ◌≤◌}
use mathlib.Core.Path.{◌≡◌, ap₂, sym, ◌∙◌}
use native.Mathlib.Omega.{arith}
use lib.Dec.{eqb}
use mir.Val.{bool_byte}
use Rattle.base.specs.Below.{number}
use Rattle.base.proofs.Below.{number-next, number-below}
use Rattle.base.proofs.Choice.{cast_test}

module _ (place : ℕ → ℕ) (t k counter : ℕ) (e : counter ≡ number k (λ j. eqb (place j) t)) where
  pub counted : counter + bool_byte (eqb (place k) t) ≡ number (k + 1) (λ j. eqb (place j) t)
  counted = ap₂ ◌+◌ e (cast_test (eqb (place k) t)) ∙ sym (number-next (λ j. eqb (place j) t) k)

  pub counted-below : counter + bool_byte (eqb (place k) t) ≤ k + 1
  counted-below = omega (arith, counted, number-below (λ j. eqb (place j) t) (k + 1))
