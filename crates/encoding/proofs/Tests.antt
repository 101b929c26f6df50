-- Further laws of tests, alone and over the numbers below a bound. Assumes nothing.
use Prim.Native.Nat.{ℕ, zero, suc, ◌<◌}
use mathlib.Core.Path.{◌≡◌, refl, ap, sym, ◌∙◌}
use mathlib.Core.Bool.{Bool, true, false, ◌||◌}
use native.Mathlib.Omega.{arith}
use Rattle.base.specs.Below.{some}
use Rattle.base.proofs.Choice.{clash}

-- tests that hold together are the same
pub same_tests : (a b : Bool) → (a ≡ true → b ≡ true) → (b ≡ true → a ≡ true) → a ≡ b
same_tests true b f g = sym (f refl)
same_tests false true f g = g refl
same_tests false false f g = refl

-- what passes where some number does
pub some-passes : (test : ℕ → Bool) (n : ℕ) → some n test ≡ true → (i : ℕ) × ((i < n) × (test i ≡ true))
unfolding some
some-passes test zero e = clash e refl
some-passes test (suc n) e = go (some-passes test n) (some n test) refl
  where
    go : (some n test ≡ true → (i : ℕ) × ((i < n) × (test i ≡ true))) → (b : Bool) → some n test ≡ b → (i : ℕ) × ((i < suc n) × (test i ≡ true))
    go before true q = let r = before q in (r.0, (omega (arith, r.1.0), r.1.1))
    go before false q = (n, (omega arith, sym (ap (λ (b : Bool). b || test n) q) ∙ e))
