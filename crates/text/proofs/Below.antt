-- Further laws of a choice by a test, and of tests over the numbers below a bound. Assumes nothing.
use Prim.Native.Nat.{ℕ, zero, suc, ◌+◌, ◌≤◌, ◌<◌}
use mathlib.Core.Path.{◌≡◌, refl, ap, sym, ◌∙◌}
use mathlib.Core.Bool.{Bool, true, false, cond, not, ◌&&◌, ◌||◌}
use mathlib.Core.Logic.{◌↔◌}
use native.Mathlib.Omega.{arith}
use native.Mathlib.Nat.{add-zero}
use native.Mathlib.Numerals.{add-one}
use native.Mathlib.Decide.{ℕ_discrete}
use lib.Dec.{ltb, leb}
use borrow.Author.Tests.{ltb-true, ltb-false, leb-true, lt-ltb, le-leb}
use Rattle.base.specs.Below.{every, some, number, least}
use Rattle.base.proofs.Below.{number_more, number_same, number-below, number-none}
use Rattle.base.proofs.Choice.{chosen, and_true, and_left, and_right, refuted, clash}

-- what holds on either side of a test
pub cond_where : {A : Type 0} (P : A → Type 0) (b : Bool) {x y : A} → (b ≡ true → P x) → (b ≡ false → P y) → P (cond b x y)
cond_where P true f g = f refl
cond_where P false f g = g refl

-- two bounds as one test
pub between : (low n high : ℕ) → (ltb low n && leb n high) ≡ true ↔ ((low < n) × (n ≤ high))
between low n high =
    let above = ltb low n in
    let below = leb n high in
    (λ e. (ltb-true low n (and_left above below e), leb-true n high (and_right above below e)), λ h. and_true (lt-ltb low n h.0) (le-leb n high h.1))

module _ (test : ℕ → Bool) where
  -- some test fails where not every one passes
  pub every-fails : (n : ℕ) → every n test ≡ false → (i : ℕ) × (i < n) × (test i ≡ false)
  unfolding every
  every-fails zero e = clash refl e
  every-fails (suc n) e = go (every-fails n) (every n test) refl
    where
      go : (every n test ≡ false → (i : ℕ) × (i < n) × (test i ≡ false)) → (b : Bool) → every n test ≡ b → (i : ℕ) × (i < suc n) × (test i ≡ false)
      go before true q = (n, omega arith, sym (ap (λ (b : Bool). b && test n) q) ∙ e)
      go before false q = let r = before q in (r.0, omega (arith, r.1), r.2)

  -- what passes where some number does
  pub some-found : (n : ℕ) → some n test ≡ true → (i : ℕ) × (i < n) × (test i ≡ true)
  unfolding some
  some-found zero e = clash e refl
  some-found (suc n) e = go (some-found n) (some n test) refl
    where
      go : (some n test ≡ true → (i : ℕ) × (i < n) × (test i ≡ true)) → (b : Bool) → some n test ≡ b → (i : ℕ) × (i < suc n) × (test i ≡ true)
      go before true q = let r = before q in (r.0, omega (arith, r.1), r.2)
      go before false q = (n, omega arith, sym (ap (λ (b : Bool). b || test n) q) ∙ e)

  -- one that passes is found, or one before it
  pub least-found : (n i : ℕ) → i < n → test i ≡ true → least n test < n
  unfolding least
  least-found zero i h e = absurd (omega arith)
  least-found (suc n) i h e = go (λ l. least-found n i l e) (ltb (least n test) n) refl
    where
      go : (i < n → least n test < n) → (b : Bool) → ltb (least n test) n ≡ b → cond b (least n test) (cond (test n) n (suc n)) < suc n
      go before true q = omega (arith, ltb-true (least n test) n q)
      go before false q = elim (ℕ_discrete i n) [
        | yes r ↦ omega (arith, chosen n (suc n) (sym (ap test r) ∙ e))
        | no f ↦ absurd (omega (arith, ltb-false (least n test) n q, before (omega arith)))
      ]

  -- at most one number passes
  pub number-one : (n : ℕ) → ((j k : ℕ) → j < k → k < n → test j ≡ true → test k ≡ true → ⊥) → number n test ≤ 1
  number-one zero f = omega (arith, number-below test 0)
  number-one (suc n) f = go (number-one n (λ j k l h. f j k l (omega arith))) (test n) refl
    where
      go : number n test ≤ 1 → (b : Bool) → test n ≡ b → number (suc n) test ≤ 1
      go before true e =
          let none = number-none test n (λ i h. refuted (test i) (λ p. f i n h (omega arith) p e)) in
          rw (← add-one n) (omega (arith, number_more test n e))
      go before false e = rw (← add-one n) (omega (arith, number_same test n e))

  -- all of the b numbers from a on pass
  pub number-block : (a b : ℕ) → ((i : ℕ) → i < b → test (a + i) ≡ true) → number (a + b) test ≡ number a test + b
  number-block a zero f = ap (λ (n : ℕ). number n test) (add-zero a) ∙ omega arith
  number-block a (suc b) f =
      let next : a + suc b ≡ a + b + 1 = omega arith in
      rw next (omega (arith, number_more test (a + b) (f b (omega arith)), number-block a b (λ i h. f i (omega arith))))

-- those that pass one test are those that pass another too, and those that do not
pub number-split : (test other : ℕ → Bool) (n : ℕ) → number n test ≡ number n (λ k. test k && not (other k)) + number n (λ k. test k && other k)
unfolding number
number-split test other zero = refl
number-split test other (suc n) = omega (arith, number-split test other n, one (test n) (other n))
  where
    one : (a b : Bool) → cond a 1 0 ≡ cond (a && not b) 1 0 + cond (a && b) 1 0
    one true true = refl
    one true false = refl
    one false b = refl
