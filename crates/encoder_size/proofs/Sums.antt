-- Laws of sums over the numbers below a bound. Assumes nothing.
use Prim.Native.Nat.{ℕ, zero, suc, ◌+◌, ◌-◌, ◌*◌, ◌<◌}
use mathlib.Core.Path.{◌≡◌, refl, ap, ap₂, sym, ◌∙◌}
use mathlib.Core.Bool.{Bool, cond}
use native.Mathlib.Decide.{ℕ_discrete, dec_lt}
use native.Mathlib.Nat.{suc-mul, mul-add}
use native.Mathlib.Numerals.{add-one}
use native.Mathlib.Omega.{arith}
use borrow.Author.Tests.{lt-ltb, le-ltb, eq-eqb, ne_eqb}
use lib.Dec.{eqb, ltb, eqb-suc-zero}
use Rattle.base.proofs.Choice.{chosen, passed}
use Rattle.base.specs.Below.{number}
use Rattle.encoder_size.specs.Sizes.{total}

pub total-none : (f : ℕ → ℕ) → total f 0 ≡ 0
unfolding total
total-none f = refl

pub total-next : (f : ℕ → ℕ) (n : ℕ) → total f (n + 1) ≡ total f n + f n
unfolding total
total-next f n = ap (total f) (add-one n)

-- the first apart
pub total_first : (f : ℕ → ℕ) (n : ℕ) → total f (suc n) ≡ f 0 + total (λ i. f (suc i)) n
unfolding total
total_first f zero = omega arith
total_first f (suc n) = let e = total_first f n in omega arith

-- two that agree below n
pub total_ext : (f g : ℕ → ℕ) (n : ℕ) → ((i : ℕ) → i < n → f i ≡ g i) → total f n ≡ total g n
unfolding total
total_ext f g zero h = refl
total_ext f g (suc n) h = ap₂ (λ x y. x + y) (total_ext f g n (λ i l. h i (omega arith))) (h n (omega arith))

pub total-plus : (f g : ℕ → ℕ) (n : ℕ) → total (λ i. f i + g i) n ≡ total f n + total g n
unfolding total
total-plus f g zero = refl
total-plus f g (suc n) = let e = total-plus f g n in omega arith

-- the same number for each
pub total-same : (x n : ℕ) → total (λ i. x) n ≡ n * x
unfolding total
total-same x zero = omega arith
total-same x (suc n) = let e = total-same x n in let m = suc-mul n x in omega arith

-- two sums in the other order
pub total_swap : (f : ℕ → ℕ → ℕ) (n m : ℕ) → total (λ i. total (f i) m) n ≡ total (λ j. total (λ i. f i j) n) m
unfolding total
total_swap f zero m = let e = total-same 0 m in omega arith
total_swap f (suc n) m = ap (λ (x : ℕ). x + total (f n) m) (total_swap f n m) ∙ sym (total-plus (λ j. total (λ i. f i j) n) (f n) m)

-- how many pass is a sum of ones
pub total-number : (test : ℕ → Bool) (n : ℕ) → number n test ≡ total (λ i. cond (test i) 1 0) n
unfolding total number
total-number test zero = refl
total-number test (suc n) = ap (λ (x : ℕ). x + cond (test n) 1 0) (total-number test n)

pub total-times : (f : ℕ → ℕ) (x n : ℕ) → total (λ i. x * f i) n ≡ x * total f n
unfolding total
total-times f x zero = omega arith
total-times f x (suc n) = let e = total-times f x n in let d = mul-add x (total f n) (f n) in omega arith

-- nothing for the first, and for each other what h has for the one before
pub total-late : (h : ℕ → ℕ) (n : ℕ) → total (λ j. cond (eqb j 0) 0 (h (j - 1))) (suc n) ≡ total h n
total-late h n =
    let first = total_first (λ j. cond (eqb j 0) 0 (h (j - 1))) n in
    let rest = total_ext (λ j. cond (eqb (suc j) 0) 0 (h (suc j - 1))) h n
    (λ j l. passed 0 (h (suc j - 1)) (eqb-suc-zero j) ∙ ap h (omega arith)) in
    omega arith

-- one of the numbers below n is x, or none
pub total-point : (x n : ℕ) → total (λ j. cond (eqb x j) 1 0) n ≡ cond (ltb x n) 1 0
unfolding total
total-point x zero = sym (passed 1 0 (le-ltb x 0 (omega arith)))
total-point x (suc n) = elim (ℕ_discrete x n) [
  | yes e ↦
      let before = total-point x n ∙ passed 1 0 (le-ltb x n (omega arith)) in
      let here = chosen {A = ℕ} 1 0 (eq-eqb x n e) in
      let all = chosen {A = ℕ} 1 0 (lt-ltb x (suc n) (omega arith)) in
      omega arith
  | no e ↦
      let before = total-point x n in
      let here = passed {A = ℕ} 1 0 (ne_eqb x n e) in
      let same : ◌≡◌ {A = ℕ} (cond (ltb x n) 1 0) (cond (ltb x (suc n)) 1 0) = elim (dec_lt x n) [
        | yes l ↦ chosen 1 0 (lt-ltb x n l) ∙ sym (chosen 1 0 (lt-ltb x (suc n) (omega arith)))
        | no l ↦ passed 1 0 (le-ltb x n (omega (arith, l))) ∙ sym (passed 1 0 (le-ltb x (suc n) (omega (arith, l))))
      ] in
      omega arith
]
