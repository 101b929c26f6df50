-- A search that passes over several numbers at once. Assumes nothing.
use Prim.Native.Nat.{ℕ, zero, suc, ◌+◌, ◌<◌}
use mathlib.Core.Path.{◌≡◌, refl, ap, ap₂, sym, ◌∙◌}
use mathlib.Core.Bool.{Bool, false, ◌||◌}
use native.Mathlib.Numerals.{add-one}
use native.Mathlib.Nat.{add-zero}
use native.Mathlib.Omega.{arith}
use Rattle.base.specs.Below.{some, least}
use Rattle.base.proofs.Below.{least_more}
use Rattle.base.proofs.Choice.{or_left, or_right}

pub some_next : (test : ℕ → Bool) (i : ℕ) → some (i + 1) test ≡ (some i test || test i)
unfolding some
some_next test i = rw (add-one i) refl

-- where none of the next n passes, the search goes on behind them
pub least_group : (test group : ℕ → Bool) (i n : ℕ) → least i test ≡ i → some n group ≡ false → ((k : ℕ) → k < n → test (i + k) ≡ group k) →
    least (i + n) test ≡ i + n
unfolding some
least_group test group i zero e none same = rw (add-zero i) e
least_group test group i (suc n) e none same =
    let more = least_more test (i + n) (least_group test group i n e (or_left (some n group) (group n) none) (λ k l. same k (omega arith)))
    (same n (omega arith) ∙ or_right (some n group) (group n) none) in
    let q : i + suc n ≡ i + n + 1 = omega arith in
    ap (λ (k : ℕ). least k test) q ∙ more ∙ sym q

-- tests that agree below n
pub some_same : (f g : ℕ → Bool) (n : ℕ) → ((k : ℕ) → k < n → f k ≡ g k) → some n f ≡ some n g
unfolding some
some_same f g zero same = refl
some_same f g (suc n) same = ap₂ (λ (a b : Bool). a || b) (some_same f g n (λ k l. same k (omega arith))) (same n (omega arith))
