-- Exactly one of n bits, and it allowed. Assumes nothing.
use Prim.Native.Nat.{ℕ, zero, suc, ◌<◌}
use mathlib.Core.Path.{◌≡◌, refl, ap, sym, ◌∙◌}
use mathlib.Core.Bool.{Bool, true, false, cond, not, ◌&&◌}
use native.Mathlib.Omega.{arith}
use native.Mathlib.Decide.{ℕ_discrete}
use lib.Dec.{eqb}
use borrow.Author.Tests.{eq-eqb, ne_eqb, not-true}
use Rattle.base.specs.Below.{every}
use Rattle.base.proofs.Below.{every-at, every-all}
use Rattle.base.proofs.Choice.{chosen, passed, and_true, and_left, and_right, clash}

module _ (bits : ℕ → Bool) where
  -- none of the first n bits is 1
  abbrev pub none_below : ℕ → Bool
  none_below n = every n (λ i. not (bits i))

  pub none_out : (n : ℕ) → none_below n ≡ true → (i : ℕ) → i < n → bits i ≡ false
  none_out n e i h = not-true (bits i) (every-at (λ i. not (bits i)) n i e h)

  pub none_in : (n : ℕ) → ((i : ℕ) → i < n → bits i ≡ false) → none_below n ≡ true
  none_in n f = every-all (λ i. not (bits i)) n (λ i h. ap not (f i h))

  module _ (allowed : ℕ → Bool) where
    -- the last of n bits that is 1 is allowed, and none before it is 1
    unfoldable pub single : ℕ → Bool
    single zero = false
    single (suc n) = cond (bits n) (allowed n && none_below n) (single n)

    abbrev pub One : ℕ → Type 0
    One n = (i : ℕ) × ((i < n) × ((allowed i ≡ true) × ((j : ℕ) → j < n → bits j ≡ eqb j i)))

    pub single-out : (n : ℕ) → single n ≡ true → One n
    unfolding single
    single-out zero e = clash e refl
    single-out (suc n) e = go (bits n) refl (single-out n)
      where
        go : (b : Bool) → bits n ≡ b → (single n ≡ true → One n) → One (suc n)
        go true q before =
            let both : (allowed n && none_below n) ≡ true = sym (chosen _ _ q) ∙ e in
            let others = none_out n (and_right (allowed n) (none_below n) both) in (
              n,
              (
                omega arith,
                (
                  and_left (allowed n) (none_below n) both,
                  λ j h. elim (ℕ_discrete j n) [
                    | yes r ↦ ap bits r ∙ (q ∙ sym (eq-eqb j n r))
                    | no f ↦ others j (omega arith) ∙ sym (ne_eqb j n f)
                  ],
                ),
              ),
            )
        go false q before =
            let r = before (sym (passed _ _ q) ∙ e) in (
              r.0,
              (
                omega (arith, r.1.0),
                (
                  r.1.1.0,
                  λ j h. elim (ℕ_discrete j n) [
                    | yes p ↦ ap bits p ∙ (q ∙ sym (ne_eqb j r.0 (λ (z : j ≡ r.0). omega (arith, r.1.0))))
                    | no f ↦ r.1.1.1 j (omega arith)
                  ],
                ),
              ),
            )

    pub single_in : (n i : ℕ) → i < n → allowed i ≡ true → ((j : ℕ) → j < n → bits j ≡ eqb j i) → single n ≡ true
    unfolding single
    single_in zero i h a f = absurd (omega arith)
    single_in (suc n) i h a f = elim (ℕ_discrete n i) [
      | yes e ↦ chosen _ _ (f n (omega arith) ∙ eq-eqb n i e)
          ∙ and_true (ap allowed e ∙ a) (none_in n (λ j l. f j (omega arith) ∙ ne_eqb j i (λ (z : j ≡ i). omega arith)))
      | no g ↦ passed _ _ (f n (omega arith) ∙ ne_eqb n i g) ∙ single_in n i (omega arith) a (λ j l. f j (omega arith))
    ]
