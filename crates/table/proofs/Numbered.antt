-- Records written one by one, each by its number. Assumes nothing.
use Prim.Native.Nat.{ℕ, zero, suc, ◌+◌, ◌*◌}
use mathlib.Core.Path.{◌≡◌, refl, ap, sym, ◌∙◌}
use mathlib.Core.List.{List, [], ◌∷◌}
use native.Mathlib.Numerals.{add-one}
use native.Mathlib.Omega.{arith}
use lib.ListN.{length, length-append}
use Rattle.base.specs.Bytes.{placed}
use Rattle.table.specs.declared.Formula.{Formula}
use Rattle.table.specs.Formulas.{formula_bytes, written_at}
use Rattle.table.specs.Programs.{upto}
use Rattle.table.proofs.Written.{written-++}

module _ (f : ℕ → Formula) where
  pub upto-length : (j : ℕ) → length (upto (λ i. f i ∷ []) j) ≡ j
  unfolding upto
  upto-length zero = refl
  upto-length (suc j) =
      let p = length-append (upto (λ i. f i ∷ []) j) (f j ∷ []) in
      let q = upto-length j in
      omega arith

  pub numbered-none : (out : List ℕ) (at : ℕ) → out ≡ written_at out at (upto (λ i. f i ∷ []) 0)
  unfolding upto written_at
  numbered-none out at = refl

  -- one more
  pub numbered_more : (out now : List ℕ) (at j : ℕ) → now ≡ written_at out at (upto (λ i. f i ∷ []) j) →
      placed now (16 * (at + j)) (formula_bytes (f j)) ≡ written_at out at (upto (λ i. f i ∷ []) (j + 1))
  unfolding upto written_at
  numbered_more out now at j e =
      let l = sym (upto-length j) in
      (λ z. placed (e z) (16 * (at + l z)) (formula_bytes (f j)))
      ∙ (sym (written-++ out at (upto (λ i. f i ∷ []) j) (f j ∷ []))
      ∙ ap (λ (n : ℕ). written_at out at (upto (λ i. f i ∷ []) n)) (sym (add-one j)))
