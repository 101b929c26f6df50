-- One turn of the loop over a table's records. Assumes nothing.
use Prim.Native.Nat.{ℕ, suc, ◌+◌, ◌-◌, ◌<◌}
use mathlib.Core.Path.{◌≡◌, ap, sym, ◌∙◌}
use mathlib.Core.Bool.{Bool, true, false}
use mathlib.Core.List.{List}
use native.Mathlib.Omega.{arith}
use native.Mathlib.Numerals.{add-one}
use Rattle.base.proofs.Choice.{chosen, passed}
use Rattle.table.specs.Values.{Assignment}
use Rattle.table.specs.declared.Formula.{Formula}
use Rattle.evaluation.specs.Evaluations.{formula_in, value_in, stored, is_false, word_in, turned, false_from}

module _ (g : Assignment) (n i : ℕ) (s : List ℕ) (f : Formula) (e : f ≡ formula_in s n i) (h : i < n) where
  abbrev false_here : Formula → Bool
  false_here f = is_false (value_in s n) f.operation f.a

  left : n - i ≡ suc (n - (i + 1))
  left = omega arith

  pub false-here : is_false (value_in s n) f.operation f.a ≡ true → false_from g n i (n - i) s ≡ i
  unfolding false_from
  false-here t = ap (λ (k : ℕ). false_from g n i k s) left ∙ chosen _ _ (ap false_here (sym e) ∙ t)

  pub false-later : (w : ℕ) (after : List ℕ) → is_false (value_in s n) f.operation f.a ≡ false → w ≡ word_in g n s f → after ≡ stored s n i w →
      false_from g n i (n - i) s ≡ false_from g n (i + 1) (n - (i + 1)) after
  unfolding false_from
  false-later w after t p q =
      ap (λ (k : ℕ). false_from g n i k s) left
      ∙ (passed _ _ (ap false_here (sym e) ∙ t)
      ∙ (ap (λ (f : Formula). false_from g n (suc i) (n - (i + 1)) (stored s n i (word_in g n s f))) (sym e)
      ∙ (ap (λ (v : ℕ). false_from g n (suc i) (n - (i + 1)) (stored s n i v)) (sym p)
      ∙ (ap (false_from g n (suc i) (n - (i + 1))) (sym q)
      ∙ ap (λ (k : ℕ). false_from g n k (n - (i + 1)) after) (sym (add-one i))))))

-- work memory at the next turn
pub turned-next : (g : Assignment) (n i : ℕ) (start s : List ℕ) (f : Formula) (w : ℕ) (after : List ℕ) →
    s ≡ turned g n i start → f ≡ formula_in s n i → w ≡ word_in g n s f → after ≡ stored s n i w → after ≡ turned g n (i + 1) start
unfolding turned
turned-next g n i start s f w after d e p q =
    q ∙ (ap (stored s n i) (p ∙ ap (word_in g n s) e) ∙ (ap (λ (t : List ℕ). stored t n i (word_in g n t (formula_in t n i))) d
    ∙ ap (λ (k : ℕ). turned g n k start) (sym (add-one i))))
