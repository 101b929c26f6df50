-- One turn of the loop that reads a cell from the last write back: what it gives, and which memories it looks at. Assumes nothing.
use Prim.Native.Nat.{ℕ, zero, suc, ◌-◌, ◌<◌}
use mathlib.Core.Path.{◌≡◌, ap, sym, ◌∙◌}
use mathlib.Core.Bool.{Bool, true, false, ◌&&◌, ◌||◌}
use mathlib.Core.List.{List, [], ◌∷◌}
use native.Mathlib.Omega.{arith}
use lib.Dec.{eqb}
use Rattle.base.proofs.Choice.{chosen, passed}
use Rattle.table.specs.Formulas.{IF, WRITE}
use Rattle.table.specs.declared.Formula.{Formula}
use Rattle.evaluation.specs.Evaluations.{memory_behind, cell_back, memories_back}

module _ (first : ℕ → ℕ) (formulas : ℕ → Formula) (values : ℕ → ℕ) (m x : ℕ) (f : Formula) (e : f ≡ formulas m) where
  -- a write of address x, and a memory behind which another one lies
  abbrev hits : Formula → Bool
  hits f = eqb f.operation WRITE && eqb x (values f.b)

  abbrev goes_on : Formula → Bool
  goes_on f = eqb f.operation WRITE || eqb f.operation IF

  hits-there : (v : ℕ) (t : Bool) → v ≡ values f.b → (eqb f.operation WRITE && eqb x v) ≡ t → hits (formulas m) ≡ t
  hits-there v t d h = ap hits (sym e) ∙ (ap (λ (w : ℕ). eqb f.operation WRITE && eqb x w) (sym d) ∙ h)

  pub back-hit : (left v : ℕ) → 0 < left → v ≡ values f.b → (eqb f.operation WRITE && eqb x v) ≡ true →
      cell_back first formulas values left m x ≡ values f.c
  unfolding cell_back
  back-hit zero v l d h = absurd (omega arith)
  back-hit (suc left) v l d h = chosen _ _ (hits-there v true d h) ∙ ap (λ (g : Formula). values g.c) (sym e)

  pub back-first : (left v : ℕ) → 0 < left → v ≡ values f.b → (eqb f.operation WRITE && eqb x v) ≡ false →
      (eqb f.operation WRITE || eqb f.operation IF) ≡ false → cell_back first formulas values left m x ≡ first x
  unfolding cell_back
  back-first zero v l d h k = absurd (omega arith)
  back-first (suc left) v l d h k = passed _ _ (hits-there v false d h) ∙ passed _ _ (ap goes_on (sym e) ∙ k)

  pub back_on : (left v : ℕ) → 0 < left → v ≡ values f.b → (eqb f.operation WRITE && eqb x v) ≡ false →
      (eqb f.operation WRITE || eqb f.operation IF) ≡ true →
      cell_back first formulas values left m x ≡ cell_back first formulas values (left - 1) (memory_behind values f.operation f.a f.b f.c) x
  unfolding cell_back
  back_on zero v l d h k = absurd (omega arith)
  back_on (suc left) v l d h k =
      passed _ _ (hits-there v false d h) ∙ (chosen _ _ (ap goes_on (sym e) ∙ k)
      ∙ (ap (λ (g : Formula). cell_back first formulas values left (memory_behind values g.operation g.a g.b g.c) x) (sym e)
      ∙ ap (λ (n : ℕ). cell_back first formulas values n (memory_behind values f.operation f.a f.b f.c) x) less))
    where
      less : left ≡ suc left - 1
      less = omega arith

  -- ---- the memories looked at

  abbrev Visits : ℕ → List ℕ → Type 0
  Visits left memories = memories_back formulas values left m x ≡ m ∷ memories

  pub visits_hit : (left v : ℕ) → 0 < left → v ≡ values f.b → (eqb f.operation WRITE && eqb x v) ≡ true → Visits left []
  unfolding memories_back
  visits_hit zero v l d h = absurd (omega arith)
  visits_hit (suc left) v l d h = ap (λ (ms : List ℕ). m ∷ ms) (chosen _ _ (hits-there v true d h))

  pub visits_first : (left v : ℕ) → 0 < left → v ≡ values f.b → (eqb f.operation WRITE && eqb x v) ≡ false →
      (eqb f.operation WRITE || eqb f.operation IF) ≡ false → Visits left []
  unfolding memories_back
  visits_first zero v l d h k = absurd (omega arith)
  visits_first (suc left) v l d h k = ap (λ (ms : List ℕ). m ∷ ms) (passed _ _ (hits-there v false d h) ∙ passed _ _ (ap goes_on (sym e) ∙ k))

  pub visits_on : (left v : ℕ) → 0 < left → v ≡ values f.b → (eqb f.operation WRITE && eqb x v) ≡ false →
      (eqb f.operation WRITE || eqb f.operation IF) ≡ true →
      Visits left (memories_back formulas values (left - 1) (memory_behind values f.operation f.a f.b f.c) x)
  unfolding memories_back
  visits_on zero v l d h k = absurd (omega arith)
  visits_on (suc left) v l d h k =
      ap (λ (ms : List ℕ). m ∷ ms) (passed _ _ (hits-there v false d h) ∙ (chosen _ _ (ap goes_on (sym e) ∙ k)
      ∙ (ap (λ (g : Formula). memories_back formulas values left (memory_behind values g.operation g.a g.b g.c) x) (sym e)
      ∙ ap (λ (n : ℕ). memories_back formulas values n (memory_behind values f.operation f.a f.b f.c) x) less)))
    where
      less : left ≡ suc left - 1
      less = omega arith
