-- Four things by number, as the code's arrays hold them and as the definitions' functions give them. Assumes nothing.
use Prim.Native.Nat.{ℕ, zero, suc, ◌≤◌, ◌<◌}
use mathlib.Core.Path.{◌≡◌, sym, ◌∙◌, ap, fun_ext}
use mathlib.Core.Bool.{cond}
use mathlib.Core.List.{List, [], ◌∷◌}
use native.Mathlib.Omega.{arith}
use native.Mathlib.Decide.{ℕ_discrete}
use borrow.Author.Tests.{eq-eqb, ne_eqb}
use lib.Dec.{eqb}
use lib.ListN.{length, get_or, set}
use lib.Seq.{get_or-set_same, get_or-set_other}
use Rattle.base.proofs.Choice.{chosen, passed}

-- an array of four, by number
pub four : {A : Type 0} (a b c d rest : A) (f : ℕ → A) → a ≡ f 0 → b ≡ f 1 → c ≡ f 2 → d ≡ f 3 → ((t : ℕ) → 4 ≤ t → rest ≡ f t) →
    (λ t. get_or (a ∷ b ∷ c ∷ d ∷ []) t rest) ≡ f
four a b c d rest f p q r s more = fun_ext at
  where
    at : (t : ℕ) → get_or (a ∷ b ∷ c ∷ d ∷ []) t rest ≡ f t
    at zero = p
    at (suc zero) = q
    at (suc (suc zero)) = r
    at (suc (suc (suc zero))) = s
    at (suc (suc (suc (suc t)))) = more (suc (suc (suc (suc t)))) (omega arith)

-- an array with one element stored anew, by number
pub stored : {A : Type 0} (xs : List A) (i : ℕ) (v rest : A) → i < length xs →
    ◌≡◌ {A = ℕ → A} (λ t. get_or (set xs i v) t rest) (λ t. cond (eqb t i) v (get_or xs t rest))
stored xs i v rest h = fun_ext at
  where
    at : (t : ℕ) → get_or (set xs i v) t rest ≡ cond (eqb t i) v (get_or xs t rest)
    at t = elim (ℕ_discrete t i) [
      | yes e ↦ ap (λ (k : ℕ). get_or (set xs i v) k rest) e ∙ get_or-set_same xs i v rest h ∙ sym (chosen _ _ (eq-eqb t i e))
      | no e ↦ get_or-set_other xs i t v rest e ∙ sym (passed _ _ (ne_eqb t i e))
    ]
