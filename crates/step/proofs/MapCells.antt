-- All cells by address go by the addresses and values below the count alone. Assumes nothing.
use Prim.Native.Nat.{ℕ, ◌+◌, ◌<◌}
use mathlib.Core.Path.{◌≡◌, ap, sym, ◌∙◌, fun_ext}
use mathlib.Core.List.{List}
use native.Mathlib.Omega.{arith}
use native.Mathlib.Decide.{ℕ_discrete}
use lib.ListN.{length, get_or, set}
use lib.Seq.{get_or-set_same, get_or-set_other}
use Rattle.records.proofs.Maps.{holds_same, content-same}
use Rattle.records.specs.Maps.{holds, content}

module _ (f g : ℕ → ℕ) (n : ℕ) (e : (k : ℕ) → k < n → f k ≡ g k) where
  pub all_held : holds f n ≡ holds g n
  all_held = fun_ext (λ a. holds_same f g n a e)

  pub all-content : (v w : ℕ → ℕ) → ((k : ℕ) → k < n → v k ≡ w k) → content f v n ≡ content g w n
  all-content v w d = fun_ext (λ a. content-same f g n a e v w d)

-- one element more is as it should be
pub stored_more : (xs : List ℕ) (k v : ℕ) (g : ℕ → ℕ) → k < length xs → ((j : ℕ) → j < k → get_or xs j 0 ≡ g j) → v ≡ g k →
    (j : ℕ) → j < k + 1 → get_or (set xs k v) j 0 ≡ g j
stored_more xs k v g l p q j h = elim (ℕ_discrete j k) [
  | yes e ↦ ap (λ (i : ℕ). get_or (set xs k v) i 0) e ∙ get_or-set_same xs k v 0 l ∙ q ∙ ap g (sym e)
  | no e ↦ get_or-set_other xs k j v 0 e ∙ p j (omega arith)
]
