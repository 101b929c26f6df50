-- What acceptance says of a map: few cells, whose addresses strictly ascend; and cells by address. Assumes nothing.
use Prim.Native.Nat.{ℕ, zero, suc, ◌-◌, ◌%◌, ◌≤◌, ◌<◌}
use mathlib.Core.Path.{◌≡◌, refl, ap, sym, ◌∙◌}
use mathlib.Core.Bool.{Bool, true, false, cond, ◌&&◌}
use mathlib.Core.List.{List}
use native.Mathlib.Omega.{arith}
use native.Mathlib.Decide.{ℕ_discrete}
use lib.Dec.{eqb, leb, ltb}
use lib.ListN.{length}
use borrow.Author.Tests.{eqb-true, ltb-true, leb-true, ne_eqb}
use Rattle.base.specs.Below.{every}
use Rattle.base.proofs.Choice.{passed, and_left, and_right}
use Rattle.base.proofs.Below.{every-at, least_ext}
use Rattle.records.specs.Maps.{cells, address_at, ascends_at, map_accepted, cell_at, holds, content}

step : (bytes : List ℕ) (k : ℕ) → ascends_at bytes (suc k) ≡ true → address_at bytes k < address_at bytes (suc k)
unfolding ascends_at
step bytes k e =
    let back : suc k - 1 ≡ k = omega arith in
    rw back at (ltb-true (address_at bytes (suc k - 1)) (address_at bytes (suc k)) (sym (passed _ _ (ne_eqb (suc k) 0 (omega arith))) ∙ e))

module _ (limit : ℕ) (bytes : List ℕ) (ok : map_accepted limit bytes ≡ true) where
  parts : ((eqb (length bytes % 4) 0 && leb (cells bytes) limit) ≡ true) × (every (cells bytes) (ascends_at bytes) ≡ true)
  unfolding map_accepted
  parts =
      let a = eqb (length bytes % 4) 0 && leb (cells bytes) limit in
      let b = every (cells bytes) (ascends_at bytes) in
      (and_left a b ok, and_right a b ok)

  pub whole_cells : length bytes % 4 ≡ 0
  whole_cells = eqb-true (length bytes % 4) 0 (and_left (eqb (length bytes % 4) 0) (leb (cells bytes) limit) parts.0)

  pub few-cells : cells bytes ≤ limit
  few-cells = leb-true (cells bytes) limit (and_right (eqb (length bytes % 4) 0) (leb (cells bytes) limit) parts.0)

  pub ascending : (j k : ℕ) → j < k → k < cells bytes → address_at bytes j < address_at bytes k
  ascending j zero h b = absurd (omega arith)
  ascending j (suc k) h b =
      let next = step bytes k (every-at (ascends_at bytes) (cells bytes) (suc k) parts.1 b) in
      elim (ℕ_discrete j k) [
        | yes e ↦ rw e next
        | no f ↦ omega (arith, next, ascending j k (omega arith) (omega arith))
      ]

-- cells go by the addresses and values below the count alone
module _ (f g : ℕ → ℕ) (n a : ℕ) (e : (k : ℕ) → k < n → f k ≡ g k) where
  same-cell : cell_at f n a ≡ cell_at g n a
  same-cell = least_ext _ _ n (λ k h. ap (λ (x : ℕ). eqb x a) (e k h))

  pub holds_same : holds f n a ≡ holds g n a
  holds_same = ap (λ (i : ℕ). ltb i n) same-cell

  pub content-same : (v w : ℕ → ℕ) → ((k : ℕ) → k < n → v k ≡ w k) → content f v n a ≡ content g w n a
  content-same v w d = ap (λ (i : ℕ). cond (ltb i n) (v i) 0) same-cell ∙ go (holds g n a) refl
    where
      go : (b : Bool) → holds g n a ≡ b → cond (holds g n a) (v (cell_at g n a)) 0 ≡ cond (holds g n a) (w (cell_at g n a)) 0
      go true p = ap (λ (x : ℕ). cond (holds g n a) x 0) (d (cell_at g n a) (ltb-true (cell_at g n a) n p))
      go false p = passed _ _ p ∙ sym (passed _ _ p)
