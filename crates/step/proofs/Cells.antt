-- The sparse memory: the cells in use are a part of the arrays, and a store is a write of one cell, whether it is there already or not.
-- Assumes nothing.
use Prim.Native.Nat.{ℕ, ◌+◌, ◌≤◌, ◌<◌}
use mathlib.Core.Path.{◌≡◌, refl, ap, sym, ◌∙◌, fun_ext}
use mathlib.Core.Bool.{Bool, true, false, cond, ◌||◌}
use mathlib.Core.List.{List}
use native.Mathlib.Omega.{arith}
use native.Mathlib.Numerals.{add-one}
use borrow.Author.Tests.{lt-ltb, le-ltb, ltb-true, ltb-false, eq-eqb, ne_eqb, eqb-true, eqb-false}
use lib.Dec.{eqb, ltb}
use lib.ListN.{length, get_or, set, take}
use lib.Seq.{get_or-set_same, get_or-set_other, get_or-take, length-take-le}
use Rattle.base.specs.Below.{least}
use Rattle.base.proofs.Below.{least-passes, least_ext}
use Rattle.base.proofs.Choice.{chosen, passed, or_true, or_false, or_right_true}
use Rattle.records.specs.Maps.{cell_at}
use Rattle.machine.specs.Held.{memory_of, known_of, memory_in, known_in}
use Rattle.machine.specs.Machine.{memory_after, wrote}
use Rattle.machine.specs.Maps.{known_after}

-- ---- the cells in use, cut from the arrays

module _ (adr val : List ℕ) (n : ℕ) (h : n ≤ length adr) where
  pub prefix_cell : (a : ℕ) → cell_at (λ k. get_or (take n adr) k 0) (length (take n adr)) a ≡ cell_at (λ k. get_or adr k 0) n a
  prefix_cell a =
      ap (λ (m : ℕ). cell_at (λ k. get_or (take n adr) k 0) m a) (length-take-le n adr h)
      ∙ least_ext _ _ n (λ k l. ap (λ (x : ℕ). eqb x a) (get_or-take n adr k 0 l))

  prefix_at : (a : ℕ) → memory_in (take n adr) (take n val) a ≡ memory_of adr val n a
  prefix_at a = go (ltb (cell_at (λ k. get_or adr k 0) n a) n) refl
    where
      go : (t : Bool) → ltb (cell_at (λ k. get_or adr k 0) n a) n ≡ t → memory_in (take n adr) (take n val) a ≡ memory_of adr val n a
      go true e =
          (λ i. cond (ltb (prefix_cell a i) (length-take-le n adr h i)) (get_or (take n val) (prefix_cell a i) 0) 0)
          ∙ ap (λ (x : ℕ). cond (ltb (cell_at (λ k. get_or adr k 0) n a) n) x 0) (get_or-take n val (cell_at (λ k. get_or adr k 0) n a) 0 (ltb-true _ _ e))
      go false e =
          (λ i. cond (ltb (prefix_cell a i) (length-take-le n adr h i)) (get_or (take n val) (prefix_cell a i) 0) 0)
          ∙ passed _ _ e ∙ sym (passed _ _ e)

  pub prefix_memory : memory_in (take n adr) (take n val) ≡ memory_of adr val n
  prefix_memory = fun_ext prefix_at

  pub prefix_known : known_in (take n adr) ≡ known_of adr n
  prefix_known = fun_ext (λ a i. ltb (prefix_cell a i) (length-take-le n adr h i))

-- ---- a store

module _ (adr val : List ℕ) (n a v : ℕ) (in_val : n < length val) where
  abbrev at : ℕ
  at = cell_at (λ k. get_or adr k 0) n a

  module _ (found : at < n) where
    hit-memory-at : (b : ℕ) → memory_of adr (set val at v) n b ≡ memory_after (wrote a v) (memory_of adr val n) b
    hit-memory-at b = go (eqb a b) refl
      where
        other : (a ≡ b → ⊥) → (t : Bool) → ltb (cell_at (λ k. get_or adr k 0) n b) n ≡ t →
            memory_of adr (set val at v) n b ≡ memory_of adr val n b
        other f true e =
            let p = eqb-true _ _ (least-passes (λ k. eqb (get_or adr k 0) a) n found) in
            let q = eqb-true _ _ (least-passes (λ k. eqb (get_or adr k 0) b) n (ltb-true _ _ e)) in
            ap (λ (x : ℕ). cond (ltb (cell_at (λ k. get_or adr k 0) n b) n) x 0)
            (get_or-set_other val at (cell_at (λ k. get_or adr k 0) n b) v 0 (λ z. f (sym p ∙ ap (λ (k : ℕ). get_or adr k 0) (sym z) ∙ q)))
        other f false e = passed _ _ e ∙ sym (passed _ _ e)

        go : (t : Bool) → eqb a b ≡ t → memory_of adr (set val at v) n b ≡ memory_after (wrote a v) (memory_of adr val n) b
        go true e =
            let p = eqb-true a b e in
            rw (← p) (chosen _ _ (lt-ltb _ _ found) ∙ get_or-set_same val at v 0 (omega arith) ∙ sym (chosen _ _ (eq-eqb a a refl)))
        go false e = other (eqb-false a b e) (ltb (cell_at (λ k. get_or adr k 0) n b) n) refl ∙ sym (passed _ _ e)

    hit-known-at : (b : ℕ) → known_of adr n b ≡ known_after (wrote a v) (known_of adr n) b
    hit-known-at b = go (eqb a b) refl
      where
        go : (t : Bool) → eqb a b ≡ t → known_of adr n b ≡ known_after (wrote a v) (known_of adr n) b
        go true e = rw (← eqb-true a b e) (lt-ltb _ _ found ∙ sym (or_true (known_of adr n a) (eq-eqb a a refl)))
        go false e = sym (ap (λ (x : Bool). x || known_of adr n b) e)

    pub hit-memory : memory_of adr (set val at v) n ≡ memory_after (wrote a v) (memory_of adr val n)
    hit-memory = fun_ext hit-memory-at

    pub hit-known : known_of adr n ≡ known_after (wrote a v) (known_of adr n)
    hit-known = fun_ext hit-known-at

  module _ (in_adr : n < length adr) (missed : at ≡ n) where
    -- where the cells before the new one have address b
    before : (b : ℕ) → cell_at (λ k. get_or (set adr n a) k 0) n b ≡ cell_at (λ k. get_or adr k 0) n b
    before b = least_ext _ _ n (λ k h. ap (λ (x : ℕ). eqb x b) (get_or-set_other adr n k a 0 (λ (e : k ≡ n). omega arith)))

    -- address b among one cell more: at a cell before, at the new one, or at none
    there : (b : ℕ) → cell_at (λ k. get_or adr k 0) n b < n → cell_at (λ k. get_or (set adr n a) k 0) (n + 1) b ≡ cell_at (λ k. get_or adr k 0) n b
    unfolding least
    there b h = rw (add-one, before b) (chosen _ _ (lt-ltb _ _ h))

    new : (b : ℕ) → n ≤ cell_at (λ k. get_or adr k 0) n b → a ≡ b → cell_at (λ k. get_or (set adr n a) k 0) (n + 1) b ≡ n
    unfolding least
    new b h e = rw (add-one, before b) (passed _ _ (le-ltb _ _ h) ∙ chosen _ _ (eq-eqb _ _ (get_or-set_same adr n a 0 in_adr ∙ e)))

    none : (b : ℕ) → n ≤ cell_at (λ k. get_or adr k 0) n b → (a ≡ b → ⊥) → cell_at (λ k. get_or (set adr n a) k 0) (n + 1) b ≡ n + 1
    unfolding least
    none b h f = rw (add-one, before b) (passed _ _ (le-ltb _ _ h) ∙ passed _ _ (ne_eqb _ _ (λ e. f (sym (get_or-set_same adr n a 0 in_adr) ∙ e))))

    miss_memory-at : (b : ℕ) → memory_of (set adr n a) (set val n v) (n + 1) b ≡ memory_after (wrote a v) (memory_of adr val n) b
    miss_memory-at b = go (ltb (cell_at (λ k. get_or adr k 0) n b) n) refl (eqb a b) refl
      where
        go : (t : Bool) → ltb (cell_at (λ k. get_or adr k 0) n b) n ≡ t → (s : Bool) → eqb a b ≡ s →
            memory_of (set adr n a) (set val n v) (n + 1) b ≡ memory_after (wrote a v) (memory_of adr val n) b
        go true e true f = absurd (let p = eqb-true a b f in let q = ltb-true _ _ e in let r : at < n = rw p q in omega arith)
        go true e false f =
            let q = ltb-true _ _ e in
            rw (there b q)
            (chosen _ _ (lt-ltb (cell_at (λ k. get_or adr k 0) n b) (n + 1) (omega arith)) ∙ get_or-set_other val n (cell_at (λ k. get_or adr k 0) n b) v 0 (λ (z : cell_at (λ k. get_or adr k 0) n b ≡ n). omega arith)
            ∙ sym (passed _ _ f ∙ chosen _ _ e))
        go false e true f =
            rw (new b (ltb-false _ _ e) (eqb-true a b f))
            (chosen _ _ (lt-ltb n (n + 1) (omega arith)) ∙ get_or-set_same val n v 0 in_val ∙ sym (chosen _ _ f))
        go false e false f =
            rw (none b (ltb-false _ _ e) (eqb-false a b f))
            (passed _ _ (le-ltb (n + 1) (n + 1) (omega arith)) ∙ sym (passed _ _ f ∙ passed _ _ e))

    miss_known-at : (b : ℕ) → known_of (set adr n a) (n + 1) b ≡ known_after (wrote a v) (known_of adr n) b
    miss_known-at b = go (ltb (cell_at (λ k. get_or adr k 0) n b) n) refl (eqb a b) refl
      where
        go : (t : Bool) → ltb (cell_at (λ k. get_or adr k 0) n b) n ≡ t → (s : Bool) → eqb a b ≡ s →
            known_of (set adr n a) (n + 1) b ≡ known_after (wrote a v) (known_of adr n) b
        go true e s f = rw (there b (ltb-true _ _ e)) (lt-ltb (cell_at (λ k. get_or adr k 0) n b) (n + 1) (omega (arith, ltb-true (cell_at (λ k. get_or adr k 0) n b) n e)) ∙ sym (or_right_true (eqb a b) e))
        go false e true f = rw (new b (ltb-false _ _ e) (eqb-true a b f)) (lt-ltb n (n + 1) (omega arith) ∙ sym (or_true (known_of adr n b) f))
        go false e false f = rw (none b (ltb-false _ _ e) (eqb-false a b f)) (le-ltb (n + 1) (n + 1) (omega arith) ∙ sym (or_false f e))

    pub miss_memory : memory_of (set adr n a) (set val n v) (n + 1) ≡ memory_after (wrote a v) (memory_of adr val n)
    miss_memory = fun_ext miss_memory-at

    pub miss_known : known_of (set adr n a) (n + 1) ≡ known_after (wrote a v) (known_of adr n)
    miss_known = fun_ext miss_known-at
