-- Laws of the places kept in an array: what is read of it, and what a store into it changes. Assumes nothing.
use Prim.Native.Nat.{ℕ, ◌+◌, ◌-◌, ◌≤◌, ◌<◌}
use mathlib.Core.Path.{◌≡◌, refl, ap, sym, ◌∙◌, fun_ext}
use mathlib.Core.Bool.{Bool, true, false, cond, ◌&&◌}
use mathlib.Core.List.{List}
use native.Mathlib.Omega.{arith}
use lib.Dec.{eqb, ltb}
use lib.ListN.{length, get_or, set}
use lib.Seq.{get_or-set_same, get_or-set_other}
use borrow.Author.Tests.{lt-ltb, le-ltb, ltb-true, eq-eqb, ne_eqb, eqb-true}
use Rattle.base.proofs.Choice.{chosen, passed, and_true, and_false, and_right_false, and_left, and_right, clash}
use Rattle.table.specs.Programs.{put}
use Rattle.encoding.specs.Slots.{kind_at, kind_number, Slot, slot, same, start_place, kind_count}
use Rattle.encoding.proofs.KindNumbers.{kind_number_lem}
use Rattle.encoder_slots.specs.Places.{width, index_of, fits, kept_at, place_from, place_of}
use Rattle.encoder_slots.proofs.Rows.{same_kind, same-row-number, same-column-number}

-- ---- what is read

module _ (slots : List ℕ) (kind a b : ℕ) where
  pub kept_in : a < 4 → b < width kind → kept_at slots kind a b ≡ get_or slots (index_of kind a b) 0
  kept_in h k = chosen _ _ (and_true (lt-ltb a 4 h) (lt-ltb b (width kind) k))

  pub kept-no-row : 4 ≤ a → kept_at slots kind a b ≡ 0
  kept-no-row h = passed _ _ (and_false (ltb b (width kind)) (le-ltb a 4 h))

  pub kept-no-column : width kind ≤ b → kept_at slots kind a b ≡ 0
  kept-no-column h = passed _ _ (and_right_false (ltb a 4) (le-ltb b (width kind) h))

  -- where a value lies that was not set, and one that was
  pub place_unset : (start : ℕ) → kept_at slots kind a b ≡ 0 → place_from slots kind a b start ≡ start
  place_unset start e = chosen _ _ (eq-eqb (kept_at slots kind a b) 0 e)

  pub place_set : (start n : ℕ) → kept_at slots kind a b ≡ n → (n ≡ 0 → ⊥) → place_from slots kind a b start ≡ n - 1
  place_set start n e f = passed _ _ (ne_eqb (kept_at slots kind a b) 0 (λ z. f (sym e ∙ z))) ∙ ap (λ (k : ℕ). k - 1) e

-- ---- what a store changes

module _ (slots : List ℕ) (kind a b index : ℕ) (row : a < 4) (column : b < width kind) (room : index_of kind a b < length slots) where
  abbrev stored : List ℕ
  stored = set slots (index_of kind a b) (index + 1)

  -- the place that is set
  here : (start : ℕ) → place_from stored kind a b start ≡ index
  here start =
      place_set stored kind a b start (index + 1)
      (kept_in stored kind a b row column ∙ get_or-set_same slots (index_of kind a b) (index + 1) 0 room)
      (λ (e : index + 1 ≡ 0). omega arith)
      ∙ omega arith

  -- every other one
  kept-elsewhere : (l c d : ℕ) → (l ≡ kind → c ≡ a → d ≡ b → ⊥) → kept_at stored l c d ≡ kept_at slots l c d
  kept-elsewhere l c d f = go (fits l c d) refl
    where
      go : (t : Bool) → fits l c d ≡ t → kept_at stored l c d ≡ kept_at slots l c d
      go true e =
          let p : c < 4 = ltb-true c 4 (and_left _ _ e) in
          let q : d < width l = ltb-true d (width l) (and_right (ltb c 4) _ e) in
          ap (λ (n : ℕ). cond (fits l c d) n 0)
          (get_or-set_other slots (index_of kind a b) (index_of l c d) (index + 1) 0
          (λ (i : index_of l c d ≡ index_of kind a b). f (same_kind kind a b l c d row column p q i) (same-row-number kind a b l c d row column p q i) (same-column-number kind a b l c d row column p q i)))
      go false e = passed _ _ e ∙ sym (passed _ _ e)

  elsewhere : (l c d start : ℕ) → (l ≡ kind → c ≡ a → d ≡ b → ⊥) → place_from stored l c d start ≡ place_from slots l c d start
  elsewhere l c d start f = ap (λ (n : ℕ). cond (eqb n 0) start (n - 1)) (kept-elsewhere l c d f)

  place-stored : (l c d start : ℕ) → place_from stored l c d start ≡ cond (eqb l kind && (eqb c a && eqb d b)) index (place_from slots l c d start)
  place-stored l c d start = go (eqb l kind && (eqb c a && eqb d b)) refl
    where
      go : (t : Bool) → (eqb l kind && (eqb c a && eqb d b)) ≡ t → place_from stored l c d start ≡ cond t index (place_from slots l c d start)
      go true e =
          let rest = and_right (eqb l kind) _ e in
          let p : l ≡ kind = eqb-true l kind (and_left _ _ e) in
          let q : c ≡ a = eqb-true c a (and_left _ _ rest) in
          let r : d ≡ b = eqb-true d b (and_right (eqb c a) _ rest) in
          (λ z. place_from stored (p z) (q z) (r z) start) ∙ here start
      go false e = elsewhere l c d start (λ p q r. clash (and_true (eq-eqb l kind p) (and_true (eq-eqb c a q) (eq-eqb d b r))) e)

  -- a store is a change of the places at one slot
  pub place-put : kind < kind_count → place_of stored ≡ put same (place_of slots) (slot (kind_at kind) a b) index
  place-put h = fun_ext at
    where
      at : (s : Slot) → place_of stored s ≡ put same (place_of slots) (slot (kind_at kind) a b) index s
      at (slot l c d) =
          place-stored (kind_number l) c d (start_place (slot l c d))
          ∙ ap (λ (n : ℕ). cond (eqb (kind_number l) n && (eqb c a && eqb d b)) index (place_of slots (slot l c d))) (sym (kind_number_lem kind h))
