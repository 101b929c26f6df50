-- The cells of a map of bytes, and of an accepted map: each stands at its address. Assumes nothing.
use Prim.Native.Nat.{ℕ, ◌+◌, ◌*◌, ◌≤◌, ◌<◌}
use mathlib.Core.Path.{◌≡◌, refl, ap, sym, ◌∙◌}
use mathlib.Core.Bool.{true}
use mathlib.Core.List.{List}
use native.Mathlib.Omega.{arith}
use lib.Dec.{eqb}
use borrow.Author.Tests.{ltb-true, lt-ltb, eqb-true, eq-eqb, ne_eqb}
use Rattle.base.proofs.Below.{least-passes, least-hit, least-none}
use Rattle.base.proofs.Choice.{chosen, passed, cond_both, refuted}
use Rattle.records.specs.Maps.{cells, address_at, value_at, cell_at, map_accepted, mapped, map_value}
use Rattle.records.proofs.Maps.{ascending}
use Rattle.encoding.proofs.Bytes.{Bytes, word_below}

module _ (map : List ℕ) where
  -- where the map has a cell at address a
  abbrev at : ℕ → ℕ
  at a = cell_at (address_at map) (cells map) a

  pub found_inside : (a : ℕ) → mapped map a ≡ true → at a < cells map
  found_inside a e = ltb-true (at a) (cells map) e

  pub found-address : (a : ℕ) → mapped map a ≡ true → address_at map (at a) ≡ a
  found-address a e = eqb-true (address_at map (at a)) a (least-passes (λ j. eqb (address_at map j) a) (cells map) (found_inside a e))

  -- a memory that has each cell's value at its address has the map's values
  pub agrees-value : (memory : ℕ → ℕ) → ((j : ℕ) → j < cells map → memory (address_at map j) ≡ value_at map j) →
      (a : ℕ) → mapped map a ≡ true → memory a ≡ map_value map a
  agrees-value memory agrees a e =
      ap memory (sym (found-address a e)) ∙ agrees (at a) (found_inside a e) ∙ sym (chosen _ _ e)

  module _ (h : Bytes map) where
    pub mapped-below : (a : ℕ) → mapped map a ≡ true → a < 65536
    mapped-below a e = omega (arith, found-address a e, word_below map h (4 * at a))

    pub value-below : (a : ℕ) → map_value map a < 65536
    value-below a = cond_both (λ (v : ℕ). v < 65536) (mapped map a) (word_below map h (4 * at a + 2)) (omega arith)

    pub value-beyond : (a : ℕ) → 65536 ≤ a → map_value map a ≡ 0
    value-beyond a l = passed _ _ (refuted (mapped map a) (λ e. let b = mapped-below a e in omega arith))

  module _ (limit : ℕ) (ok : map_accepted limit map ≡ true) (j : ℕ) (inside : j < cells map) where
    own-cell : at (address_at map j) ≡ j
    own-cell = least-hit (λ i. eqb (address_at map i) (address_at map j)) (cells map) j
        (least-none (λ i. eqb (address_at map i) (address_at map j)) j
        (λ i h. let l = ascending limit map ok i j h inside in ne_eqb (address_at map i) (address_at map j) (λ (e : address_at map i ≡ address_at map j). omega arith)))
        (eq-eqb (address_at map j) (address_at map j) refl) inside

    pub own-mapped : mapped map (address_at map j) ≡ true
    own-mapped = lt-ltb (at (address_at map j)) (cells map) (omega (arith, own-cell))

    pub own_value : map_value map (address_at map j) ≡ value_at map j
    own_value = chosen _ _ own-mapped ∙ ap (value_at map) own-cell
