-- The cells of a text's map by the lines that hold them (specs/Sections.antt states it). Assumes nothing.
use Prim.Native.Nat.{ℕ, zero, suc, ◌≤◌, ◌<◌}
use mathlib.Core.Path.{◌≡◌, refl, ap, sym, subst, ◌∙◌}
use mathlib.Core.Bool.{true, false, cond}
use mathlib.Core.List.{List, []}
use mathlib.Core.Logic.{⊎_elim}
use native.Mathlib.Omega.{arith}
use native.Mathlib.Decide.{ℕ_discrete}
use lib.Dec.{eqb}
use lib.ListN.{length, drop}
use lib.Seq.{drop-cons, drop-length}
use borrow.Author.Tests.{eqb-true, eqb-false, eq-eqb, ne_eqb}
use Rattle.base.proofs.Below.{number-yes, number-no}
use Rattle.base.specs.Below.{number}
use Rattle.base.proofs.Choice.{and_true, and_false, and_right_false, clash}
use Rattle.text_lines.specs.Lines.{lines, map_line}
use Rattle.std.specs.Prelude.{Option, None, Some, Result, Ok, Err}
use Rattle.records.specs.declared.Cell.{Cell}
use Rattle.records.specs.declared.refusals.Refusal.{Refusal}
use Rattle.text.specs.Sections.{dots, holds, held_inserted, inserted, cell_added, cells_from, cells}
use Rattle.text.proofs.Below.{cond_where}
use Rattle.text.proofs.Inserted.{In, in_at, at_in, length_inserted, inserted_in, inserted-keeps, inserted-from}
use Rattle.claims.specs.Sections.{line, sections, section_of, holds_cell, CellsAreTheMap}
use Rattle.claims.proofs.Sections.{dots-after}

module _ (text : List ℕ) where
  -- ---- the cells after i lines

  abbrev following : ℕ → List Cell → List Cell
  following i cs = cond (eqb (dots (drop i (lines text))) 0) (cell_added (line text i) cs) cs

  unfoldable after : ℕ → List Cell
  after zero = []
  after (suc i) = following i (after i)

  after-rest : (i : ℕ) → i ≤ length (lines text) → cells_from (after i) (drop i (lines text)) ≡ cells (lines text)
  unfolding after cells_from
  after-rest zero h = refl
  after-rest (suc i) h =
      let here = drop-cons (lines text) i [] h in
      ap (λ (rest : List (List ℕ)). cells_from (cond (eqb (dots rest) 0) (cell_added (line text i) (after i)) (after i)) (drop (suc i) (lines text))) here
      ∙ sym (ap (cells_from (after i)) here) ∙ after-rest i (omega arith)

  after-all : after (length (lines text)) ≡ cells (lines text)
  unfolding cells_from
  after-all = sym (ap (cells_from (after (length (lines text)))) (drop-length (lines text))) ∙ after-rest (length (lines text)) (omega arith)

  -- ---- what holds after i lines

  pub record Listed (i : ℕ) (cs : List Cell) : Type 0 where
    pub count : length cs ≡ number i (holds_cell text)
    pub listed : (j : ℕ) → j < i → holds_cell text j ≡ true → (c : Cell) × In c cs × (map_line (line text j) ≡ Ok (Some c))
    pub held : (c : Cell) → In c cs → (j : ℕ) × (j < i) × (holds_cell text j ≡ true) × (map_line (line text j) ≡ Ok (Some c))

  listed_same : (i : ℕ) (cs : List Cell) → holds_cell text i ≡ false → Listed i cs → Listed (suc i) cs
  listed_same i cs f o = record {
    count = o.count ∙ sym (number-no (holds_cell text) i f);
    listed = λ j h e. elim (ℕ_discrete j i) [
      | yes q ↦ clash (sym (ap (holds_cell text) q) ∙ e) f
      | no g ↦ o.listed j (omega arith) e
    ];
    held = λ c m. let r = o.held c m in (r.0, omega (arith, r.1), r.2, r.3);
  }

  listed_more : (i : ℕ) (cs : List Cell) (c : Cell) → map_line (line text i) ≡ Ok (Some c) → holds_cell text i ≡ true → Listed i cs → Listed (suc i) (inserted c cs)
  listed_more i cs c is e o = record {
    count = omega (arith, length_inserted c cs, o.count, number-yes (holds_cell text) i e);
    listed = λ j h f. elim (ℕ_discrete j i) [
      | yes q ↦ (c, inserted_in c cs, ap (λ (k : ℕ). map_line (line text k)) q ∙ is)
      | no g ↦ let r = o.listed j (omega arith) f in (r.0, inserted-keeps r.0 c cs r.1, r.2)
    ];
    held = λ d m. ⊎_elim (λ q. (i, omega arith, e, is ∙ ap (λ (x : Cell). Ok (Some x)) (sym q))) (λ n. let r = o.held d n in (r.0, omega (arith, r.1), r.2, r.3)) (inserted-from d c cs m);
  }

  listed_next : (i : ℕ) (cs : List Cell) → i < length (lines text) → Listed i cs → Listed (suc i) (following i cs)
  unfolding cell_added
  listed_next i cs h o =
      let left = dots-after text i (omega arith) in
      cond_where (Listed (suc i)) (eqb (dots (drop i (lines text))) 0)
      (λ z. let last = eq-eqb (section_of text i) (sections text) (omega (arith, eqb-true (dots (drop i (lines text))) 0 z)) in
      held (map_line (line text i)) refl last)
      (λ z. let some = eqb-false (dots (drop i (lines text))) 0 z in
      listed_same i cs (and_false (holds (map_line (line text i))) (ne_eqb (section_of text i) (sections text) (λ e. some (omega arith)))) o)
    where
      held : (r : Result (Option Cell) Refusal) → map_line (line text i) ≡ r → eqb (section_of text i) (sections text) ≡ true → Listed (suc i) (held_inserted r cs)
      held (Ok (Some c)) e last = listed_more i cs c e (and_true last (ap holds e)) o
      held (Ok None) e last = listed_same i cs (and_right_false (eqb (section_of text i) (sections text)) (ap holds e)) o
      held (Err refusal) e last = listed_same i cs (and_right_false (eqb (section_of text i) (sections text)) (ap holds e)) o

  listed-after : (i : ℕ) → i ≤ length (lines text) → Listed i (after i)
  unfolding after number
  listed-after zero h = record { count = refl; listed = λ j l e. absurd (omega arith); held = λ c m. absurd m }
  listed-after (suc i) h = listed_next i (after i) h (listed-after i (omega arith))

pub cells_are_the_map : CellsAreTheMap
cells_are_the_map text =
    let n = length (lines text) in
    let cs = cells (lines text) in
    let o = subst (Listed text n) (after-all text) (listed-after text n (omega arith)) in
    record {
      count = o.count;
      listed = λ i h e. let r = o.listed i h e in let k = in_at r.0 cs r.1 in (k.0, k.1, r.2 ∙ ap (λ (c : Cell). Ok (Some c)) (sym k.2));
      held = λ k h. o.held _ (at_in cs k h);
    }
