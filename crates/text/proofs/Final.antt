-- Laws of the threads and cells that the lines still to come leave. Assumes nothing.
use Prim.Native.Nat.{ℕ, ◌+◌, ◌≤◌, ◌<◌}
use mathlib.Core.Path.{◌≡◌, refl, ◌∙◌, subst}
use mathlib.Core.List.{List, [], ◌∷◌}
use mathlib.Core.Bool.{Bool, true, false, cond}
use native.Mathlib.Omega.{arith}
use native.Mathlib.Decide.{ℕ_discrete}
use lib.Dec.{eqb}
use lib.ListN.{length}
use borrow.Author.Tests.{eq-eqb, ne_eqb}
use Rattle.base.proofs.Choice.{chosen, passed, cond_both}
use Rattle.text_lines.specs.Lines.{is_dot, statement_line, map_line}
use Rattle.text_lines.specs.declared.Stated.{Stated}
use Rattle.std.specs.Prelude.{Option, None, Some, Result, Ok, Err}
use Rattle.records.specs.declared.Cell.{Cell}
use Rattle.records.specs.declared.refusals.Refusal.{Refusal}
use Rattle.text.proofs.Inserted.{length_inserted}
use Rattle.text.specs.Sections.{Threads, dots, held_added, held_inserted, halt, added, is_complete, gained, closed, line_added, threads_from, cell_added, cells_from}

-- ---- threads

-- U has ended n sections more than T; T's ended threads are as they were, and its open section has lost no statement
pub record Grows (n : ℕ) (T U : Threads) : Type 0 where
  pub more : U.ended ≡ T.ended + n
  pub before : (t : ℕ) → t < T.ended → U.count t ≡ T.count t
  pub kept : T.count T.ended ≤ U.count T.ended

stays : (T : Threads) → Grows 0 T T
stays T = record { more = omega arith; before = λ t h. refl; kept = omega arith }

grows-added : (x : Stated) (T : Threads) → Grows 0 T (added x T)
unfolding added
grows-added x T = record {
  more = omega arith;
  before = λ t h. passed _ _ (ne_eqb t T.ended (omega arith));
  kept = let e = chosen {b = eqb T.ended T.ended} (T.count T.ended + 1) (T.count T.ended) (eq-eqb T.ended T.ended refl) in rw e (omega arith);
}

-- a section's end
grows-closed : (T : Threads) → Grows 1 T (closed T)
unfolding closed gained
grows-closed T = go (is_complete T) refl
  where
    ends : (U : Threads) → Grows 0 T U → Grows 1 T (record { ended = U.ended + 1; count = U.count; statement = U.statement })
    ends U g = record { more = omega (arith, g.more); before = g.before; kept = g.kept }

    go : (b : Bool) → is_complete T ≡ b → Grows 1 T (record { ended = (cond (is_complete T) T (added halt T)).ended + 1; count = (cond (is_complete T) T (added halt T)).count; statement = (cond (is_complete T) T (added halt T)).statement })
    go true e = rw (chosen T (added halt T) e) (ends T (stays T))
    go false e = rw (passed T (added halt T) e) (ends (added halt T) (grows-added halt T))

grows_held : (r : Result (Option Stated) Refusal) (T : Threads) → Grows 0 T (held_added r T)
grows_held (Ok (Some x)) T = grows-added x T
grows_held (Ok None) T = stays T
grows_held (Err refusal) T = stays T

grows-line : (l : List ℕ) (T : Threads) → Grows 0 T (line_added l T)
unfolding line_added
grows-line l T = grows_held (statement_line l) T

grows_then : (m n : ℕ) (T U W : Threads) → Grows m T U → Grows n U W → Grows (m + n) T W
grows_then m n T U W g h = record {
  more = omega (arith, g.more, h.more);
  before = λ t l. h.before t (omega (arith, g.more)) ∙ g.before t l;
  kept = elim (ℕ_discrete m 0) [
    | yes e ↦
        let k : U.ended ≡ T.ended = omega (arith, g.more) in
        let a : U.count T.ended ≤ W.count T.ended = subst (λ (i : ℕ). U.count i ≤ W.count i) k h.kept in
        omega (arith, g.kept, a)
    | no f ↦ let e = h.before T.ended (omega (arith, g.more)) in omega (arith, g.kept, e)
  ];
}

-- one line
abbrev pub turned : List ℕ → List (List ℕ) → Threads → Threads
turned l ls T = cond (is_dot l) (closed T) (cond (eqb (dots ls) 0) T (line_added l T))

pub grows-turned : (l : List ℕ) (ls : List (List ℕ)) (T : Threads) → Grows (cond (is_dot l) 1 0) T (turned l ls T)
grows-turned l ls T = go (is_dot l) refl (eqb (dots ls) 0) refl
  where
    go : (b : Bool) → is_dot l ≡ b → (z : Bool) → eqb (dots ls) 0 ≡ z → Grows (cond (is_dot l) 1 0) T (cond (is_dot l) (closed T) (cond (eqb (dots ls) 0) T (line_added l T)))
    go true e z f = rw e (grows-closed T)
    go false e true f = rw (e, f) (stays T)
    go false e false f = rw (e, f) (grows-line l T)

-- the lines still to come
pub grows_from : (T : Threads) (ls : List (List ℕ)) → Grows (dots ls) T (threads_from T ls)
unfolding dots threads_from
grows_from T [] = stays T
grows_from T (l ∷ ls) = grows_then (cond (is_dot l) 1 0) (dots ls) T (turned l ls T) (threads_from (turned l ls T) ls) (grows-turned l ls T) (grows_from (turned l ls T) ls)

-- ---- cells

length_held : (r : Result (Option Cell) Refusal) (ds : List Cell) → length ds ≤ length (held_inserted r ds)
length_held (Ok (Some c)) ds = omega (arith, length_inserted c ds)
length_held (Ok None) ds = omega arith
length_held (Err refusal) ds = omega arith

length-added : (l : List ℕ) (ds : List Cell) → length ds ≤ length (cell_added l ds)
unfolding cell_added
length-added l ds = length_held (map_line l) ds

pub length_from : (ds : List Cell) (ls : List (List ℕ)) → length ds ≤ length (cells_from ds ls)
unfolding cells_from
length_from ds [] = omega arith
length_from ds (l ∷ ls) =
    let e = cond (eqb (dots (l ∷ ls)) 0) (cell_added l ds) ds in
    let h : length ds ≤ length e = cond_both (λ (es : List Cell). length ds ≤ length es) (eqb (dots (l ∷ ls)) 0) (length-added l ds) (omega arith) in
    omega (arith, h, length_from e ls)
