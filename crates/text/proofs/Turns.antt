-- Laws of one line taken: a section's end, a cell, a statement. Assumes nothing.
use Prim.Native.Nat.{ℕ, ◌+◌, ◌-◌, ◌*◌, ◌≤◌, ◌<◌}
use mathlib.Core.Path.{◌≡◌, refl, ap, ap₂, sym, ◌∙◌}
use mathlib.Core.List.{List, []}
use mathlib.Core.Bool.{Bool, true, false, cond, not, ◌&&◌, ◌||◌}
use native.Mathlib.Omega.{arith}
use native.Mathlib.Nat.{add-zero}
use native.Mathlib.Decide.{ℕ_discrete}
use lib.Dec.{eqb, ltb}
use lib.ListN.{get_or}
use borrow.Author.Tests.{eq-eqb, lt-ltb, ltb-true, ltb-false}
use Rattle.base.proofs.Choice.{chosen, passed, and_left, and_right, and_true, and_false, and_right_false, or_true, or_right_true, or_left, or_right, clash}
use Rattle.text_lines.specs.Lines.{is_dot, statement_line, map_line}
use Rattle.records.specs.Instructions.{is_last}
use Rattle.text_drafts.specs.Blocks.{block_at}
use Rattle.text.specs.Drafts.{threads_in}
use Rattle.text.specs.Readings.{threads_kept, cells_kept, open_count, line_refusal, Adds, Closes, Maps, Takes, misfits}
use Rattle.text.specs.Sections.{Threads, halt, holds, held_added, held_inserted, added, is_complete, gained, closed, line_added, cell_added}
use Rattle.std.specs.Prelude.{Option, None, Some, Result, Ok, Err}
use Rattle.std.specs.Result.{result_err}
use Rattle.records.specs.declared.Cell.{Cell}
use Rattle.records.specs.declared.refusals.Refusal.{Refusal}
use Rattle.text_lines.specs.declared.Stated.{Stated}
use Rattle.text.specs.declared.Reading.{Reading}
use Rattle.text.proofs.Kept.{complete}
use Rattle.text.proofs.Statements.{added-count}

-- r with a line number of its own
abbrev pub numbered : ℕ → Reading → Reading
numbered line r = record { fits = r.fits; ended = r.ended; counts = r.counts; cells = r.cells; line = line }

-- ---- how many statements the open section has

-- what holds of a section without and with the HALT it gains holds of its end
closed_open : (T : Threads) → (closed T).count T.ended ≡ cond (is_complete T) (T.count T.ended) (T.count T.ended + 1)
unfolding closed gained
closed_open T = go (is_complete T) refl
  where
    go : (b : Bool) → is_complete T ≡ b → (cond (is_complete T) T (added halt T)).count T.ended ≡ cond (is_complete T) (T.count T.ended) (T.count T.ended + 1)
    go true e = ap (λ (U : Threads). U.count T.ended) (chosen T (added halt T) e) ∙ sym (chosen _ _ e)
    go false e = ap (λ (U : Threads). U.count T.ended) (passed T (added halt T) e) ∙ added-count halt T ∙ sym (passed _ _ e)

-- the end of a section that does not fit
closed-misfits : (r : Reading) (draft : List ℕ) →
    (ltb 0 (open_count r) && (is_last (block_at draft (32 * r.ended + (open_count r - 1))).number || ltb (open_count r) 32)) ≡ false →
    misfits true ((closed (threads_kept r draft)).count r.ended) ≡ true
closed-misfits r draft e = ap (misfits true) (closed_open T) ∙ elim (ℕ_discrete n 0) [
  | yes z ↦
      ap (misfits true) (chosen {b = is_complete T} n (n + 1) (or_true _ (eq-eqb n 0 z)))
      ∙ or_right_true (ltb 32 n) (eq-eqb n 0 z)
  | no f ↦
      let some : 0 < n = omega arith in
      let both : (is_last (block_at draft (32 * r.ended + (n - 1))).number || ltb n 32) ≡ false = sym (ap (λ (b : Bool). b && (is_last (block_at draft (32 * r.ended + (n - 1))).number || ltb n 32)) (lt-ltb 0 n some)) ∙ e in
      let full : 32 ≤ n = ltb-false n 32 (or_right (is_last (block_at draft (32 * r.ended + (n - 1))).number) (ltb n 32) both) in
      ap (misfits true) (passed {b = is_complete T} n (n + 1) (complete draft r.counts r.ended some ∙ or_left (is_last (block_at draft (32 * r.ended + (n - 1))).number) (ltb n 32) both))
      ∙ or_true _ (lt-ltb 32 (n + 1) (omega arith))
]
  where
    T : Threads
    T = threads_kept r draft

    n : ℕ
    n = open_count r

-- ---- the three kinds of lines

module _ (l : List ℕ) (left : ℕ) (r : Reading) (draft keys : List ℕ) where
  pub took_dot : is_dot l ≡ true → (r' : Reading) (draft' : List ℕ) → Closes r draft r' draft' → Takes l left r draft keys (numbered (r.line + 1) r') draft' keys
  took_dot dot r' draft' c = record {
    good = chosen _ _ dot;
    line = refl;
    ended = c.ended ∙ ap (λ (b : Bool). r.ended + cond b 1 0) (sym dot);
    sound = c.sound;
    threads = λ sound fits. (and_left r.fits (ltb r.ended 4) (and_left _ (ltb 0 (open_count r)) (and_left _ _ (sym c.fits ∙ fits))), c.threads sound fits ∙ sym (chosen _ _ dot));
    same = λ plain none. clash dot plain;
    some = λ fits e. ltb-true 0 (open_count r) (and_right (r.fits && ltb r.ended 4) (ltb 0 (open_count r)) (and_left _ _ (sym c.fits ∙ fits)));
    lost = λ sound fit four unfit.
        let e = sym (ap₂ (λ (a b : Bool). a && b && ltb 0 (open_count r) && (is_last (block_at draft (32 * r.ended + (open_count r - 1))).number || ltb (open_count r) 32)) fit (lt-ltb r.ended 4 four)) ∙ sym c.fits ∙ unfit in
        ap₂ (λ (b : Bool) (T : Threads). misfits b (T.count r.ended)) dot (chosen _ _ dot) ∙ closed-misfits r draft e;
    room = refl;
    number = λ few full. c.cells ∙ sym (passed _ _ (ap (λ (b : Bool). not b && eqb left 0 && holds (map_line l)) dot));
    cells = λ full few. ap (λ (n : ℕ). cells_kept (record { fits = true; ended = 0; counts = []; cells = n; line = 0 }) keys) c.cells ∙ sym (chosen _ _ dot);
  }

  -- a line that ends no section
  no_end : is_dot l ≡ false → (n : ℕ) → n ≡ r.ended → n ≡ r.ended + cond (is_dot l) 1 0
  no_end plain n e = e ∙ sym (add-zero r.ended) ∙ ap (λ (b : Bool). r.ended + cond b 1 0) (sym plain)

  -- of the map
  module _ (plain : is_dot l ≡ false) (none : eqb left 0 ≡ true) where
    pub took_cell : (c : Cell) → map_line l ≡ Ok (Some c) → (r' : Reading) (keys' : List ℕ) → Maps c r keys r' keys' → Takes l left r draft keys (numbered (r.line + 1) r') draft keys'
    unfolding cell_added
    took_cell c is r' keys' m = record {
      good = passed _ _ plain ∙ chosen _ _ none ∙ ap result_err is;
      line = refl;
      ended = no_end plain r'.ended m.ended;
      sound = λ sound. ((λ t. let e = ap (λ (counts : List ℕ). get_or counts t 0) m.counts in rw e (sound.0 t)), sound.1);
      threads = λ sound fits. (sym m.fits ∙ fits, ap₂ (λ (ended : ℕ) (counts : List ℕ). threads_in draft ended counts) m.ended m.counts ∙ sym (passed _ _ plain ∙ chosen _ _ none));
      same = λ plain none. m.fits;
      some = λ fits dot. clash dot plain;
      lost = λ sound fit four unfit. clash (m.fits ∙ fit) unfit;
      room = m.room;
      number = λ few full. m.number few full ∙ sym (chosen _ _ (and_true (and_true (ap not plain) none) (ap holds is)));
      cells = λ full few. m.cells full few ∙ sym (passed _ _ plain ∙ chosen _ _ none ∙ ap (λ (s : Result (Option Cell) Refusal). held_inserted s (cells_kept r keys)) is);
    }

    pub took-no-cell : map_line l ≡ Ok None → Takes l left r draft keys (numbered (r.line + 1) r) draft keys
    unfolding cell_added
    took-no-cell is = record {
      good = passed _ _ plain ∙ chosen _ _ none ∙ ap result_err is;
      line = refl;
      ended = no_end plain r.ended refl;
      sound = λ sound. sound;
      threads = λ sound fits. (fits, sym (passed _ _ plain ∙ chosen _ _ none));
      same = λ plain none. refl;
      some = λ fits dot. clash dot plain;
      lost = λ sound fit four unfit. clash fit unfit;
      room = refl;
      number = λ few full. sym (passed _ _ (and_right_false (not (is_dot l) && eqb left 0) (ap holds is)));
      cells = λ full few. sym (passed _ _ plain ∙ chosen _ _ none ∙ ap (λ (s : Result (Option Cell) Refusal). held_inserted s (cells_kept r keys)) is);
    }

  -- of a thread
  module _ (plain : is_dot l ≡ false) (more : eqb left 0 ≡ false) where
    pub took_statement : (x : Stated) → statement_line l ≡ Ok (Some x) → (r' : Reading) (draft' : List ℕ) → Adds x r draft r' draft' → Takes l left r draft keys (numbered (r.line + 1) r') draft' keys
    unfolding line_added
    took_statement x is r' draft' s = record {
      good = passed _ _ plain ∙ passed _ _ more ∙ ap result_err is;
      line = refl;
      ended = no_end plain r'.ended s.ended;
      sound = s.sound;
      threads = λ sound fits. (and_left r.fits (ltb r.ended 4) (and_left _ (ltb (open_count r) 32) (sym s.fits ∙ fits)), s.threads sound fits ∙ sym after);
      same = λ plain none. clash none more;
      some = λ fits dot. clash dot plain;
      lost = λ sound fit four unfit.
          ap₂ (λ (b : Bool) (T : Threads). misfits b (T.count r.ended)) plain after ∙ full fit four (sym s.fits ∙ unfit);
      room = refl;
      number = λ few all. s.cells ∙ sym (passed _ _ (and_false _ (and_right_false (not (is_dot l)) more)));
      cells = λ all few. ap (λ (n : ℕ). cells_kept (record { fits = true; ended = 0; counts = []; cells = n; line = 0 }) keys) s.cells ∙ sym (passed _ _ plain ∙ passed _ _ more);
    }
      where
        after : cond (is_dot l) (closed (threads_kept r draft)) (cond (eqb left 0) (threads_kept r draft) (held_added (statement_line l) (threads_kept r draft))) ≡ added x (threads_kept r draft)
        after = passed _ _ plain ∙ passed _ _ more ∙ ap (λ (s : Result (Option Stated) Refusal). held_added s (threads_kept r draft)) is

        full : r.fits ≡ true → r.ended < 4 → (r.fits && ltb r.ended 4 && ltb (open_count r) 32) ≡ false → misfits false ((added x (threads_kept r draft)).count r.ended) ≡ true
        full f four u =
            let none : ltb (open_count r) 32 ≡ false = sym (ap₂ (λ (a b : Bool). a && b && ltb (open_count r) 32) f (lt-ltb r.ended 4 four)) ∙ u in
            let h : 32 ≤ open_count r = ltb-false (open_count r) 32 none in
            ap (misfits false) (added-count x (threads_kept r draft))
            ∙ or_true _ (lt-ltb 32 (open_count r + 1) (omega arith))

    pub took-no-statement : statement_line l ≡ Ok None → Takes l left r draft keys (numbered (r.line + 1) r) draft keys
    unfolding line_added
    took-no-statement is = record {
      good = passed _ _ plain ∙ passed _ _ more ∙ ap result_err is;
      line = refl;
      ended = no_end plain r.ended refl;
      sound = λ sound. sound;
      threads = λ sound fits. (fits, sym (passed _ _ plain ∙ passed _ _ more ∙ ap (λ (s : Result (Option Stated) Refusal). held_added s (threads_kept r draft)) is));
      same = λ plain none. clash none more;
      some = λ fits dot. clash dot plain;
      lost = λ sound fit four unfit. clash fit unfit;
      room = refl;
      number = λ few all. sym (passed _ _ (and_false _ (and_right_false (not (is_dot l)) more)));
      cells = λ all few. sym (passed _ _ plain ∙ passed _ _ more);
    }

  -- a line that is refused
  pub refused_cell : is_dot l ≡ false → eqb left 0 ≡ true → (refusal : Refusal) → map_line l ≡ Err refusal → line_refusal l left ≡ Some refusal
  refused_cell plain none refusal is = passed _ _ plain ∙ chosen _ _ none ∙ ap result_err is

  pub refused_statement : is_dot l ≡ false → eqb left 0 ≡ false → (refusal : Refusal) → statement_line l ≡ Err refusal → line_refusal l left ≡ Some refusal
  refused_statement plain more refusal is = passed _ _ plain ∙ passed _ _ more ∙ ap result_err is
