-- What holds where a line starts: what is kept, and the lines still to come, give the whole text. Assumes nothing.
use Prim.Native.Nat.{ℕ, suc, ◌+◌, ◌*◌, ◌≤◌, ◌<◌, min}
use mathlib.Core.Path.{◌≡◌, refl, ap, ap₂, sym, ◌∙◌, subst}
use mathlib.Core.List.{List, [], ◌∷◌}
use mathlib.Core.Bool.{Bool, true, false, cond, not, ◌&&◌, ◌||◌}
use native.Mathlib.Omega.{arith}
use native.Mathlib.Nat.{min-eq_left, min-eq_right}
use native.Mathlib.Decide.{ℕ_discrete, dec_lt}
use lib.Dec.{eqb, ltb, leb}
use lib.ListN.{length, get_or, take, replicate, length-replicate, get_or-replicate, get_or-eq_default}
use lib.Seq.{length-take-le}
use borrow.Author.Tests.{eq-eqb, ne_eqb, eqb-true, lt-ltb, le-ltb, lt-leb, le-leb, leb-true}
use Rattle.base.specs.Below.{every}
use Rattle.base.proofs.Below.{every-not, every-all}
use Rattle.base.proofs.Choice.{chosen, passed, and_true, and_false, and_left, and_right, and_right_false, clash}
use Rattle.text_lines.specs.Characters.{is_in_line}
use Rattle.text_lines.specs.Lines.{lines, extended, is_dot, statement_line, map_line}
use Rattle.records.specs.declared.Cell.{Cell}
use Rattle.text.specs.Answers.{refusal_in, refused_or, in_lines, threads_fit, statements_fit}
use Rattle.text_drafts.specs.Blocks.{block_at, draft_length}
use Rattle.text.specs.Drafts.{drafted, threads_in, cells_of}
use Rattle.text.specs.Readings.{threads_kept, cells_kept, Sound, line_refusal, Takes, Reads, threads_after, cells_after, misfits}
use Rattle.text.specs.Sections.{Threads, no_threads, halt, dots, holds, held_inserted, line_added, closed, threads_from, threads, cell_added, cells_from, cells}
use Rattle.std.specs.Prelude.{Option, None, Some, Result, Ok, Err}
use Rattle.std.specs.List.{count_by}
use Rattle.std.proofs.lemmas.Grind.{common_steps}
use Rattle.std.proofs.lemmas.List.Sums.{sum_by-cons}
use Rattle.std.specs.Result.{result_err}
use Rattle.records.specs.declared.refusals.Refusal.{Refusal}
use Rattle.records.specs.declared.refusals.Refused.{Refused}
use Rattle.text.specs.declared.Counts.{Counts}
use Rattle.text.specs.declared.Reading.{Reading}
use Rattle.text.proofs.Carried.{cells-length}
use Rattle.text.proofs.Final.{turned, Grows, grows-turned, grows_from, length_from}
use Rattle.text.proofs.Inserted.{length_inserted}

-- the lines `rest` are still to come
pub record At (text : List ℕ) (r : Reading) (draft keys : List ℕ) (rest : List (List ℕ)) : Type 0 where
  pub passed : (next : Result Counts Refused) → in_lines 1 (lines text) next ≡ in_lines (r.line + 1) rest next
  pub counted : length (lines text) ≡ r.line + length rest
  pub ended : dots (lines text) ≡ r.ended + dots rest
  pub sound : Sound r draft
  pub kept : r.fits ≡ true → threads (lines text) ≡ threads_from (threads_kept r draft) rest
  pub fit : r.fits ≡ true → dots (lines text) ≤ 4
  pub some : r.fits ≡ true → (t : ℕ) → t < r.ended → 0 < get_or r.counts t 0
  pub lost : r.fits ≡ false → threads_fit (threads (lines text)) ≡ true → statements_fit (threads (lines text)) ≡ false
  pub room : length keys ≡ 128
  pub most : r.cells ≤ 129
  pub few : r.cells ≤ 128 → cells (lines text) ≡ cells_from (cells_kept r keys) rest
  pub many : 128 < r.cells → 128 < length (cells (lines text))

-- ---- one line

module _ (l : List ℕ) (ls : List (List ℕ)) where
  -- the dots from l on tell what the dots after l tell, where l ends no section
  left_is : is_dot l ≡ false → dots (l ∷ ls) ≡ dots ls
  unfolding dots
  left_is plain = let e = ap (λ (b : Bool). cond b 1 0 + dots ls) plain in omega (arith, e)

  left-some : is_dot l ≡ true → eqb (dots (l ∷ ls)) 0 ≡ false
  unfolding dots
  left-some dot = let e = ap (λ (b : Bool). cond b 1 0 + dots ls) dot in ne_eqb (cond (is_dot l) 1 0 + dots ls) 0 (omega (arith, e))

  pub refusal_is : line_refusal l (dots (l ∷ ls)) ≡ refusal_in l ls
  unfolding refusal_in
  refusal_is = go (is_dot l) refl
    where
      go : (b : Bool) → is_dot l ≡ b → line_refusal l (dots (l ∷ ls)) ≡ cond (is_dot l) None (cond (eqb (dots ls) 0) (result_err (map_line l)) (result_err (statement_line l)))
      go true e = chosen _ _ e ∙ sym (chosen _ _ e)
      go false e = ap (λ (n : ℕ). cond (is_dot l) None (cond (eqb n 0) (result_err (map_line l)) (result_err (statement_line l)))) (left_is e)

  threads-is : (T : Threads) → threads_after l (dots (l ∷ ls)) T ≡ turned l ls T
  threads-is T = go (is_dot l) refl
    where
      go : (b : Bool) → is_dot l ≡ b → threads_after l (dots (l ∷ ls)) T ≡ turned l ls T
      go true e = chosen _ _ e ∙ sym (chosen _ _ e)
      go false e = ap (λ (n : ℕ). cond (is_dot l) (closed T) (cond (eqb n 0) T (line_added l T))) (left_is e)

  cells_is : (ds : List Cell) → cells_after l (dots (l ∷ ls)) ds ≡ cond (eqb (dots (l ∷ ls)) 0) (cell_added l ds) ds
  cells_is ds = go (is_dot l) refl
    where
      go : (b : Bool) → is_dot l ≡ b → cells_after l (dots (l ∷ ls)) ds ≡ cond (eqb (dots (l ∷ ls)) 0) (cell_added l ds) ds
      go true e = chosen _ _ e ∙ sym (passed _ _ (left-some e))
      go false e = passed _ _ e

-- a line of the map that holds a cell adds one
held-more : (r : Result (Option Cell) Refusal) (ds : List Cell) → holds r ≡ true → length (held_inserted r ds) ≡ suc (length ds)
held-more (Ok (Some c)) ds e = length_inserted c ds
held-more (Ok None) ds e = clash e refl
held-more (Err refusal) ds e = clash e refl

-- a count that does not fit makes the test of the threads fail
unfit : (dot : Bool) (n : ℕ) → misfits dot n ≡ true → (dot ≡ false → 32 < n) × ((ltb 0 n && leb n 32) ≡ false)
unfit dot n e = elim (dec_lt 32 n) [
  | yes h ↦ ((λ d. h), and_right_false (ltb 0 n) (lt-leb n 32 h))
  | no h ↦ (let f : (dot && eqb n 0) ≡ true = sym (ap (λ (b : Bool). b || dot && eqb n 0) (le-ltb 32 n (omega arith))) ∙ e in (
    (λ d. clash (and_left dot (eqb n 0) f) d),
    and_false _ (le-ltb 0 n (let z = eqb-true n 0 (and_right dot (eqb n 0) f) in omega arith)),
  ))
]

-- threads that cease to fit in line l
ceases : (l : List ℕ) (ls : List (List ℕ)) (T : Threads) → (is_dot l ≡ false → 0 < dots ls) → misfits (is_dot l) ((turned l ls T).count T.ended) ≡ true →
    (turned l ls T).ended ≡ T.ended + cond (is_dot l) 1 0 → statements_fit (threads_from (turned l ls T) ls) ≡ false
unfolding statements_fit
ceases l ls T some bad up = go (is_dot l) refl
  where
    go : (b : Bool) → is_dot l ≡ b → every (threads_from (turned l ls T) ls).ended (λ t. ltb 0 ((threads_from (turned l ls T) ls).count t) && leb ((threads_from (turned l ls T) ls).count t) 32) ≡ false
    go true e =
        let g = grows_from (turned l ls T) ls in
        let one = chosen {A = ℕ} 1 0 e in
        let same = g.before T.ended (omega (arith, up, one)) in
        every-not (λ t. ltb 0 ((threads_from (turned l ls T) ls).count t) && leb ((threads_from (turned l ls T) ls).count t) 32) (threads_from (turned l ls T) ls).ended T.ended
        (omega (arith, g.more, up, one))
        (ap (λ (n : ℕ). ltb 0 n && leb n 32) same ∙ (unfit (is_dot l) ((turned l ls T).count T.ended) bad).1)
    go false e =
        let g = grows_from (turned l ls T) ls in
        let none = passed {A = ℕ} 1 0 e in
        let here : (turned l ls T).ended ≡ T.ended = omega (arith, up, none) in
        let big = (unfit (is_dot l) ((turned l ls T).count T.ended) bad).0 e in
        let more : (turned l ls T).count T.ended ≤ (threads_from (turned l ls T) ls).count T.ended = subst (λ (i : ℕ). (turned l ls T).count i ≤ (threads_from (turned l ls T) ls).count i) here g.kept in
        every-not (λ t. ltb 0 ((threads_from (turned l ls T) ls).count t) && leb ((threads_from (turned l ls T) ls).count t) 32) (threads_from (turned l ls T) ls).ended T.ended
        (omega (arith, g.more, here, some e))
        (and_right_false (ltb 0 ((threads_from (turned l ls T) ls).count T.ended)) (lt-leb ((threads_from (turned l ls T) ls).count T.ended) 32 (omega (arith, big, more))))

module _ (text : List ℕ) (r : Reading) (draft keys : List ℕ) (l : List ℕ) (ls : List (List ℕ)) (at : At text r draft keys (l ∷ ls)) where
  -- the line is refused
  pub refused-here : (refusal : Refusal) → line_refusal l (dots (l ∷ ls)) ≡ Some refusal → (next : Result Counts Refused) →
      in_lines 1 (lines text) next ≡ Err (record { refusal = refusal; place = r.line + 1 })
  unfolding in_lines
  refused-here refusal e next =
      at.passed next
      ∙ ap (λ (o : Option Refusal). refused_or o (r.line + 1) (in_lines (suc (r.line + 1)) ls next)) (sym (refusal_is l ls) ∙ e)

  -- it is not
  module _ (r' : Reading) (draft' keys' : List ℕ) (took : Takes l (dots (l ∷ ls)) r draft keys r' draft' keys') where
    next-passed : (next : Result Counts Refused) → in_lines 1 (lines text) next ≡ in_lines (r'.line + 1) ls next
    unfolding in_lines
    next-passed next =
        at.passed next
        ∙ ap (λ (o : Option Refusal). refused_or o (r.line + 1) (in_lines (suc (r.line + 1)) ls next)) (sym (refusal_is l ls) ∙ took.good)
        ∙ ap (λ (n : ℕ). in_lines n ls next) (let e : suc (r.line + 1) ≡ r'.line + 1 = omega (arith, took.line) in e)

    next-ended : dots (lines text) ≡ r'.ended + dots ls
    unfolding dots
    next-ended = omega (arith, at.ended, took.ended)

    next-kept : r'.fits ≡ true → threads (lines text) ≡ threads_from (threads_kept r' draft') ls
    unfolding threads_from
    next-kept f =
        let e = took.threads at.sound f in
        at.kept e.0 ∙ ap (λ (T : Threads). threads_from T ls) (sym (e.1 ∙ threads-is l ls (threads_kept r draft)))

    one_more : (T : Threads) → threads_from T (l ∷ ls) ≡ threads_from (turned l ls T) ls
    unfolding threads_from
    one_more T = refl

    -- a section is still open
    below-four : (is_dot l ≡ false → 0 < dots ls) → r.fits ≡ true → r.ended < 4
    unfolding dots
    below-four some fit = go (is_dot l) refl
      where
        go : (b : Bool) → is_dot l ≡ b → r.ended < 4
        go true d = let one = chosen {A = ℕ} 1 0 d in omega (arith, one, at.ended, at.fit fit)
        go false d = omega (arith, some d, at.ended, at.fit fit)

    next-lost : r'.fits ≡ false → threads_fit (threads (lines text)) ≡ true → statements_fit (threads (lines text)) ≡ false
    next-lost f = go r.fits refl
      where
        go : (b : Bool) → r.fits ≡ b → threads_fit (threads (lines text)) ≡ true → statements_fit (threads (lines text)) ≡ false
        go false e = at.lost e
        go true e = λ t.
            let some : is_dot l ≡ false → 0 < dots ls = λ plain. elim (ℕ_discrete (dots ls) 0) [
              | yes z ↦ clash (took.same plain (eq-eqb (dots (l ∷ ls)) 0 (left_is l ls plain ∙ z)) ∙ e) f
              | no n ↦ omega arith
            ] in
            let four : r.ended < 4 = below-four some e in
            ap statements_fit (at.kept e ∙ one_more (threads_kept r draft))
            ∙ ceases l ls (threads_kept r draft) some
            (ap (λ (U : Threads). misfits (is_dot l) (U.count r.ended)) (sym (threads-is l ls (threads_kept r draft))) ∙ took.lost at.sound e four f)
            (grows-turned l ls (threads_kept r draft)).more

    next-some : r'.fits ≡ true → (t : ℕ) → t < r'.ended → 0 < get_or r'.counts t 0
    next-some f t h =
        let two = took.threads at.sound f in
        let here = ap (λ (U : Threads). U.count t) (two.1 ∙ threads-is l ls (threads_kept r draft)) in
        let g = grows-turned l ls (threads_kept r draft) in
        elim (dec_lt t r.ended) [
          | yes k ↦ (let b = g.before t k in let s = at.some two.0 t k in omega (arith, here, b, s))
          | no k ↦ go (is_dot l) refl (omega arith) g here
        ]
      where
        go : (b : Bool) → is_dot l ≡ b → r.ended ≤ t → Grows (cond (is_dot l) 1 0) (threads_kept r draft) (turned l ls (threads_kept r draft)) →
            get_or r'.counts t 0 ≡ (turned l ls (threads_kept r draft)).count t → 0 < get_or r'.counts t 0
        go true d k g here =
            let one = chosen {A = ℕ} 1 0 d in
            let e : r.ended ≡ t = omega (arith, took.ended, one, h, k) in
            let c = subst (λ (i : ℕ). get_or r.counts r.ended 0 ≤ (turned l ls (threads_kept r draft)).count i) e g.kept in
            let s = took.some f d in
            omega (arith, here, c, s)
        go false d k g here = let none = passed {A = ℕ} 1 0 d in absurd (omega (arith, took.ended, none, h, k))

    -- cells
    counted : r'.cells ≡ cond (not (is_dot l) && eqb (dots (l ∷ ls)) 0 && holds (map_line l)) (min (r.cells + 1) 129) r.cells
    counted = took.number at.most at.room

    -- the cells before the line were few, where those after it are; where they are not, the line brought one too many
    more-cells : (r'.cells ≤ 129) × (r'.cells ≤ 128 → r.cells ≤ 128)
        × (r.cells ≤ 128 → 128 < r'.cells → (r.cells ≡ 128) × ((not (is_dot l) && eqb (dots (l ∷ ls)) 0 && holds (map_line l)) ≡ true))
    more-cells = go (not (is_dot l) && eqb (dots (l ∷ ls)) 0 && holds (map_line l)) refl
      where
        go : (b : Bool) → (not (is_dot l) && eqb (dots (l ∷ ls)) 0 && holds (map_line l)) ≡ b →
            (r'.cells ≤ 129) × (r'.cells ≤ 128 → r.cells ≤ 128)
            × (r.cells ≤ 128 → 128 < r'.cells → (r.cells ≡ 128) × ((not (is_dot l) && eqb (dots (l ∷ ls)) 0 && holds (map_line l)) ≡ true))
        go true e =
            let n : r'.cells ≡ min (r.cells + 1) 129 = counted ∙ chosen _ _ e in
            elim (dec_lt r.cells 128) [
              | yes h ↦ let m = n ∙ min-eq_left (let k : r.cells + 1 ≤ 129 = omega arith in k) in (omega (arith, m), (λ k. omega arith), (λ k j. absurd (omega (arith, m, j))))
              | no h ↦ let m = n ∙ min-eq_right (let k : 129 ≤ r.cells + 1 = omega arith in k) in (omega (arith, m), (λ k. absurd (omega (arith, m, k))), (λ k j. (omega (arith, k), e)))
            ]
        go false e =
            let n : r'.cells ≡ r.cells = counted ∙ passed _ _ e in
            (omega (arith, n, at.most), (λ k. omega (arith, n, k)), (λ k j. absurd (omega (arith, n, k, j))))

    cells-turned : (ds : List Cell) → cells_from ds (l ∷ ls) ≡ cells_from (cond (eqb (dots (l ∷ ls)) 0) (cell_added l ds) ds) ls
    unfolding cells_from
    cells-turned ds = refl

    next-few : r'.cells ≤ 128 → cells (lines text) ≡ cells_from (cells_kept r' keys') ls
    next-few h =
        at.few (more-cells.1 h) ∙ cells-turned (cells_kept r keys)
        ∙ ap (λ (ds : List Cell). cells_from ds ls) (sym (took.cells at.room h ∙ cells_is l ls (cells_kept r keys)))

    next-many : 128 < r'.cells → 128 < length (cells (lines text))
    unfolding cell_added
    next-many h = elim (dec_lt 128 r.cells) [
      | yes k ↦ at.many k
      | no k ↦
          let few : r.cells ≤ 128 = omega arith in
          let full = more-cells.2 few h in
          let two = and_left (not (is_dot l) && eqb (dots (l ∷ ls)) 0) (holds (map_line l)) full.1 in
          let ds = cells_kept r keys in
          let here : length ds ≡ 128 = cells-length (take r.cells keys) ∙ length-take-le r.cells keys (omega (arith, at.room)) ∙ full.0 in
          let e = at.few few ∙ cells-turned ds
          ∙ ap (λ (es : List Cell). cells_from es ls) (chosen _ _ (and_right (not (is_dot l)) (eqb (dots (l ∷ ls)) 0) two)) in
          let n : length (cells (lines text)) ≡ length (cells_from (held_inserted (map_line l) ds) ls) = ap length e in
          let more = held-more (map_line l) ds (and_right (not (is_dot l) && eqb (dots (l ∷ ls)) 0) (holds (map_line l)) full.1) in
          omega (arith, n, length_from (held_inserted (map_line l) ds) ls, more, here)
    ]

    pub next-at : At text r' draft' keys' ls
    next-at = record {
      passed = next-passed;
      counted = omega (arith, at.counted, took.line);
      ended = next-ended;
      sound = took.sound at.sound;
      kept = next-kept;
      fit = λ f. at.fit (took.threads at.sound f).0;
      some = next-some;
      lost = next-lost;
      room = took.room ∙ at.room;
      most = more-cells.0;
      few = next-few;
      many = next-many;
    }

-- ---- the first line and the last

-- no statements in any thread
abbrev pub none : List ℕ
none = replicate 4 0

zeros : (t : ℕ) → get_or none t 0 ≡ 0
zeros t = elim (dec_lt t 4) [
  | yes h ↦ get_or-replicate {A = ℕ} 4 t 0 0 h
  | no h ↦ get_or-eq_default none 0 {n = t} (let e : length none ≡ 4 = length-replicate {A = ℕ} 4 0 in omega (arith, e))
]

nothing-kept : (draft : List ℕ) → threads_in draft 0 none ≡ no_threads
unfolding drafted
nothing-kept draft = λ i. record {
  ended = 0;
  count = λ t. zeros t i;
  statement = λ t p. (ap (λ (n : ℕ). cond (ltb p n) (block_at draft (32 * t + p)) halt) (zeros t) ∙ passed _ _ (le-ltb p 0 (omega arith))) i;
}

pub begins : (text draft keys : List ℕ) (r : Reading) → r.fits ≡ (ltb 0 (dots (lines text)) && leb (dots (lines text)) 4) → r.ended ≡ 0 → r.counts ≡ none → r.cells ≡ 0 → r.line ≡ 0 →
    length draft ≡ draft_length → length keys ≡ 128 → At text r draft keys (lines text)
unfolding cells_of
begins text draft keys r fits unended counts cells-none first d k = record {
  passed = λ next. ap (λ (n : ℕ). in_lines n (lines text) next) (let e : 1 ≡ r.line + 1 = omega (arith, first) in e);
  counted = omega (arith, first);
  ended = omega (arith, unended);
  sound = ((λ t. let e = ap (λ (cs : List ℕ). get_or cs t 0) counts ∙ zeros t in omega (arith, e)), d);
  kept = λ f. ap (λ (T : Threads). threads_from T (lines text)) (sym (ap₂ (λ (e : ℕ) (cs : List ℕ). threads_in draft e cs) unended counts ∙ nothing-kept draft));
  some = λ f t h. absurd (omega (arith, h, unended));
  fit = λ f. leb-true (dots (lines text)) 4 (and_right (ltb 0 (dots (lines text))) (leb (dots (lines text)) 4) (sym fits ∙ f));
  lost = λ f t. clash (ap (λ (n : ℕ). ltb 0 n && leb n 4) (sym (all-ended text)) ∙ t) (sym fits ∙ f);
  room = k;
  most = omega (arith, cells-none);
  few = λ h. ap (λ (n : ℕ). cells_from (cells_of (take n keys)) (lines text)) (sym cells-none);
  many = λ h. absurd (omega (arith, h, cells-none));
}
  where
    all-ended : (text : List ℕ) → (threads (lines text)).ended ≡ dots (lines text)
    all-ended text = let e = (grows_from no_threads (lines text)).more in omega (arith, e)

-- no line is refused
pub ends : (text : List ℕ) (r : Reading) (draft keys : List ℕ) → At text r draft keys [] → Reads text r draft keys
unfolding in_lines dots threads_from cells_from statements_fit
ends text r draft keys at = record {
  passed = at.passed;
  ended = let g = (grows_from no_threads (lines text)).more in omega (arith, g, at.ended);
  sound = at.sound;
  kept = at.kept;
  fit = λ f. ap statements_fit (at.kept f) ∙ every-all (λ t. ltb 0 (get_or r.counts t 0) && leb (get_or r.counts t 0) 32) r.ended
      (λ t h. and_true (lt-ltb 0 (get_or r.counts t 0) (at.some f t h)) (le-leb (get_or r.counts t 0) 32 (at.sound.0 t)));
  lost = at.lost;
  few = λ h. (at.few h, ap length (at.few h) ∙ cells-length (take r.cells keys) ∙ length-take-le r.cells keys (omega (arith, h, at.room)));
  many = at.many;
}

-- a section is still to end at each dot
pub dots-most : (ls : List (List ℕ)) → dots ls ≤ length ls
unfolding dots
dots-most [] = omega arith
dots-most (l ∷ ls) = go (is_dot l) (dots-most ls)
  where
    go : (b : Bool) → dots ls ≤ length ls → cond b 1 0 + dots ls ≤ suc (length ls)
    go true h = omega arith
    go false h = omega arith

pub dots-count : (ls : List (List ℕ)) → count_by is_dot ls ≡ dots ls
unfolding dots
dots-count [] = refl
dots-count (l ∷ ls) = grind (arith, common_steps, sum_by-cons, dots-count ls)

-- a text of few bytes has few lines
pub lines-most : (s : List ℕ) → length (lines s) ≤ length s + 1
unfolding lines
lines-most [] = omega arith
lines-most (b ∷ s) = go (is_in_line b) (lines s) (lines-most s)
  where
    go : (t : Bool) (ls : List (List ℕ)) → length ls ≤ length s + 1 → length (cond t (extended b ls) ([] ∷ ls)) ≤ suc (length s) + 1
    go true [] h = omega arith
    go true (l ∷ ls) h = omega arith
    go false ls h = omega arith
