-- Demand 2 for texts (specs/Texts.antt states it): the answer by the rules, and what the records of a text hold. Assumes nothing.
use Prim.Native.Nat.{ℕ, zero, suc, ◌+◌, ◌-◌, ◌*◌, ◌≤◌, ◌<◌}
use mathlib.Core.Path.{◌≡◌, refl, ap, sym, subst⁻¹, ◌∙◌}
use mathlib.Core.Bool.{Bool, true, false, cond, not}
use mathlib.Core.List.{List, [], ◌∷◌}
use mathlib.Core.Logic.{◌⊎◌, ◌↔◌, inl, inr, ⊎_elim}
use native.Mathlib.Omega.{arith}
use lib.Dec.{ltb, leb}
use lib.ListN.{length, get_or, drop}
use lib.Seq.{take-append_seam, drop-append_seam}
use borrow.Author.Tests.{ltb-false, leb-true, lt-ltb, le-ltb, le-leb}
use Rattle.base.specs.Bytes.{over}
use Rattle.base.proofs.Bytes.{length_over, same_self}
use Rattle.base.proofs.Choice.{chosen, passed, and_true, and_left, and_right, refuted, clash}
use Rattle.records.specs.Instructions.{is_jump}
use Rattle.records.specs.Sets.{set_of}
use Rattle.records.specs.declared.Statement.{Statement}
use Rattle.text_lines.specs.Lines.{lines, unlabelled}
use Rattle.std.specs.Prelude.{Option, None, Some, Result, Ok, Err, is_ok}
use Rattle.records.specs.Refusals.{number, of_call}
use Rattle.records.specs.declared.Cell.{Cell}
use Rattle.records.specs.declared.refusals.Refusal.{Refusal}
use Rattle.records.specs.declared.refusals.Refusal.TheVariants.{TextLength, Malformed, Number, Threads as ByThreads, Statements as ByStatements, Label as ByLabel, Checkpoints as ByCheckpoints, Map as ByMap, Room as ByRoom}
use Rattle.records.specs.declared.refusals.Refused.{Refused}
use Rattle.text.specs.Sections.{Threads, threads, cells}
use Rattle.text.specs.Records.{is_named, argument_of, set_bytes, map_bytes, statements}
use Rattle.text.specs.Answers.{refusal_in, refused_or, in_lines, threads_fit, statements_fit, labels_fit, checkpoints_fit, map_fits, room_fits, refused, whole, answer, output_by, set_output, map_output}
use Rattle.text.specs.declared.Counts.{Counts}
use Rattle.text.proofs.Accepted.{Fitting, fitting, set-accepted}
use Rattle.text.proofs.Maps.{cells-ordered, map-fits, length-map, cells-map, address-map, value-map}
use Rattle.text.proofs.Sets.{length-set, number-set, mode-set, argument-set, count_set, threads-set, statement-set}
use Rattle.text.proofs.Statements.{Kept, kept-threads}
use Rattle.claims.specs.Sections.{line}
use Rattle.claims.specs.Texts.{Refuses, SizeFollows, LinesFollow, Follows, Room, AcceptedExactly, FirstLine, Refusals, RefusedInOrder, SetSays, MapSays, RecordsSayTheText, WrittenOver, OutputsHoldTheRecords}
use Rattle.claims.proofs.Refusals.{refused_by_line}
use Rattle.claims.proofs.Rules.{refusal_is, line-rule, threads-rule, statements-rule, labels-rule, checkpoints-rule, map-rule, by_number_lem, label_at}

-- ---- lines in order

-- no line is refused
abbrev Passes : List (List ℕ) → Type 0
Passes ls = (i : ℕ) → i < length ls → refusal_in (get_or ls i []) (drop (suc i) ls) ≡ None

abbrev IsRefused : Result Counts Refused → Type 0
IsRefused r = (e : Refused) × (r ≡ Err e)

-- a refusal by what refuses the whole text
refuses : (refusal : Refusal) (r : Result Counts Refused) → r ≡ refused refusal → Refuses r (number refusal) 0
refuses refusal r e = (of_call refusal, e, refl, refl)

lines-pass : (n : ℕ) (ls : List (List ℕ)) (next : Result Counts Refused) → Passes ls → in_lines n ls next ≡ next
unfolding in_lines
lines-pass n [] next f = refl
lines-pass n (l ∷ ls) next f =
    ap (λ (o : Option Refusal). refused_or o n (in_lines (suc n) ls next)) (f 0 (omega arith)) ∙ lines-pass (suc n) ls next (λ i h. f (suc i) (omega arith))

-- the first line that is refused decides
lines_refuse : (n : ℕ) (ls : List (List ℕ)) (next : Result Counts Refused) (i : ℕ) (refusal : Refusal) → i < length ls →
    ((j : ℕ) → j < i → refusal_in (get_or ls j []) (drop (suc j) ls) ≡ None) → refusal_in (get_or ls i []) (drop (suc i) ls) ≡ Some refusal →
    in_lines n ls next ≡ Err (record { refusal = refusal; place = n + i })
unfolding in_lines
lines_refuse n [] next i refusal h f g = absurd (omega arith)
lines_refuse n (l ∷ ls) next zero refusal h f g =
    ap (λ (o : Option Refusal). refused_or o n (in_lines (suc n) ls next)) g
    ∙ ap (λ (k : ℕ). Err (record { refusal = refusal; place = k })) (let e : n ≡ n + 0 = omega arith in e)
lines_refuse n (l ∷ ls) next (suc i) refusal h f g =
    ap (λ (o : Option Refusal). refused_or o n (in_lines (suc n) ls next)) (f 0 (omega arith))
    ∙ lines_refuse (suc n) ls next i refusal (omega arith) (λ j k. f (suc j) (omega arith)) g
    ∙ ap (λ (k : ℕ). Err (record { refusal = refusal; place = k })) (let e : suc n + i ≡ n + suc i = omega arith in e)

lines-judged : (n : ℕ) (ls : List (List ℕ)) (next : Result Counts Refused) → Passes ls ⊎ IsRefused (in_lines n ls next)
unfolding in_lines
lines-judged n [] next = inl (λ i h. absurd (omega arith))
lines-judged n (l ∷ ls) next = go (lines-judged (suc n) ls next) (refusal_in l ls) refl
  where
    go : Passes ls ⊎ IsRefused (in_lines (suc n) ls next) → (o : Option Refusal) → refusal_in l ls ≡ o →
        Passes (l ∷ ls) ⊎ IsRefused (refused_or o n (in_lines (suc n) ls next))
    go judged (Some refusal) e = inr (record { refusal = refusal; place = n }, refl)
    go (inl f) None e = inl all
      where
        all : Passes (l ∷ ls)
        all zero h = e
        all (suc i) h = f i (omega arith)
    go (inr r) None e = inr r

-- ---- the answer

-- a test of the whole text: it passes, or the text is refused
tested : {A : Type 0} (b : Bool) (n : Refusal) (next : Result Counts Refused) → (b ≡ true → A ⊎ IsRefused next) → A ⊎ IsRefused (cond (not b) (refused n) next)
tested true n next f = f refl
tested false n next f = inr (of_call n, refl)

-- a test that a broken rule fails
broken : {A : Type 0} (b : Bool) (n : Refusal) (next : Result Counts Refused) → b ≡ true ↔ A → (A → ⊥) → cond (not b) (refused n) next ≡ refused n
broken b n next rule f = chosen _ _ (ap not (refuted b (λ e. f (rule.0 e))))

-- a test that a kept rule passes
kept : {A : Type 0} (b : Bool) (n : Refusal) (next : Result Counts Refused) → b ≡ true ↔ A → A → cond (not b) (refused n) next ≡ next
kept b n next rule a = passed _ _ (ap not (rule.1 a))

module _ (text : List ℕ) (set_room map_room : ℕ) where
  abbrev T : Threads
  T = threads (lines text)

  abbrev cs : List Cell
  cs = cells (lines text)

  sound : Kept T
  sound = kept-threads (lines text)

  passes : LinesFollow text → Passes (lines text)
  passes f i h = (line-rule text i h).1 (f i h)

  sized : SizeFollows text → answer text set_room map_room ≡ in_lines 1 (lines text) (whole T cs set_room map_room)
  unfolding answer
  sized h = passed _ _ (le-ltb 16384 (length text) h)

  lined : SizeFollows text → LinesFollow text → answer text set_room map_room ≡ whole T cs set_room map_room
  lined h f = sized h ∙ lines-pass 1 (lines text) (whole T cs set_room map_room) (passes f)

  -- every text follows document 01 or is refused
  by_whole : SizeFollows text → LinesFollow text → Follows text ⊎ IsRefused (whole T cs set_room map_room)
  unfolding whole
  by_whole h f =
      tested (threads_fit T) ByThreads _ (λ a. tested (statements_fit T) ByStatements _ (λ b. tested (labels_fit T) ByLabel _ (λ c.
      tested (checkpoints_fit (set_bytes T)) ByCheckpoints _ (λ d. tested (map_fits cs) ByMap _ (λ e. inl (record {
        row1 = h;
        rows2and3 = f;
        row4 = (threads-rule T).0 a;
        row5 = (statements-rule T).0 b;
        row6 = (labels-rule T).0 c;
        row7 = (checkpoints-rule T sound).0 d;
        row8 = (map-rule cs).0 e;
      }))))))

  by_lines : SizeFollows text → Passes (lines text) → Follows text ⊎ IsRefused (answer text set_room map_room)
  by_lines h f =
      let follow : LinesFollow text = λ i l. (line-rule text i l).0 (f i l) in
      subst⁻¹ (λ (r : Result Counts Refused). Follows text ⊎ IsRefused r) (lined h follow) (by_whole h follow)

  by_size : SizeFollows text → Follows text ⊎ IsRefused (answer text set_room map_room)
  by_size h = ⊎_elim (by_lines h) (λ r. inr (subst⁻¹ IsRefused (sized h) r)) (lines-judged 1 (lines text) (whole T cs set_room map_room))

  too_long : (SizeFollows text → ⊥) → answer text set_room map_room ≡ refused TextLength
  unfolding answer
  too_long f = chosen _ _ (lt-ltb 16384 (length text) (omega arith))

  judged : Follows text ⊎ IsRefused (answer text set_room map_room)
  judged = go (ltb 16384 (length text)) refl
    where
      go : (b : Bool) → ltb 16384 (length text) ≡ b → Follows text ⊎ IsRefused (answer text set_room map_room)
      go true e = inr (of_call TextLength, too_long (λ h. clash e (le-ltb 16384 (length text) h)))
      go false e = by_size (ltb-false 16384 (length text) e)

  -- ---- a text that follows document 01

  read_or_short : Follows text → answer text set_room map_room ≡ cond (not (room_fits T cs set_room map_room)) (refused ByRoom) (Ok (record { statements = statements T; cells = length cs }))
  unfolding whole
  read_or_short f =
      lined f.row1 f.rows2and3
      ∙ kept (threads_fit T) ByThreads _ (threads-rule T) f.row4
      ∙ kept (statements_fit T) ByStatements _ (statements-rule T) f.row5
      ∙ kept (labels_fit T) ByLabel _ (labels-rule T) f.row6
      ∙ kept (checkpoints_fit (set_bytes T)) ByCheckpoints _ (checkpoints-rule T sound) f.row7
      ∙ kept (map_fits cs) ByMap _ (map-rule cs) f.row8

  room-rule : room_fits T cs set_room map_room ≡ true ↔ Room text set_room map_room
  room-rule =
      let set = leb (8 * statements T) set_room in
      let map = leb (4 * length cs) map_room in (
        λ e. (leb-true (8 * statements T) set_room (and_left set map e), leb-true (4 * length cs) map_room (and_right set map e)),
        λ r. and_true (le-leb (8 * statements T) set_room r.0) (le-leb (4 * length cs) map_room r.1),
      )

  -- ---- a text that is refused

  first-line : SizeFollows text → (i : ℕ) (refusal : Refusal) → FirstLine text i refusal → Refuses (answer text set_room map_room) (number refusal) (i + 1)
  first-line h i refusal l =
      let here : refusal_in (line text i) (drop (suc i) (lines text)) ≡ Some refusal = refusal_is text i l.inside l.no_dot ∙ l.is_refused in
      let inside = l.inside in
      let place : 1 + i ≡ i + 1 = omega arith in (
        record { refusal = refusal; place = 1 + i },
        sized h ∙ lines_refuse 1 (lines text) (whole T cs set_room map_room) i refusal l.inside (λ j k. (line-rule text j (omega arith)).1 (l.before j k)) here,
        refl,
        place,
      )

  refusals : Refusals text T cs (answer text set_room map_room)
  unfolding whole
  refusals = record {
    row1 = λ f. refuses TextLength _ (too_long f);
    row2 = λ h i l. first-line h i Malformed l;
    row3 = λ h i l. first-line h i Number l;
    row2or3 = refused_by_line text;
    row4 = λ h l f. refuses ByThreads _ (lined h l ∙ broken (threads_fit T) ByThreads _ (threads-rule T) f);
    row5 = λ h l a f. refuses ByStatements _ (lined h l ∙ kept (threads_fit T) ByThreads _ (threads-rule T) a ∙ broken (statements_fit T) ByStatements _ (statements-rule T) f);
    row6 = λ h l a b f. refuses ByLabel _ (lined h l ∙ kept (threads_fit T) ByThreads _ (threads-rule T) a ∙ kept (statements_fit T) ByStatements _ (statements-rule T) b
        ∙ broken (labels_fit T) ByLabel _ (labels-rule T) f);
    row7 = λ h l a b c f. refuses ByCheckpoints _ (lined h l ∙ kept (threads_fit T) ByThreads _ (threads-rule T) a ∙ kept (statements_fit T) ByStatements _ (statements-rule T) b
        ∙ kept (labels_fit T) ByLabel _ (labels-rule T) c ∙ broken (checkpoints_fit (set_bytes T)) ByCheckpoints _ (checkpoints-rule T sound) f);
    row8 = λ h l a b c d f. refuses ByMap _ (lined h l ∙ kept (threads_fit T) ByThreads _ (threads-rule T) a ∙ kept (statements_fit T) ByStatements _ (statements-rule T) b
        ∙ kept (labels_fit T) ByLabel _ (labels-rule T) c ∙ kept (checkpoints_fit (set_bytes T)) ByCheckpoints _ (checkpoints-rule T sound) d
        ∙ broken (map_fits cs) ByMap _ (map-rule cs) f);
  }

-- ---- the records of a text

module _ (T : Threads) (kept : Kept T) (fit : Fitting T) where
  abbrev bytes : List ℕ
  bytes = set_bytes T

  -- what has a label for a target is a jump
  named-jump : (t p : ℕ) → is_named (T.statement t p).target ≡ true → is_jump (T.statement t p).number ≡ true
  named-jump t p e = go (is_jump (T.statement t p).number) refl
    where
      go : (b : Bool) → is_jump (T.statement t p).number ≡ b → is_jump (T.statement t p).number ≡ true
      go true j = j
      go false j = clash e (ap is_named ((kept.sound t p).targetless j) ∙ ap not (same_self unlabelled))

  argument-says : (t p : ℕ) → t < T.ended → p < T.count t → ((set_of bytes).statement t p).argument ≡ argument_of (T.count t) (T.statement t) p
  argument-says t p h l = ap (λ (s : Statement). s.argument) (statement-set T t p h l) ∙ argument-set T t p h l

  set_says_lem : SetSays bytes T
  set_says_lem = record {
    threads = threads-set T fit.some (fit.filled (T.ended - 1) (omega (arith, fit.some)));
    counts = count_set T;
    numbers = λ t p h l. ap (λ (s : Statement). s.number) (statement-set T t p h l) ∙ number-set T t p h l;
    modes = λ t p h l. ap (λ (s : Statement). s.mode) (statement-set T t p h l) ∙ mode-set T t p h l;
    arguments = λ t p h l e. argument-says t p h l ∙ by_number_lem (T.count t) (T.statement t) p e;
    labels = λ t p h l e.
        ap (λ (k : ℕ). (T.statement t k).label) (argument-says t p h l)
        ∙ label_at (T.count t) (T.statement t) p e (fit.targets t p h l (named-jump t p e));
  }

map-says : (cs : List Cell) → MapSays (map_bytes cs) cs
map-says cs = record { count = cells-map cs; addresses = address-map cs; values = value-map cs }

follow-fitting : (text : List ℕ) → Follows text → Fitting (threads (lines text))
follow-fitting text f =
    let T = threads (lines text) in
    fitting T ((threads-rule T).1 f.row4) ((statements-rule T).1 f.row5) ((labels-rule T).1 f.row6)
    ((checkpoints-rule T (kept-threads (lines text))).1 f.row7)

-- ---- the lent outputs

written_over : (bytes out : List ℕ) → length bytes ≤ length out → WrittenOver bytes out (over bytes out)
unfolding over
written_over bytes out h = record {
  start = take-append_seam bytes (drop (length bytes) out);
  beyond = drop-append_seam bytes (drop (length bytes) out);
  size = length_over bytes out h;
}

module _ (text set map : List ℕ) where
  outputs-read : (r : Result Counts Refused) (counts : Counts) → r ≡ Ok counts → Room text (length set) (length map) →
      WrittenOver (set_bytes (threads (lines text))) set (set_output r text set) × WrittenOver (map_bytes (cells (lines text))) map (map_output r text map)
  unfolding set_output map_output
  outputs-read r counts e room =
      let T = threads (lines text) in
      let cs = cells (lines text) in
      subst⁻¹ (λ (a : Result Counts Refused). WrittenOver (set_bytes T) set (output_by a (set_bytes T) set) × WrittenOver (map_bytes cs) map (output_by a (map_bytes cs) map)) e
      (written_over (set_bytes T) set (omega (arith, length-set T, room.0)), written_over (map_bytes cs) map (omega (arith, length-map cs, room.1)))

  outputs-stay : (r : Result Counts Refused) → IsRefused r → (set_output r text set ≡ set) × (map_output r text map ≡ map)
  unfolding set_output map_output
  outputs-stay r (refused, e) =
      (ap (λ (a : Result Counts Refused). output_by a (set_bytes (threads (lines text))) set) e, ap (λ (a : Result Counts Refused). output_by a (map_bytes (cells (lines text))) map) e)

-- ---- the claims

read-refused : {A : Type 0} (r : Result Counts Refused) (counts : Counts) → r ≡ Ok counts → IsRefused r → A
read-refused r counts e (refused, q) = clash (ap is_ok e) (ap is_ok q)

pub accepted-exactly : AcceptedExactly
accepted-exactly text set_room map_room =
    let rule = room-rule text set_room map_room in
    record {
      accepted = λ r. (
        λ e. ⊎_elim (λ f. f) (read-refused _ _ e) (judged text set_room map_room),
        λ f. read_or_short text set_room map_room f ∙ kept _ ByRoom _ rule r,
      );
      short = λ f r. refuses ByRoom _ (read_or_short text set_room map_room f ∙ broken _ ByRoom _ rule r);
      refused = λ f. ⊎_elim (λ t. absurd (f t)) (λ r. r) (judged text set_room map_room);
    }

pub refused_in_order : RefusedInOrder
refused_in_order text set_room map_room = refusals text set_room map_room

pub records_say_the_text : RecordsSayTheText
records_say_the_text text f =
    let T = threads (lines text) in
    let cs = cells (lines text) in
    let sound = kept-threads (lines text) in
    record {
      accepted_set = set-accepted T sound (follow-fitting text f);
      accepted_map = sym (map-fits cs (cells-ordered (lines text))) ∙ (map-rule cs).1 f.row8;
      set_says = set_says_lem T sound (follow-fitting text f);
      map_says = map-says cs;
    }

pub outputs_hold_the_records : OutputsHoldTheRecords
outputs_hold_the_records text set map =
    let r = answer text (length set) (length map) in
    let decided = accepted-exactly text (length set) (length map) in
    record {
      read = λ f room. outputs-read text set map r _ ((decided.accepted room).1 f) room;
      short = λ room. outputs-stay text set map r (⊎_elim (λ f. let q = decided.short f room in (q.0, q.1)) (λ q. q) (judged text (length set) (length map)));
      refused = λ f. outputs-stay text set map r (decided.refused f);
    }
