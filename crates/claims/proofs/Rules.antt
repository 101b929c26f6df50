-- Each rule of a set text (specs/Texts.antt) is what the test of its row decides. Assumes nothing.
use Prim.Native.Nat.{ℕ, suc, ◌+◌, ◌<◌}
use mathlib.Core.Path.{◌≡◌, refl, ap, sym, subst, subst⁻¹, ◌∙◌}
use mathlib.Core.Bool.{Bool, true, false, cond, not, ◌&&◌}
use mathlib.Core.List.{List}
use mathlib.Core.Logic.{◌↔◌, inl, inr, ⊎_elim}
use native.Mathlib.Omega.{arith}
use lib.Dec.{eqb, ltb, leb}
use lib.ListN.{length, drop}
use borrow.Author.Tests.{eqb-true, ltb-true, ltb-false, leb-true, lt-ltb, le-leb, eq-eqb, ne_eqb, not-true}
use Rattle.base.specs.Below.{some, number, least}
use Rattle.base.specs.Bytes.{same}
use Rattle.base.proofs.Below.{every-all, some_at, some-none, least-passes, number-no}
use Rattle.base.proofs.Bytes.{same_self, same_equal}
use Rattle.base.proofs.Choice.{chosen, passed, and_true, and_left, and_right, refuted, clash}
use Rattle.records.specs.Instructions.{CHECK, is_jump}
use Rattle.records.specs.Sets.{records, number_at, argument_at, opens_at}
use Rattle.text_lines.specs.Lines.{lines, is_dot, statement_line, map_line}
use Rattle.std.specs.Prelude.{None}
use Rattle.std.specs.Result.{result_err}
use Rattle.records.specs.declared.Cell.{Cell}
use Rattle.text_lines.specs.declared.Stated.{Stated}
use Rattle.text.specs.Sections.{Threads, dots}
use Rattle.text.specs.Records.{is_named, pc_of, argument_of, set_bytes, statements_before, map_cell}
use Rattle.text.specs.Answers.{refusal_in, threads_fit, statements_fit, doubled_at, target_fits, thread_fits, labels_fit, checkpoints_fit, address_doubled, map_fits}
use Rattle.text.proofs.Accepted.{plain-argument, target_below, statement-fits, counts-between}
use Rattle.text.proofs.Below.{cond_where, between, some-found, least-found}
use Rattle.text.proofs.Sets.{records-set, place-below, number-set, argument-set, place}
use Rattle.text.proofs.Statements.{Kept}
use Rattle.claims.specs.Sections.{line, sections, section_of}
use Rattle.claims.specs.Texts.{refusal_of, LineFollows, ThreadsFollow, StatementsFollow, Each, NotDoubled, TargetKnown, LabelsFollow, Among, CheckpointsFollow, MapFollows}
use Rattle.claims.proofs.Checkpoints.{firsts, length-firsts, firsts-among, opens-few}
use Rattle.claims.proofs.Sections.{dots-after}

-- ---- rows 2 and 3: lines

module _ (text : List ℕ) (i : ℕ) (h : i < length (lines text)) where
  abbrev rest : List (List ℕ)
  rest = drop (suc i) (lines text)

  -- what refuses a line that is no dot line
  pub refusal_is : is_dot (line text i) ≡ false → refusal_in (line text i) rest ≡ refusal_of text i
  unfolding refusal_in
  refusal_is d = passed _ _ d ∙ go (ltb (section_of text i) (sections text)) refl
    where
      left : section_of text i + dots rest ≡ sections text
      left = omega (arith, number-no (λ j. is_dot (line text j)) i d, dots-after text (suc i) h)

      go : (b : Bool) → ltb (section_of text i) (sections text) ≡ b → cond (eqb (dots rest) 0) (result_err (map_line (line text i))) (result_err (statement_line (line text i)))
          ≡ cond b (result_err (statement_line (line text i))) (result_err (map_line (line text i)))
      go true e = passed _ _ (ne_eqb (dots rest) 0 (omega (arith, left, ltb-true (section_of text i) (sections text) e)))
      go false e = chosen _ _ (eq-eqb (dots rest) 0 (omega (arith, left, ltb-false (section_of text i) (sections text) e)))

  dot_passes : is_dot (line text i) ≡ true → refusal_in (line text i) rest ≡ None
  unfolding refusal_in
  dot_passes d = chosen _ _ d

  line-follows : refusal_in (line text i) rest ≡ None → LineFollows text i
  line-follows e = go (is_dot (line text i)) refl
    where
      go : (b : Bool) → is_dot (line text i) ≡ b → LineFollows text i
      go true d = inl d
      go false d = inr (sym (refusal_is d) ∙ e)

  line-passes : LineFollows text i → refusal_in (line text i) rest ≡ None
  line-passes f = go (is_dot (line text i)) refl
    where
      go : (b : Bool) → is_dot (line text i) ≡ b → refusal_in (line text i) rest ≡ None
      go true d = dot_passes d
      go false d = refusal_is d ∙ ⊎_elim (λ e. clash e d) (λ e. e) f

  pub line-rule : refusal_in (line text i) rest ≡ None ↔ LineFollows text i
  line-rule = (line-follows, line-passes)

-- ---- rows 4 and 5: threads and statements

pub threads-rule : (T : Threads) → threads_fit T ≡ true ↔ ThreadsFollow T
threads-rule T = between 0 T.ended 4

pub statements-rule : (T : Threads) → statements_fit T ≡ true ↔ StatementsFollow T
unfolding statements_fit
statements-rule T = (
  counts-between T,
  λ f. every-all _ T.ended (λ t h. (between 0 (T.count t) 32).1 (f t h)),
)

-- ---- row 6: labels and targets; x gives a thread's n statements by pc

module _ (x : ℕ → Stated) (p : ℕ) where
  single : doubled_at x p ≡ false → NotDoubled x p
  unfolding doubled_at
  single e q h named equal = clash
      (and_true named (some_at (λ r. same (x r).label (x p).label) p q h (ap (λ (l : List ℕ). same l (x p).label) equal ∙ same_self (x p).label))) e

  not_doubled : NotDoubled x p → doubled_at x p ≡ false
  unfolding doubled_at
  not_doubled f = refuted _ (λ e.
      let twice = some p (λ r. same (x r).label (x p).label) in
      let r = some-found (λ r. same (x r).label (x p).label) p (and_right (is_named (x p).label) twice e) in
      f r.0 r.1 (and_left (is_named (x p).label) twice e) (same_equal (x r.0).label (x p).label r.2))

module _ (n : ℕ) (x : ℕ → Stated) (p : ℕ) where
  pub by_number_lem : is_named (x p).target ≡ false → argument_of n x p ≡ (x p).argument
  unfolding argument_of
  by_number_lem e = passed _ _ e

  by-label : is_named (x p).target ≡ true → argument_of n x p ≡ least n (λ q. same (x q).label (x p).target)
  unfolding argument_of pc_of
  by-label e = chosen _ _ e

  -- a label becomes the pc of the statement that has it
  pub label_at : is_named (x p).target ≡ true → argument_of n x p < n → (x (argument_of n x p)).label ≡ (x p).target
  label_at e h =
      let test : ℕ → Bool = λ q. same (x q).label (x p).target in
      same_equal _ (x p).target (ap test (by-label e) ∙ least-passes test n (omega (arith, by-label e)))

  target-known : argument_of n x p < n → TargetKnown n x (x p)
  target-known h = record {
    number = λ e. omega (arith, by_number_lem e);
    label = λ e. (argument_of n x p, h, label_at e h);
  }

  known_target : TargetKnown n x (x p) → argument_of n x p < n
  known_target k = go (is_named (x p).target) refl
    where
      go : (b : Bool) → is_named (x p).target ≡ b → argument_of n x p < n
      go true e =
          let r = k.label e in
          omega (arith, by-label e, least-found (λ q. same (x q).label (x p).target) n r.0 r.1 (ap (λ (l : List ℕ). same l (x p).target) r.2 ∙ same_self (x p).target))
      go false e = omega (arith, by_number_lem e, k.number e)

  abbrev Stands : Type 0
  Stands = NotDoubled x p × (is_jump (x p).number ≡ true → TargetKnown n x (x p))

  stands : (not (doubled_at x p) && target_fits n x p) ≡ true → Stands
  stands e =
      let fits = target_fits n x p in (
        single x p (not-true (doubled_at x p) (and_left (not (doubled_at x p)) fits e)),
        λ j. target-known (target_below n x p (and_right (not (doubled_at x p)) fits e) j),
      )

  passes : Stands → (not (doubled_at x p) && target_fits n x p) ≡ true
  unfolding target_fits
  passes s = and_true (ap not (not_doubled x p s.0))
      (cond_where (λ b. b ≡ true) (is_jump (x p).number) (λ j. lt-ltb (argument_of n x p) n (known_target (s.1 j))) (λ j. refl))

pub labels-rule : (T : Threads) → labels_fit T ≡ true ↔ LabelsFollow T
unfolding labels_fit thread_fits
labels-rule T = (
  λ e t p h l. stands (T.count t) (T.statement t) p (statement-fits T e t p h l),
  λ f. every-all _ T.ended (λ t h. every-all _ (T.count t) (λ p l. passes (T.count t) (T.statement t) p (f t p h l))),
)

-- ---- row 7: checkpoints

module _ (T : Threads) (kept : Kept T) where
  abbrev bytes : List ℕ
  bytes = set_bytes T

  -- the number in a CHECK's line stands in its record
  check-argument : (t p : ℕ) → (T.statement t p).number ≡ CHECK → argument_of (T.count t) (T.statement t) p ≡ (T.statement t p).argument
  check-argument t p e = plain-argument (T.count t) (T.statement t) p (kept.sound t p) (ap is_jump e)

  checkpoints-follow : checkpoints_fit bytes ≡ true → CheckpointsFollow T
  unfolding checkpoints_fit
  checkpoints-follow e = (all, omega (arith, length-firsts bytes (records bytes), leb-true (number (records bytes) (opens_at bytes)) 8 e), listed)
    where
      all : List ℕ
      all = firsts bytes (records bytes)

      listed : Each T (λ t p. (T.statement t p).number ≡ CHECK → Among (T.statement t p).argument all)
      listed t p h l c =
          let k = statements_before T t + p in
          subst (λ (a : ℕ). Among a all) (argument-set T t p h l ∙ check-argument t p c)
          (firsts-among bytes (records bytes) k (place-below T t p h l) (eq-eqb (number_at bytes k) CHECK (number-set T t p h l ∙ c)))

  checkpoints-pass : CheckpointsFollow T → checkpoints_fit bytes ≡ true
  unfolding checkpoints_fit
  checkpoints-pass (eight, few, each) = le-leb (number (records bytes) (opens_at bytes)) 8 (omega (arith, opens-few bytes (records bytes) eight among))
    where
      among : (k : ℕ) → k < records bytes → eqb (number_at bytes k) CHECK ≡ true → Among (argument_at bytes k) eight
      among k h e =
          let (t, p, b, l, q) = place T T.ended k (omega (arith, records-set T)) in
          let check = sym (number-set T t p b l) ∙ sym (ap (number_at bytes) q) ∙ eqb-true (number_at bytes k) CHECK e in
          subst⁻¹ (λ (a : ℕ). Among a eight) (ap (argument_at bytes) q ∙ argument-set T t p b l ∙ check-argument t p check) (each t p b l check)

  pub checkpoints-rule : checkpoints_fit bytes ≡ true ↔ CheckpointsFollow T
  checkpoints-rule = (checkpoints-follow, checkpoints-pass)

-- ---- row 8: the map

module _ (cs : List Cell) where
  abbrev Once : Type 0
  Once = (i j : ℕ) → i < length cs → j < i → (map_cell cs j).address ≡ (map_cell cs i).address → ⊥

  once : address_doubled cs ≡ false → Once
  unfolding address_doubled
  once e i j h l q = clash
      (some_at _ (length cs) i h (some_at (λ k. eqb (map_cell cs k).address (map_cell cs i).address) i j l (eq-eqb (map_cell cs j).address (map_cell cs i).address q))) e

  not-twice : Once → address_doubled cs ≡ false
  unfolding address_doubled
  not-twice f = some-none _ (length cs) (λ i h. some-none _ i (λ j l. ne_eqb (map_cell cs j).address (map_cell cs i).address (f i j h l)))

  pub map-rule : map_fits cs ≡ true ↔ MapFollows cs
  unfolding map_fits
  map-rule =
      let few = leb (length cs) 128 in
      let single = not (address_doubled cs) in (
        λ e. (leb-true (length cs) 128 (and_left few single e), once (not-true (address_doubled cs) (and_right few single e))),
        λ m. and_true (le-leb (length cs) 128 m.0) (ap not (not-twice m.1)),
      )
