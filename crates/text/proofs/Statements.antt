-- What reading makes true of every statement and of every thread that has ended. Assumes nothing.
use Prim.Native.Nat.{ℕ, ◌+◌, ◌-◌, ◌≤◌, ◌<◌}
use mathlib.Core.Path.{◌≡◌, refl, ap, sym, subst⁻¹, ◌∙◌}
use mathlib.Core.Bool.{Bool, true, false, cond, not, ◌&&◌, ◌||◌}
use mathlib.Core.List.{List, [], ◌∷◌}
use native.Mathlib.Omega.{arith}
use native.Mathlib.Decide.{ℕ_discrete}
use lib.Dec.{eqb, ltb, leb}
use lib.ListN.{length, drop}
use borrow.Author.Tests.{ltb-false, leb-true, leb-false, eq-eqb, ne_eqb}
use Rattle.base.specs.Below.{least}
use Rattle.base.specs.Bytes.{same}
use Rattle.base.proofs.Bytes.{length_over}
use Rattle.base.proofs.Choice.{chosen, passed, and_left, and_right, and_true, and_false, and_right_false, clash, cond_both}
use Rattle.records.specs.Instructions.{instructions, is_memory, is_jump, is_bare, is_last, word_of}
use Rattle.text_lines.specs.Characters.{is_blank, is_digit, digits, skip, only_blanks, name, past_name, past_digits, value, first, ends_with}
use Rattle.text_lines.specs.Lines.{is_dot, is_allowed, uncommented, unlabelled, padded, is_label, held, stated, numbered, bracketed, targeted, argued, after_word, worded, labelled, statement, statement_line}
use Rattle.std.specs.Prelude.{Option, None, Some, Result, Ok, Err}
use Rattle.records.specs.declared.refusals.Refusal.{Refusal}
use Rattle.text_lines.specs.declared.Stated.{Stated}
use Rattle.text.proofs.Below.{cond_where}
use Rattle.text.specs.Sections.{Threads, dots, held_added, halt, no_threads, added, is_complete, gained, closed, line_added, threads_from, threads}

-- ---- a line's statement

-- one of the twenty; only memory words are indirect; FENCE and HALT have argument 0; only jumps have a label for a target
pub record Sound (x : Stated) : Type 0 where
  pub number : x.number < instructions
  pub mode : x.mode ≤ cond (is_memory x.number) 1 0
  pub bare : is_bare x.number ≡ true → x.argument ≡ 0
  pub targetless : is_jump x.number ≡ false → x.target ≡ unlabelled
  pub word : x.argument ≤ 65535
  pub label : length x.label ≡ 16
  pub target : length x.target ≡ 16

-- a line that is not refused gives a sound statement, if it gives one
abbrev Reading : Result Stated Refusal → Type 0
Reading (Ok x) = Sound x
Reading (Err refusal) = Unit {0}

abbrev pub HoldsSound : Result (Option Stated) Refusal → Type 0
HoldsSound (Ok (Some x)) = Sound x
HoldsSound (Ok None) = Unit {0}
HoldsSound (Err refusal) = Unit {0}

length-padded : (w : List ℕ) → is_label w ≡ true → length (padded w) ≡ 16
unfolding padded is_label
length-padded w e =
    let some = ltb 0 (length w) in
    let few = leb (length w) 16 in
    let h = and_right some few (and_left (some && few) (not (is_digit (first w))) e) in
    length_over w unlabelled (leb-true (length w) 16 h)

module _ (label : List ℕ) (number : ℕ) (long : length label ≡ 16) (known : number < instructions) where
  sound-stated : (mode argument : ℕ) → mode ≤ cond (is_memory number) 1 0 → (is_bare number ≡ true → argument ≡ 0) →
      Reading (stated label number mode argument)
  unfolding stated
  sound-stated mode argument m b = cond_where Reading (ltb 65535 argument) (λ e. tt) (λ e. record {
    number = known;
    mode = m;
    bare = b;
    targetless = λ j. refl;
    word = ltb-false 65535 argument e;
    label = long;
    target = refl;
  })

  module _ (bare : is_bare number ≡ false) (s : List ℕ) where
    sound-numbered : Reading (numbered label number s)
    unfolding numbered
    sound-numbered = cond_both Reading (ltb 0 (digits s) && only_blanks (past_digits s))
        (sound-stated 0 (value s) (omega arith) (λ b. clash b bare)) tt

    sound-bracketed : is_memory number ≡ true → Reading (bracketed label number s)
    unfolding bracketed
    sound-bracketed m = cond_both Reading (ltb 0 (digits s) && ends_with 93 (skip (past_digits s)))
        (sound-stated 1 (value s) (omega (arith, chosen {A = ℕ} 1 0 m)) (λ b. clash b bare)) tt

    sound-targeted : is_jump number ≡ true → Reading (targeted label number s)
    unfolding targeted
    sound-targeted j = cond_where Reading (is_label (name s) && only_blanks (past_name s)) (λ e. record {
      number = known;
      mode = omega arith;
      bare = λ b. refl;
      targetless = λ n. clash j n;
      word = omega arith;
      label = long;
      target = length-padded (name s) (and_left (is_label (name s)) (only_blanks (past_name s)) e);
    }) (λ e. tt)

  sound-argued : is_bare number ≡ false → (s : List ℕ) → Reading (argued label number s)
  unfolding argued
  sound-argued bare s = cond_where Reading (is_memory number && eqb (first s) 91)
      (λ e. sound-bracketed bare (skip (drop 1 s)) (and_left (is_memory number) (eqb (first s) 91) e))
      (λ e. cond_where Reading (is_jump number && not (is_digit (first s)))
      (λ f. sound-targeted bare s (and_left (is_jump number) (not (is_digit (first s))) f))
      (λ f. sound-numbered bare s))

sound-word : (label : List ℕ) (number : ℕ) (s : List ℕ) → length label ≡ 16 → Reading (after_word label number s)
unfolding after_word
sound-word label number s long = cond_where Reading (leb instructions number)
    (λ e. tt)
    (λ e. let known = leb-false instructions number e in
    cond_where Reading (is_bare number)
    (λ b. cond_both Reading (only_blanks s) (sound-stated label number long known 0 0 (omega arith) (λ f. refl)) tt)
    (λ b. cond_both Reading (is_blank (first s)) (sound-argued label number long known b (skip s)) tt))

sound-worded : (label s : List ℕ) → length label ≡ 16 → Reading (worded label s)
unfolding worded
sound-worded label s long = sound-word label (least instructions (λ n. same (name s) (word_of n))) (past_name s) long

sound-labelled : (s : List ℕ) → Reading (labelled s)
unfolding labelled
sound-labelled s = cond_both Reading (eqb (first (skip (past_name s))) 58)
    (cond_where Reading (is_label (name s)) (λ e. sound-worded (padded (name s)) (skip (drop 1 (skip (past_name s)))) (length-padded (name s) e)) (λ e. tt))
    (sound-worded unlabelled s refl)

sound_held : (r : Result Stated Refusal) → Reading r → HoldsSound (held r)
sound_held (Ok x) s = s
sound_held (Err refusal) s = tt

pub sound-line : (l : List ℕ) → HoldsSound (statement_line l)
unfolding statement_line statement
sound-line l = cond_both HoldsSound (is_allowed l)
    (cond_both HoldsSound (only_blanks (uncommented l)) tt (sound_held (labelled (skip (uncommented l))) (sound-labelled (skip (uncommented l)))))
    tt

pub sound-halt : Sound halt
sound-halt = record {
  number = omega arith;
  mode = omega arith;
  bare = λ b. refl;
  targetless = λ j. refl;
  word = omega arith;
  label = refl;
  target = refl;
}

-- ---- a statement more

module _ (x : Stated) (T : Threads) where
  -- a thread other than the open one stays
  pub added-others : (t : ℕ) → (t ≡ T.ended → ⊥) → ((added x T).count t ≡ T.count t) × ((p : ℕ) → (added x T).statement t p ≡ T.statement t p)
  unfolding added
  added-others t f =
      let other = ne_eqb t T.ended f in
      (passed _ _ other, λ p. passed _ _ (and_false (eqb p (T.count t)) other))

  pub added-count : (added x T).count T.ended ≡ T.count T.ended + 1
  unfolding added
  added-count = chosen _ _ (eq-eqb T.ended T.ended refl)

  pub added-last : (added x T).statement T.ended (T.count T.ended) ≡ x
  unfolding added
  added-last = chosen _ _ (and_true (eq-eqb T.ended T.ended refl) (eq-eqb (T.count T.ended) (T.count T.ended) refl))

  pub added-earlier : (p : ℕ) → p < T.count T.ended → (added x T).statement T.ended p ≡ T.statement T.ended p
  unfolding added
  added-earlier p h = passed _ _ (and_right_false (eqb T.ended T.ended) (ne_eqb p (T.count T.ended) (omega arith)))

-- ---- threads

-- every statement is sound; each thread that has ended, unless empty, ends in EXIT, JMP or HALT; no thread is past the open one
pub record Kept (T : Threads) : Type 0 where
  pub sound : (t p : ℕ) → Sound (T.statement t p)
  pub last : (t : ℕ) → t < T.ended → 0 < T.count t → is_last (T.statement t (T.count t - 1)).number ≡ true
  pub later : (t : ℕ) → T.ended < t → T.count t ≡ 0

abbrev EndsIn : (ℕ → Stated) → ℕ → Type 0
EndsIn statement n = 0 < n → is_last (statement (n - 1)).number ≡ true

-- where two threads' statements and counts are equal, they end alike
ends-alike : (x y : ℕ → Stated) (m n : ℕ) → m ≡ n → ((p : ℕ) → x p ≡ y p) → EndsIn y n → EndsIn x m
ends-alike x y m n e f ends h =
    ap (λ (s : Stated). is_last s.number) (f (m - 1) ∙ ap (λ (k : ℕ). y (k - 1)) e) ∙ ends (omega arith)

kept-added : (x : Stated) (T : Threads) → Sound x → Kept T → Kept (added x T)
unfolding added
kept-added x T s k = record {
  sound = λ t p. cond_both Sound (eqb t T.ended && eqb p (T.count t)) s (k.sound t p);
  last = λ t h.
      let other = added-others x T t (omega arith) in
      ends-alike ((added x T).statement t) (T.statement t) ((added x T).count t) (T.count t) other.0 other.1 (k.last t h);
  later = λ t h. (added-others x T t (omega arith)).0 ∙ k.later t h;
}

pub gained-ended : (T : Threads) → (gained T).ended ≡ T.ended
unfolding gained added
gained-ended T = cond_both (λ (U : Threads). U.ended ≡ T.ended) (is_complete T) refl refl

pub gained-others : (T : Threads) (t : ℕ) → (t ≡ T.ended → ⊥) → ((gained T).count t ≡ T.count t) × ((p : ℕ) → (gained T).statement t p ≡ T.statement t p)
unfolding gained
gained-others T t f =
    cond_both (λ (U : Threads). (U.count t ≡ T.count t) × ((p : ℕ) → U.statement t p ≡ T.statement t p)) (is_complete T)
    (refl, λ p. refl) (added-others halt T t f)

pub gained-earlier : (T : Threads) (p : ℕ) → p < T.count T.ended → (gained T).statement T.ended p ≡ T.statement T.ended p
unfolding gained
gained-earlier T p h =
    cond_both (λ (U : Threads). U.statement T.ended p ≡ T.statement T.ended p) (is_complete T) refl (added-earlier halt T p h)

kept-gained : (T : Threads) → Kept T → Kept (gained T)
unfolding gained
kept-gained T k = cond_both Kept (is_complete T) k (kept-added halt T sound-halt k)

-- the open section, with the HALT that it may gain, ends as a thread must
gained-ends : (T : Threads) → EndsIn ((gained T).statement T.ended) ((gained T).count T.ended)
unfolding gained
gained-ends T = cond_where (λ (U : Threads). EndsIn (U.statement T.ended) (U.count T.ended)) (is_complete T) complete
    (λ e h. ap (λ (s : Stated). is_last s.number) (ap (λ (n : ℕ). (added halt T).statement T.ended n) before ∙ added-last halt T))
  where
    before : (added halt T).count T.ended - 1 ≡ T.count T.ended
    before = omega (arith, added-count halt T)

    complete : is_complete T ≡ true → EndsIn (T.statement T.ended) (T.count T.ended)
    complete e h = sym (ap (λ (b : Bool). b || is_last (T.statement T.ended (T.count T.ended - 1)).number) (ne_eqb (T.count T.ended) 0 (omega arith))) ∙ e

kept-closed : (T : Threads) → Kept T → Kept (closed T)
unfolding closed
kept-closed T k =
    let g = kept-gained T k in
    let same = gained-ended T in
    record {
      sound = g.sound;
      last = λ t h. elim (ℕ_discrete t T.ended) [
        | yes e ↦ subst⁻¹ (λ (u : ℕ). EndsIn ((gained T).statement u) ((gained T).count u)) e (gained-ends T)
        | no f ↦ g.last t (omega arith)
      ];
      later = λ t h. g.later t (omega arith);
    }

kept_held : (r : Result (Option Stated) Refusal) (T : Threads) → HoldsSound r → Kept T → Kept (held_added r T)
kept_held (Ok (Some x)) T s k = kept-added x T s k
kept_held (Ok None) T s k = k
kept_held (Err refusal) T s k = k

kept_line : (l : List ℕ) (T : Threads) → Kept T → Kept (line_added l T)
unfolding line_added
kept_line l T k = kept_held (statement_line l) T (sound-line l) k

kept_from : (T : Threads) (ls : List (List ℕ)) → Kept T → Kept (threads_from T ls)
unfolding threads_from
kept_from T [] k = k
kept_from T (l ∷ ls) k = kept_from (cond (is_dot l) (closed T) (cond (eqb (dots ls) 0) T (line_added l T))) ls
    (cond_both Kept (is_dot l) (kept-closed T k) (cond_both Kept (eqb (dots ls) 0) k (kept_line l T k)))

pub kept-threads : (ls : List (List ℕ)) → Kept (threads ls)
kept-threads ls = kept_from no_threads ls (record { sound = λ t p. sound-halt; last = λ t h. absurd (omega arith); later = λ t h. refl })
