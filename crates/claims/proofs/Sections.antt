-- The threads of a text by the lines that hold their statements (specs/Sections.antt states it). Assumes nothing.
use Prim.Native.Nat.{ℕ, zero, suc, ◌+◌, ◌-◌, ◌≤◌, ◌<◌}
use mathlib.Core.Path.{◌≡◌, refl, ap, sym, fun_ext, subst, subst⁻¹, ◌∙◌}
use mathlib.Core.Bool.{Bool, true, false, cond, not, ◌&&◌}
use mathlib.Core.List.{List, []}
use native.Mathlib.Omega.{arith}
use native.Mathlib.Decide.{ℕ_discrete, dec_lt}
use lib.Dec.{eqb}
use lib.ListN.{length, drop}
use lib.Seq.{drop-cons, drop-length}
use borrow.Author.Tests.{eqb-true, eqb-false, eq-eqb, ne_eqb}
use Rattle.base.specs.Below.{number}
use Rattle.base.proofs.Below.{number-grows, number-yes, number-no}
use Rattle.base.proofs.Choice.{and_true, and_false, and_right_false, and_left, or_false, or_left, or_right, clash}
use Rattle.records.specs.Instructions.{is_last}
use Rattle.text_lines.specs.Lines.{lines, is_dot, statement_line}
use Rattle.std.specs.Prelude.{Option, None, Some, Result, Ok, Err}
use Rattle.records.specs.declared.refusals.Refusal.{Refusal}
use Rattle.text_lines.specs.declared.Stated.{Stated}
use Rattle.text.specs.Sections.{Threads, dots, holds, held_added, halt, no_threads, added, is_complete, gained, closed, line_added, threads_from, threads}
use Rattle.text.proofs.Below.{cond_where}
use Rattle.text.proofs.Statements.{added-others, added-count, added-last, added-earlier, gained-ended, gained-others, gained-earlier}
use Rattle.claims.specs.Sections.{line, sections, section_of, holds_statement, statements_before, Gains, ThreadsAreTheSections}

-- ---- one number more

-- each place below the count is that of one that passes
number_reach : (test : ℕ → Bool) (n p : ℕ) → p < number n test → (i : ℕ) × (i < n) × (test i ≡ true) × (number i test ≡ p)
unfolding number
number_reach test zero p h = absurd (omega arith)
number_reach test (suc n) p h = go (number_reach test n p) (test n) refl h
  where
    go : (p < number n test → (i : ℕ) × (i < n) × (test i ≡ true) × (number i test ≡ p)) → (b : Bool) → test n ≡ b → p < number n test + cond b 1 0 →
        (i : ℕ) × (i < suc n) × (test i ≡ true) × (number i test ≡ p)
    go before false e l = let r = before (omega arith) in (r.0, omega (arith, r.1), r.2, r.3)
    go before true e l = elim (dec_lt p (number n test)) [
      | yes m ↦ let r = before m in (r.0, omega (arith, r.1), r.2, r.3)
      | no f ↦ (n, omega arith, e, omega arith)
    ]

-- equal statements and counts gain alike
gains_alike : (n k m c : ℕ) (x y : ℕ → Stated) → n ≡ k → m ≡ c → ((p : ℕ) → x p ≡ y p) → Gains n m x → Gains k c y
gains_alike n k m c x y e f h g =
    subst (λ (z : ℕ → Stated). Gains k c z) (fun_ext h) (subst (λ (z : ℕ). Gains k z x) f (subst (λ (z : ℕ). Gains z m x) e g))

module _ (text : List ℕ) where
  abbrev ends : ℕ → Bool
  ends i = is_dot (line text i)

  -- ---- dots

  dots-left : (i : ℕ) → i ≤ length (lines text) → section_of text i + dots (drop i (lines text)) ≡ dots (lines text)
  unfolding number dots
  dots-left zero h = omega arith
  dots-left (suc i) h =
      let ih = dots-left i (omega arith) in
      let here : dots (drop i (lines text)) ≡ cond (ends i) 1 0 + dots (drop (suc i) (lines text)) = ap dots (drop-cons (lines text) i [] h) in
      omega (arith, ih, here)

  sections-dots : sections text ≡ dots (lines text)
  unfolding dots
  sections-dots = omega (arith, dots-left (length (lines text)) (omega arith), ap dots (drop-length (lines text)))

  pub dots-after : (i : ℕ) → i ≤ length (lines text) → section_of text i + dots (drop i (lines text)) ≡ sections text
  dots-after i h = dots-left i h ∙ sym sections-dots

  -- ---- the threads after i lines

  abbrev following : ℕ → Threads → Threads
  following i T = cond (ends i) (closed T) (cond (eqb (dots (drop (suc i) (lines text))) 0) T (line_added (line text i) T))

  unfoldable after : ℕ → Threads
  after zero = no_threads
  after (suc i) = following i (after i)

  after-rest : (i : ℕ) → i ≤ length (lines text) → threads_from (after i) (drop i (lines text)) ≡ threads (lines text)
  unfolding after threads_from
  after-rest zero h = refl
  after-rest (suc i) h =
      sym (ap (threads_from (after i)) (drop-cons (lines text) i [] h)) ∙ after-rest i (omega arith)

  after-all : after (length (lines text)) ≡ threads (lines text)
  unfolding threads_from
  after-all = sym (ap (threads_from (after (length (lines text)))) (drop-length (lines text))) ∙ after-rest (length (lines text)) (omega arith)

  -- ---- what holds after i lines

  pub record Sorted (i : ℕ) (T : Threads) : Type 0 where
    pub ended : T.ended ≡ section_of text i
    pub counts : (s : ℕ) → s < sections text → T.ended ≤ s → T.count s ≡ statements_before text s i
    pub shut : (s : ℕ) → s < T.ended → Gains (statements_before text s i) (T.count s) (T.statement s)
    pub held : (s j : ℕ) → s < sections text → j < i → holds_statement text s j ≡ true → statement_line (line text j) ≡ Ok (Some (T.statement s (statements_before text s j)))

  -- a line holds no statement of another section, and a dot line holds none
  elsewhere : (s i : ℕ) → (section_of text i ≡ s → ⊥) → holds_statement text s i ≡ false
  elsewhere s i f = and_false (holds (statement_line (line text i))) (and_false (not (ends i)) (ne_eqb (section_of text i) s f))

  at_dot : (s i : ℕ) → ends i ≡ true → holds_statement text s i ≡ false
  at_dot s i d = and_false (holds (statement_line (line text i))) (and_right_false (eqb (section_of text i) s) (ap not d))

  holds_section : (s i : ℕ) → holds_statement text s i ≡ true → section_of text i ≡ s
  holds_section s i e =
      let here = eqb (section_of text i) s in
      eqb-true (section_of text i) s (and_left here (not (ends i)) (and_left (here && not (ends i)) (holds (statement_line (line text i))) e))

  -- statements of a section before line i come before its next one
  written-before : (s j i : ℕ) → j < i → holds_statement text s j ≡ true → statements_before text s j < statements_before text s i
  written-before s j i h e = omega (arith, number-yes (holds_statement text s) j e, number-grows (holds_statement text s) (suc j) i h)

  -- a line that holds no statement and is no dot
  sorted-same : (i : ℕ) (T : Threads) → ends i ≡ false → ((s : ℕ) → s < sections text → holds_statement text s i ≡ false) →
      T.ended ≤ sections text → Sorted i T → Sorted (suc i) T
  sorted-same i T d f most o = record {
    ended = o.ended ∙ sym (number-no ends i d);
    counts = λ s h l. o.counts s h l ∙ sym (number-no (holds_statement text s) i (f s h));
    shut = λ s h. subst⁻¹ (λ (n : ℕ). Gains n (T.count s) (T.statement s)) (number-no (holds_statement text s) i (f s (omega arith))) (o.shut s h);
    held = λ s j h l e. elim (ℕ_discrete j i) [
      | yes q ↦ clash (sym (ap (holds_statement text s) q) ∙ e) (f s h)
      | no g ↦ o.held s j h (omega arith) e
    ];
  }

  -- a line of the open section
  module _ (i : ℕ) (T : Threads) (x : Stated) (d : ends i ≡ false) (is : statement_line (line text i) ≡ Ok (Some x)) (most : T.ended < sections text) (o : Sorted i T) where
    abbrev more : Threads
    more = added x T

    more-ended : more.ended ≡ T.ended
    unfolding added
    more-ended = refl

    here : holds_statement text T.ended i ≡ true
    here = and_true (and_true (eq-eqb (section_of text i) T.ended (sym o.ended)) (ap not d)) (ap holds is)

    other : (s : ℕ) → (s ≡ T.ended → ⊥) → holds_statement text s i ≡ false
    other s f = elsewhere s i (λ e. f (sym e ∙ sym o.ended))

    -- the open section's count, and the statements held by the lines up to i
    own-count : more.count T.ended ≡ statements_before text T.ended (suc i)
    own-count = omega (arith, added-count x T, o.counts T.ended most (omega arith), number-yes (holds_statement text T.ended) i here)

    own_held : (j : ℕ) → j < suc i → holds_statement text T.ended j ≡ true → statement_line (line text j) ≡ Ok (Some (more.statement T.ended (statements_before text T.ended j)))
    own_held j l e =
        let n = o.counts T.ended most (omega arith) in
        elim (ℕ_discrete j i) [
          | yes q ↦
              let last : more.statement T.ended (statements_before text T.ended j) ≡ x = ap (λ (k : ℕ). more.statement T.ended (statements_before text T.ended k)) q ∙ ap (more.statement T.ended) (sym n) ∙ added-last x T in
              ap (λ (k : ℕ). statement_line (line text k)) q ∙ is ∙ ap (λ (y : Stated). Ok (Some y)) (sym last)
          | no f ↦
              let b = written-before T.ended j i (omega arith) e in
              o.held T.ended j most (omega arith) e ∙ ap (λ (y : Stated). Ok (Some y)) (sym (added-earlier x T (statements_before text T.ended j) (omega arith)))
        ]

    -- a line of another section stands before line i
    earlier : (s j : ℕ) → j < suc i → (s ≡ T.ended → ⊥) → holds_statement text s j ≡ true → j < i
    earlier s j l f e = elim (ℕ_discrete j i) [
      | yes q ↦ clash (sym (ap (holds_statement text s) q) ∙ e) (other s f)
      | no h ↦ omega arith
    ]

    sorted-added : Sorted (suc i) more
    sorted-added = record {
      ended = more-ended ∙ o.ended ∙ sym (number-no ends i d);
      counts = λ s h l. elim (ℕ_discrete s T.ended) [
        | yes q ↦ subst⁻¹ (λ (u : ℕ). more.count u ≡ statements_before text u (suc i)) q own-count
        | no f ↦ (added-others x T s f).0 ∙ o.counts s h (omega (arith, more-ended)) ∙ sym (number-no (holds_statement text s) i (other s f))
      ];
      shut = λ s h.
          let f : s ≡ T.ended → ⊥ = λ q. omega (arith, more-ended) in
          gains_alike (statements_before text s i) (statements_before text s (suc i)) (T.count s) (more.count s) (T.statement s) (more.statement s)
          (sym (number-no (holds_statement text s) i (other s f))) (sym (added-others x T s f).0) (λ p. sym ((added-others x T s f).1 p))
          (o.shut s (omega (arith, more-ended)));
      held = λ s j h l e. elim (ℕ_discrete s T.ended) [
        | yes q ↦ subst⁻¹ (λ (u : ℕ). statement_line (line text j) ≡ Ok (Some (more.statement u (statements_before text u j)))) q (own_held j l (subst (λ (u : ℕ). holds_statement text u j ≡ true) q e))
        | no f ↦ o.held s j h (earlier s j l f e) e ∙ ap (λ (y : Stated). Ok (Some y)) (sym ((added-others x T s f).1 (statements_before text s j)))
      ];
    }

  -- a dot line
  module _ (i : ℕ) (T : Threads) (d : ends i ≡ true) (most : T.ended < sections text) (o : Sorted i T) where
    none-at : (s : ℕ) → statements_before text s (suc i) ≡ statements_before text s i
    none-at s = number-no (holds_statement text s) i (at_dot s i d)

    open_count_lem : T.count T.ended ≡ statements_before text T.ended i
    open_count_lem = o.counts T.ended most (omega arith)

    -- the section that the dot ends
    own_gains : Gains (T.count T.ended) ((gained T).count T.ended) ((gained T).statement T.ended)
    unfolding gained
    own_gains = cond_where (λ (U : Threads). Gains (T.count T.ended) (U.count T.ended) (U.statement T.ended)) (is_complete T)
        (λ e. record {
          empty = λ z. z;
          ended = λ h l. refl;
          gained = λ h l. clash e (or_false (ne_eqb (T.count T.ended) 0 (omega arith)) l);
        })
        (λ e. let some = eqb-false (T.count T.ended) 0 (or_left (eqb (T.count T.ended) 0) last e) in
        record {
          empty = λ z. absurd (some z);
          ended = λ h l. clash (sym (ap (λ (s : Stated). is_last s.number) (added-earlier halt T (T.count T.ended - 1) (omega arith))) ∙ l) (or_right (eqb (T.count T.ended) 0) last e);
          gained = λ h l. (added-count halt T, added-last halt T);
        })
      where
        last : Bool
        last = is_last (T.statement T.ended (T.count T.ended - 1)).number

    kept-held : (s j : ℕ) → s < sections text → j < i → holds_statement text s j ≡ true → (gained T).statement s (statements_before text s j) ≡ T.statement s (statements_before text s j)
    kept-held s j h l e = elim (ℕ_discrete s T.ended) [
      | yes q ↦
          let b = written-before s j i l e in
          let n = o.counts s h (omega arith) in
          subst⁻¹ (λ (u : ℕ). (gained T).statement u (statements_before text s j) ≡ T.statement u (statements_before text s j)) q
          (gained-earlier T (statements_before text s j) (omega (arith, ap T.count q)))
      | no f ↦ (gained-others T s f).1 (statements_before text s j)
    ]

    sorted-closed : Sorted (suc i) (closed T)
    unfolding closed
    sorted-closed = record {
      ended = omega (arith, gained-ended T, o.ended, number-yes ends i d);
      counts = λ s h l.
          let f : s ≡ T.ended → ⊥ = λ q. omega (arith, gained-ended T) in
          (gained-others T s f).0 ∙ o.counts s h (omega (arith, gained-ended T)) ∙ sym (none-at s);
      shut = λ s h. elim (ℕ_discrete s T.ended) [
        | yes q ↦ subst⁻¹ (λ (u : ℕ). Gains (statements_before text u (suc i)) ((gained T).count u) ((gained T).statement u)) q
            (subst (λ (n : ℕ). Gains n ((gained T).count T.ended) ((gained T).statement T.ended)) (open_count_lem ∙ sym (none-at T.ended)) own_gains)
        | no f ↦ gains_alike (statements_before text s i) (statements_before text s (suc i)) (T.count s) ((gained T).count s) (T.statement s) ((gained T).statement s)
            (sym (none-at s)) (sym (gained-others T s f).0) (λ p. sym ((gained-others T s f).1 p))
            (o.shut s (omega (arith, gained-ended T)))
      ];
      held = λ s j h l e. elim (ℕ_discrete j i) [
        | yes q ↦ clash (sym (ap (holds_statement text s) q) ∙ e) (at_dot s i d)
        | no f ↦ o.held s j h (omega arith) e ∙ ap (λ (y : Stated). Ok (Some y)) (sym (kept-held s j h (omega arith) e))
      ];
    }

  -- ---- all lines

  sorted-next : (i : ℕ) (T : Threads) → i < length (lines text) → Sorted i T → Sorted (suc i) (following i T)
  unfolding line_added
  sorted-next i T h o = cond_where (Sorted (suc i)) (ends i)
      (λ d. sorted-closed i T d (omega (arith, o.ended, number-yes ends i d, left)) o)
      (λ d. let same = number-no ends i d in
      cond_where (Sorted (suc i)) (eqb (dots (drop (suc i) (lines text))) 0)
      (λ z. let none = eqb-true (dots (drop (suc i) (lines text))) 0 z in
      sorted-same i T d (λ s l. elsewhere s i (λ q. omega (arith, left))) (omega (arith, o.ended, left)) o)
      (λ z. let some = eqb-false (dots (drop (suc i) (lines text))) 0 z in
      held (statement_line (line text i)) refl d (omega (arith, o.ended, left))))
    where
      left : section_of text (suc i) + dots (drop (suc i) (lines text)) ≡ sections text
      left = dots-after (suc i) h

      held : (r : Result (Option Stated) Refusal) → statement_line (line text i) ≡ r → ends i ≡ false → T.ended < sections text → Sorted (suc i) (held_added r T)
      held (Ok (Some x)) e d most = sorted-added i T x d e most o
      held (Ok None) e d most = sorted-same i T d (λ s l. and_right_false (eqb (section_of text i) s && not (ends i)) (ap holds e)) (omega arith) o
      held (Err refusal) e d most = sorted-same i T d (λ s l. and_right_false (eqb (section_of text i) s && not (ends i)) (ap holds e)) (omega arith) o

  sorted_after : (i : ℕ) → i ≤ length (lines text) → Sorted i (after i)
  unfolding after number
  sorted_after zero h = record {
    ended = refl;
    counts = λ s l m. refl;
    shut = λ s l. absurd (omega arith);
    held = λ s j l m e. absurd (omega arith);
  }
  sorted_after (suc i) h = sorted-next i (after i) h (sorted_after i (omega arith))

pub threads_are_the_sections : ThreadsAreTheSections
threads_are_the_sections text =
    let n = length (lines text) in
    let o = subst (Sorted text n) (after-all text) (sorted_after text n (omega arith)) in
    record {
      count = o.ended;
      statements = λ s i h l e. o.held s i h l e;
      held = λ s p h l.
          let r = number_reach (holds_statement text s) n p l in
          (r.0, r.1, r.2, o.held s r.0 h r.1 r.2 ∙ ap (λ (k : ℕ). Ok (Some ((threads (lines text)).statement s k))) r.3);
      ends = λ s h. o.shut s (omega (arith, o.ended));
    }
