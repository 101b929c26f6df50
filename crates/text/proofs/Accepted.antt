-- The set of a text that rows 4 to 7 do not refuse is accepted. Assumes nothing.
use Prim.Native.Nat.{ℕ, zero, suc, ◌+◌, ◌-◌, ◌%◌, ◌≤◌, ◌<◌}
use mathlib.Core.Path.{◌≡◌, refl, ap, sym, subst⁻¹, ◌∙◌}
use mathlib.Core.Bool.{Bool, true, false, cond, not, ◌&&◌, ◌||◌}
use mathlib.Core.List.{List}
use native.Mathlib.Omega.{arith}
use native.Mathlib.Decide.{ℕ_discrete}
use lib.Dec.{eqb, ltb, leb}
use lib.ListN.{length}
use borrow.Author.Tests.{ltb-true, leb-true, eqb-true, lt-ltb, le-leb, eq-eqb, ne_eqb}
use Rattle.base.specs.Below.{number}
use Rattle.base.specs.Bytes.{same}
use Rattle.base.proofs.Below.{every-at, every-all}
use Rattle.base.proofs.Bytes.{same_self}
use Rattle.base.proofs.Choice.{chosen, passed, and_true, and_right}
use Rattle.records.specs.Instructions.{instructions, is_memory, is_jump, is_bare, is_last}
use Rattle.records.specs.Sets.{records, thread_at, number_at, mode_at, argument_at, pc_at, count_of, follows, argument_fits, record_fits, opens_at, set_accepted}
use Rattle.text_lines.specs.Lines.{unlabelled}
use Rattle.text_lines.specs.declared.Stated.{Stated}
use Rattle.text.specs.Sections.{Threads, threads}
use Rattle.text.specs.Records.{argument_of, set_bytes, statements_before, statements}
use Rattle.text.specs.Answers.{threads_fit, statements_fit, doubled_at, target_fits, thread_fits, labels_fit, checkpoints_fit}
use Rattle.text.proofs.Below.{between}
use Rattle.text.proofs.Sets.{before-none, before-next, length-set, records-set, thread-set, number-set, mode-set, spare-set, argument-set, pc-set, place, count_set}
use Rattle.text.proofs.Statements.{Sound, Kept, kept-threads}

-- what rows 4 to 7 leave
pub record Fitting (T : Threads) : Type 0 where
  pub some : 0 < T.ended
  pub four : T.ended ≤ 4
  pub filled : (t : ℕ) → t < T.ended → 0 < T.count t
  pub few : (t : ℕ) → t < T.ended → T.count t ≤ 32
  pub targets : (t p : ℕ) → t < T.ended → p < T.count t → is_jump (T.statement t p).number ≡ true → argument_of (T.count t) (T.statement t) p < T.count t
  pub checkpoints : number (records (set_bytes T)) (opens_at (set_bytes T)) ≤ 8

-- the argument of a statement that is no jump is the one in its line
pub plain-argument : (n : ℕ) (x : ℕ → Stated) (p : ℕ) → Sound (x p) → is_jump (x p).number ≡ false → argument_of n x p ≡ (x p).argument
unfolding argument_of
plain-argument n x p s j = passed _ _ (ap not (ap (λ (l : List ℕ). same l unlabelled) (s.targetless j) ∙ same_self unlabelled))

-- FENCE and HALT are no jumps
bare-jump : (n : ℕ) → is_bare n ≡ true → is_jump n ≡ false
bare-jump n e = elim (ℕ_discrete n 2) [
  | yes q ↦ rw q refl
  | no f ↦ let h : n ≡ 17 = eqb-true n 17 (sym (ap (λ (b : Bool). b || eqb n 17) (ne_eqb n 2 f)) ∙ e) in rw h refl
]

-- ---- the three ways in which a record follows

module _ (bytes : List ℕ) (k : ℕ) where
  follows-none : k ≡ 0 → thread_at bytes k ≡ 0 → pc_at bytes k ≡ 0 → follows bytes k ≡ true
  unfolding follows
  follows-none z t p = chosen _ _ (eq-eqb k 0 z) ∙ and_true (eq-eqb (thread_at bytes k) 0 t) (eq-eqb (pc_at bytes k) 0 p)

  follows_same : 0 < k → thread_at bytes k ≡ thread_at bytes (k - 1) → pc_at bytes k ≡ pc_at bytes (k - 1) + 1 → follows bytes k ≡ true
  unfolding follows
  follows_same h t p =
      passed _ _ (ne_eqb k 0 (omega arith))
      ∙ chosen _ _ (eq-eqb (thread_at bytes k) (thread_at bytes (k - 1)) t)
      ∙ eq-eqb (pc_at bytes k) (pc_at bytes (k - 1) + 1) p

  follows-other : 0 < k → thread_at bytes k ≡ thread_at bytes (k - 1) + 1 → pc_at bytes k ≡ 0 → is_last (number_at bytes (k - 1)) ≡ true → follows bytes k ≡ true
  unfolding follows
  follows-other h t p l =
      passed _ _ (ne_eqb k 0 (omega arith))
      ∙ passed _ _ (ne_eqb (thread_at bytes k) (thread_at bytes (k - 1)) (omega (arith, t)))
      ∙ and_true (and_true (eq-eqb (thread_at bytes k) (thread_at bytes (k - 1) + 1) t) (eq-eqb (pc_at bytes k) 0 p)) l

-- ---- the set

module _ (T : Threads) (kept : Kept T) (fit : Fitting T) where
  abbrev bytes : List ℕ
  bytes = set_bytes T

  module _ (t p : ℕ) (h : t < T.ended) (l : p < T.count t) where
    abbrev at : ℕ
    at = statements_before T t + p

    sound : Sound (T.statement t p)
    sound = kept.sound t p

    argument-fits : argument_fits bytes at ≡ true
    unfolding argument_fits
    argument-fits = go (is_bare (T.statement t p).number) refl (is_jump (T.statement t p).number) refl
      where
        here : number_at bytes at ≡ (T.statement t p).number
        here = number-set T t p h l

        go : (b : Bool) → is_bare (T.statement t p).number ≡ b → (j : Bool) → is_jump (T.statement t p).number ≡ j →
            cond (is_bare (number_at bytes at)) (eqb (argument_at bytes at) 0)
            (cond (is_jump (number_at bytes at)) (ltb (argument_at bytes at) (count_of bytes (thread_at bytes at))) true) ≡ true
        go true b j jump =
            chosen _ _ (ap is_bare here ∙ b)
            ∙ eq-eqb (argument_at bytes at) 0 (argument-set T t p h l ∙ plain-argument (T.count t) (T.statement t) p sound (bare-jump (T.statement t p).number b) ∙ sound.bare b)
        go false b true jump =
            passed _ _ (ap is_bare here ∙ b) ∙ chosen _ _ (ap is_jump here ∙ jump)
            ∙ lt-ltb (argument_at bytes at) (count_of bytes (thread_at bytes at)) (omega (arith, argument-set T t p h l, ap (count_of bytes) (thread-set T t p h l), count_set T t h, fit.targets t p h l jump))
        go false b false jump = passed _ _ (ap is_bare here ∙ b) ∙ passed _ _ (ap is_jump here ∙ jump)

    record_fits_lem : record_fits bytes at ≡ true
    unfolding record_fits
    record_fits_lem =
        let here = number-set T t p h l in
        and_true (and_true (and_true (and_true (and_true
        (lt-ltb (thread_at bytes at) 4 (omega (arith, thread-set T t p h l, fit.four)))
        (lt-ltb (pc_at bytes at) 32 (omega (arith, pc-set T t p h l, fit.few t h))))
        (lt-ltb (number_at bytes at) instructions (omega (arith, here, sound.number))))
        (le-leb (mode_at bytes at) (cond (is_memory (number_at bytes at)) 1 0) (omega (arith, mode-set T t p h l, ap {B = ℕ} (λ (n : ℕ). cond (is_memory n) 1 0) here, sound.mode))))
        (eq-eqb _ 0 (spare-set T t p h l)))
        argument-fits

  -- each record follows the one before it
  record_follows : (t p : ℕ) → t < T.ended → p < T.count t → follows bytes (statements_before T t + p) ≡ true
  record_follows zero zero h l = follows-none bytes (statements_before T 0 + 0) (omega (arith, before-none T)) (thread-set T 0 0 h l) (pc-set T 0 0 h l)
  record_follows (suc t) zero h l =
      let filled = fit.filled t (omega arith) in
      let q = T.count t - 1 in
      let k = statements_before T (suc t) + 0 in
      let next = before-next T t in
      let back : k - 1 ≡ statements_before T t + q = omega arith in
      follows-other bytes k (omega arith)
      (omega (arith, thread-set T (suc t) 0 h l, ap (thread_at bytes) back, thread-set T t q (omega arith) (omega arith)))
      (pc-set T (suc t) 0 h l)
      (ap is_last (ap (number_at bytes) back ∙ number-set T t q (omega arith) (omega arith)) ∙ kept.last t (omega arith) filled)
  record_follows t (suc p) h l =
      let k = statements_before T t + suc p in
      let back : k - 1 ≡ statements_before T t + p = omega arith in
      follows_same bytes k (omega arith)
      (omega (arith, thread-set T t (suc p) h l, ap (thread_at bytes) back, thread-set T t p h (omega arith)))
      (omega (arith, pc-set T t (suc p) h l, ap (pc_at bytes) back, pc-set T t p h (omega arith)))

  record_passes : (k : ℕ) → k < records bytes → (follows bytes k && record_fits bytes k) ≡ true
  record_passes k b =
      let r = place T T.ended k (omega (arith, records-set T)) in
      subst⁻¹ (λ (j : ℕ). (follows bytes j && record_fits bytes j) ≡ true) r.4
      (and_true (record_follows r.0 r.1 r.2 r.3) (record_fits_lem r.0 r.1 r.2 r.3))

  pub set-accepted : set_accepted bytes ≡ true
  unfolding set_accepted
  set-accepted = and_true (and_true (and_true (and_true
      (eq-eqb (length bytes % 8) 0 (omega (arith, length-set T)))
      (lt-ltb 0 (records bytes) (omega (arith, some-records))))
      (every-all (λ k. follows bytes k && record_fits bytes k) (records bytes) record_passes))
      (ap is_last (ap (number_at bytes) back ∙ number-set T t q h l) ∙ kept.last t h (fit.filled t h)))
      (le-leb (number (records bytes) (opens_at bytes)) 8 fit.checkpoints)
    where
      t : ℕ
      t = T.ended - 1

      q : ℕ
      q = T.count t - 1

      h : t < T.ended
      h = omega (arith, fit.some)

      l : q < T.count t
      l = omega (arith, fit.filled t h)

      all : statements T ≡ statements_before T t + T.count t
      all = let e : suc t ≡ T.ended = omega (arith, fit.some) in ap (statements_before T) (sym e) ∙ before-next T t

      some-records : 0 < records bytes
      some-records = omega (arith, records-set T, all, fit.filled t h)

      back : records bytes - 1 ≡ statements_before T t + q
      back = omega (arith, records-set T, all, fit.filled t h)

-- ---- rows 4 to 7 as facts

-- a jump's target is not beyond; x gives a thread's n statements by pc
pub target_below : (n : ℕ) (x : ℕ → Stated) (p : ℕ) → target_fits n x p ≡ true → is_jump (x p).number ≡ true → argument_of n x p < n
unfolding target_fits
target_below n x p e j = ltb-true (argument_of n x p) n (sym (chosen _ _ j) ∙ e)

module _ (T : Threads) where
  pub statement-fits : labels_fit T ≡ true → (t p : ℕ) → t < T.ended → p < T.count t →
      (not (doubled_at (T.statement t) p) && target_fits (T.count t) (T.statement t) p) ≡ true
  unfolding labels_fit thread_fits
  statement-fits e t p h l =
      every-at (λ q. not (doubled_at (T.statement t) q) && target_fits (T.count t) (T.statement t) q) (T.count t) p
      (every-at (λ u. thread_fits (T.count u) (T.statement u)) T.ended t e h) l

  pub counts-between : statements_fit T ≡ true → (t : ℕ) → t < T.ended → (0 < T.count t) × (T.count t ≤ 32)
  unfolding statements_fit
  counts-between e t h = (between 0 (T.count t) 32).0 (every-at (λ u. ltb 0 (T.count u) && leb (T.count u) 32) T.ended t e h)

  pub fitting : threads_fit T ≡ true → statements_fit T ≡ true → labels_fit T ≡ true → checkpoints_fit (set_bytes T) ≡ true → Fitting T
  unfolding checkpoints_fit
  fitting four five six seven = record {
    some = ((between 0 T.ended 4).0 four).0;
    four = ((between 0 T.ended 4).0 four).1;
    filled = λ t h. (counts-between five t h).0;
    few = λ t h. (counts-between five t h).1;
    targets = λ t p h l. target_below (T.count t) (T.statement t) p
        (and_right (not (doubled_at (T.statement t) p)) (target_fits (T.count t) (T.statement t) p) (statement-fits six t p h l));
    checkpoints = leb-true (number (records (set_bytes T)) (opens_at (set_bytes T))) 8 seven;
  }

-- the set of a text that these rows do not refuse
pub accepted-set : (ls : List (List ℕ)) → threads_fit (threads ls) ≡ true → statements_fit (threads ls) ≡ true → labels_fit (threads ls) ≡ true →
    checkpoints_fit (set_bytes (threads ls)) ≡ true → set_accepted (set_bytes (threads ls)) ≡ true
accepted-set ls four five six seven = set-accepted (threads ls) (kept-threads ls) (fitting (threads ls) four five six seven)
