-- What acceptance says of a set: its tests as facts, where its records stand, and that the set they hold is well formed. Assumes nothing.
use Prim.Native.Nat.{ℕ, zero, suc, ◌+◌, ◌-◌, ◌%◌, ◌≤◌, ◌<◌}
use mathlib.Core.Path.{◌≡◌, refl, sym, ap, ap₂, fun_ext, subst⁻¹, ◌∙◌}
use mathlib.Core.Bool.{Bool, true, false, cond, ◌&&◌}
use mathlib.Core.List.{List, [], ◌∷◌}
use mathlib.Core.Logic.{◌⊎◌, inl, inr, ⊎_elim}
use native.Mathlib.Omega.{arith}
use native.Mathlib.Decide.{ℕ_discrete}
use lib.Dec.{eqb, ltb, leb}
use lib.ListN.{length, get_or}
use borrow.Author.Tests.{eqb-true, ltb-true, leb-true, lt-ltb, le-ltb, ne_eqb}
use Rattle.base.specs.Below.{every, number}
use Rattle.base.proofs.Choice.{chosen, passed, and_left, and_right}
use Rattle.base.proofs.Below.{every-at, number-none, number-below, number_up}
use Rattle.records.specs.Instructions.{instructions, is_memory, is_jump, is_bare, is_last}
use Rattle.records.specs.declared.Statement.{Statement}
use Rattle.records.specs.declared.Layout.{Layout}
use Rattle.records.specs.Sets.{WellFormedSet, records, thread_at, number_at, mode_at, spare_at, argument_at, pc_at, statement_at, nothing, threads_of, count_of, counts_of, start_of, set_of, follows, argument_fits, record_fits, opens_at, set_accepted, layout_of, set_by}
use Rattle.records.proofs.Places.{Rows, start, rises, found, reached, goes_on_lem, few, most}

-- ---- the tests as facts

-- five tests that hold together hold each
five : (a b c d e : Bool) → (a && b && c && d && e) ≡ true → (a ≡ true) × (b ≡ true) × (c ≡ true) × (d ≡ true) × (e ≡ true)
five a b c d e h =
    let h4 = and_left (a && b && c && d) e h in
    let h3 = and_left (a && b && c) d h4 in
    let h2 = and_left (a && b) c h3 in
    (and_left a b h2, and_right a b h2, and_right (a && b) c h3, and_right (a && b && c) d h4, and_right (a && b && c && d) e h)

-- a set's tests
pub record Accepted (bytes : List ℕ) : Type 0 where
  pub whole : length bytes % 8 ≡ 0
  pub some : 0 < records bytes
  pub follow : (k : ℕ) → k < records bytes → follows bytes k ≡ true
  pub fit : (k : ℕ) → k < records bytes → record_fits bytes k ≡ true
  pub last : is_last (number_at bytes (records bytes - 1)) ≡ true
  pub checkpoints : number (records bytes) (opens_at bytes) ≤ 8

pub accepted : (bytes : List ℕ) → set_accepted bytes ≡ true → Accepted bytes
unfolding set_accepted
accepted bytes e = go (five _ _ _ _ _ e)
  where
    go : (eqb (length bytes % 8) 0 ≡ true) × (ltb 0 (records bytes) ≡ true) × (every (records bytes) (λ k. follows bytes k && record_fits bytes k) ≡ true) × (is_last (number_at bytes (records bytes - 1)) ≡ true) × (leb (number (records bytes) (opens_at bytes)) 8 ≡ true) → Accepted bytes
    go (w, s, f, l, c) = record {
      whole = eqb-true (length bytes % 8) 0 w;
      some = ltb-true 0 (records bytes) s;
      follow = λ k b. and_left (follows bytes k) (record_fits bytes k) (every-at (λ k. follows bytes k && record_fits bytes k) (records bytes) k f b);
      fit = λ k b. and_right (follows bytes k) (record_fits bytes k) (every-at (λ k. follows bytes k && record_fits bytes k) (records bytes) k f b);
      last = l;
      checkpoints = leb-true (number (records bytes) (opens_at bytes)) 8 c;
    }

-- a record's tests
pub record Fitting (bytes : List ℕ) (k : ℕ) : Type 0 where
  pub thread : thread_at bytes k < 4
  pub pc : pc_at bytes k < 32
  pub number : number_at bytes k < instructions
  pub mode : mode_at bytes k ≤ cond (is_memory (number_at bytes k)) 1 0
  pub spare : spare_at bytes k ≡ 0
  pub argument : argument_fits bytes k ≡ true

pub fitting : (bytes : List ℕ) (k : ℕ) → record_fits bytes k ≡ true → Fitting bytes k
unfolding record_fits
fitting bytes k e =
    let t = ltb (thread_at bytes k) 4 in
    let p = ltb (pc_at bytes k) 32 in
    let n = ltb (number_at bytes k) instructions in
    let m = leb (mode_at bytes k) (cond (is_memory (number_at bytes k)) 1 0) in
    let s = eqb (spare_at bytes k) 0 in
    let h = five t p n m s (and_left (t && p && n && m && s) (argument_fits bytes k) e) in
    record {
      thread = ltb-true (thread_at bytes k) 4 h.0;
      pc = ltb-true (pc_at bytes k) 32 h.1;
      number = ltb-true (number_at bytes k) instructions h.2;
      mode = leb-true (mode_at bytes k) (cond (is_memory (number_at bytes k)) 1 0) h.3;
      spare = eqb-true (spare_at bytes k) 0 h.4;
      argument = and_right (t && p && n && m && s) (argument_fits bytes k) e;
    }

bare-argument : (bytes : List ℕ) (k : ℕ) → argument_fits bytes k ≡ true → is_bare (number_at bytes k) ≡ true → argument_at bytes k ≡ 0
unfolding argument_fits
bare-argument bytes k e b = eqb-true (argument_at bytes k) 0 (sym (chosen _ _ b) ∙ e)

-- a jump's target; where a word could be bare too its argument would be 0
jump-target : (bytes : List ℕ) (k : ℕ) → argument_fits bytes k ≡ true → is_jump (number_at bytes k) ≡ true → 0 < count_of bytes (thread_at bytes k) → argument_at bytes k < count_of bytes (thread_at bytes k)
unfolding argument_fits
jump-target bytes k e j h = go (is_bare (number_at bytes k)) refl
  where
    go : (b : Bool) → is_bare (number_at bytes k) ≡ b → argument_at bytes k < count_of bytes (thread_at bytes k)
    go true b = omega (arith, bare-argument bytes k e b)
    go false b = ltb-true (argument_at bytes k) (count_of bytes (thread_at bytes k)) (sym (passed _ _ b ∙ chosen _ _ j) ∙ e)

-- ---- where the records stand

-- record k + 1 is the next of record k's thread, or the first of the next thread, and then record k is one that a thread may end in
abbrev pub Next : List ℕ → ℕ → Type 0
Next bytes k = ((thread_at bytes (k + 1) ≡ thread_at bytes k) × (pc_at bytes (k + 1) ≡ pc_at bytes k + 1))
    ⊎ ((thread_at bytes (k + 1) ≡ thread_at bytes k + 1) × (pc_at bytes (k + 1) ≡ 0) × (is_last (number_at bytes k) ≡ true))

follow-first : (bytes : List ℕ) → follows bytes 0 ≡ true → (thread_at bytes 0 ≡ 0) × (pc_at bytes 0 ≡ 0)
unfolding follows
follow-first bytes e =
    let t = eqb (thread_at bytes 0) 0 in
    let p = eqb (pc_at bytes 0) 0 in
    (eqb-true (thread_at bytes 0) 0 (and_left t p e), eqb-true (pc_at bytes 0) 0 (and_right t p e))

follow-next : (bytes : List ℕ) (k : ℕ) → follows bytes (k + 1) ≡ true → Next bytes k
unfolding follows
follow-next bytes k e = go (eqb (thread_at bytes (k + 1)) (thread_at bytes k)) refl (rw back at (sym (passed _ _ (ne_eqb (k + 1) 0 (omega arith))) ∙ e))
  where
    back : k + 1 - 1 ≡ k
    back = omega arith

    go : (b : Bool) → eqb (thread_at bytes (k + 1)) (thread_at bytes k) ≡ b →
        cond (eqb (thread_at bytes (k + 1)) (thread_at bytes k)) (eqb (pc_at bytes (k + 1)) (pc_at bytes k + 1))
        (eqb (thread_at bytes (k + 1)) (thread_at bytes k + 1) && eqb (pc_at bytes (k + 1)) 0 && is_last (number_at bytes k)) ≡ true → Next bytes k
    go true q h = inl (eqb-true _ _ q, eqb-true _ _ (sym (chosen _ _ q) ∙ h))
    go false q h =
        let t = eqb (thread_at bytes (k + 1)) (thread_at bytes k + 1) in
        let p = eqb (pc_at bytes (k + 1)) 0 in
        let l = is_last (number_at bytes k) in
        let f = sym (passed _ _ q) ∙ h in
        let g = and_left (t && p) l f in
        inr (eqb-true _ _ (and_left t p g), eqb-true _ _ (and_right t p g), and_right (t && p) l f)

pub counts-at : (bytes : List ℕ) (t : ℕ) → t < 4 → get_or (counts_of bytes) t 0 ≡ count_of bytes t
counts-at bytes zero h = refl
counts-at bytes (suc zero) h = refl
counts-at bytes (suc (suc zero)) h = refl
counts-at bytes (suc (suc (suc zero))) h = refl
counts-at bytes (suc (suc (suc (suc t)))) h = absurd (omega arith)

pub count-below : (bytes : List ℕ) (t : ℕ) → count_of bytes t ≤ records bytes
unfolding count_of
count-below bytes t = number-below (λ k. eqb (thread_at bytes k) t) (records bytes)

start_is : (bytes : List ℕ) (t : ℕ) → start_of bytes t ≡ start (thread_at bytes) (records bytes) t
unfolding start_of count_of
start_is bytes zero = sym (number-none (λ k. ltb (thread_at bytes k) 0) (records bytes) (λ k b. le-ltb (thread_at bytes k) 0 (omega arith)))
start_is bytes (suc t) = omega (arith, start_is bytes t, number_up (thread_at bytes) (records bytes) t)

module _ (bytes : List ℕ) (ok : set_accepted bytes ≡ true) where
  tests : Accepted bytes
  tests = accepted bytes ok

  pub fits : (k : ℕ) → k < records bytes → Fitting bytes k
  fits k b = fitting bytes k (tests.fit k b)

  next : (k : ℕ) → k + 1 < records bytes → Next bytes k
  next k b = follow-next bytes k (tests.follow (k + 1) b)

  pub rows : Rows (thread_at bytes) (pc_at bytes) (records bytes)
  rows =
      let first = follow-first bytes (tests.follow 0 tests.some) in
      record {
        thread0 = first.0;
        pc0 = first.1;
        next = λ k b. ⊎_elim (λ w. inl w) (λ w. inr (w.0, w.1)) (next k b);
      }

  pub few-records : records bytes ≤ 128
  few-records = most (thread_at bytes) (pc_at bytes) (records bytes) rows (λ k b. (fits k b).thread) (λ k b. (fits k b).pc)

  -- thread t's statement p is record start_of t + p
  pub found_at : (t p : ℕ) → p < count_of bytes t → (start_of bytes t + p < records bytes) × (thread_at bytes (start_of bytes t + p) ≡ t) × (pc_at bytes (start_of bytes t + p) ≡ p)
  unfolding count_of
  found_at t p h = rw (start_is bytes t) (found (thread_at bytes) (pc_at bytes) (records bytes) rows t p h)

  last_record : records bytes - 1 < records bytes
  last_record = omega (arith, tests.some)

  pub last-thread : thread_at bytes (records bytes - 1) < 4
  last-thread = (fits (records bytes - 1) last_record).thread

  some-thread : 1 ≤ threads_of bytes
  unfolding threads_of
  some-thread = omega arith

  pub four-threads : threads_of bytes ≤ 4
  unfolding threads_of
  four-threads = omega (arith, last-thread)

  some-statement : (t : ℕ) → t < threads_of bytes → 1 ≤ count_of bytes t
  unfolding threads_of count_of
  some-statement t h = reached (thread_at bytes) (pc_at bytes) (records bytes) rows (records bytes - 1) t last_record (omega arith)

  few-statements : (t : ℕ) → count_of bytes t ≤ 32
  unfolding count_of
  few-statements t = few (thread_at bytes) (pc_at bytes) (records bytes) rows 32 (λ k b. (fits k b).pc) t

  pub no-thread : (t : ℕ) → threads_of bytes ≤ t → count_of bytes t ≡ 0
  unfolding threads_of count_of
  no-thread t h = number-none (λ k. eqb (thread_at bytes k) t) (records bytes) (λ k b. ne_eqb (thread_at bytes k) t (omega (arith, rises (thread_at bytes) (pc_at bytes) (records bytes) rows k (records bytes - 1) (omega arith) last_record)))

  -- what the tests say of thread t's statement p
  found-fits : (t p : ℕ) → p < count_of bytes t → Fitting bytes (start_of bytes t + p)
  found-fits t p h = fits (start_of bytes t + p) (found_at t p h).0

  statement-is : (t p : ℕ) → p < count_of bytes t → (set_of bytes).statement t p ≡ statement_at bytes (start_of bytes t + p)
  statement-is t p h = chosen _ _ (lt-ltb p (count_of bytes t) h)

  goes-on-at : (k : ℕ) → k + 1 < records bytes → thread_at bytes (k + 1) ≡ thread_at bytes k → pc_at bytes k + 1 < count_of bytes (thread_at bytes k)
  unfolding count_of
  goes-on-at k b t = goes_on_lem (thread_at bytes) (pc_at bytes) (records bytes) rows k b t

  last-at : (t : ℕ) → t < threads_of bytes → is_last (number_at bytes (start_of bytes t + (count_of bytes t - 1))) ≡ true
  last-at t h = elim (ℕ_discrete (k + 1) (records bytes)) [
    | yes e ↦ let q : k ≡ records bytes - 1 = omega arith in rw q tests.last
    | no f ↦ ends (omega (arith, at.0))
  ]
    where
      k : ℕ
      k = start_of bytes t + (count_of bytes t - 1)

      at : (k < records bytes) × (thread_at bytes k ≡ t) × (pc_at bytes k ≡ count_of bytes t - 1)
      at = found_at t (count_of bytes t - 1) (omega (arith, some-statement t h))

      ends : k + 1 < records bytes → is_last (number_at bytes k) ≡ true
      ends b = ⊎_elim (λ w. absurd (omega (arith, goes-on-at k b w.0, at.2, ap (count_of bytes) at.1))) (λ w. w.2) (next k b)

  target_at_lem : (t p : ℕ) → p < count_of bytes t → is_jump (number_at bytes (start_of bytes t + p)) ≡ true → argument_at bytes (start_of bytes t + p) < count_of bytes t
  target_at_lem t p h j =
      let e = ap (count_of bytes) (found_at t p h).1 in
      omega (arith, e, jump-target bytes (start_of bytes t + p) (found-fits t p h).argument j (omega (arith, e)))

  pub well-formed : WellFormedSet (set_of bytes)
  well-formed = record {
    some_thread = some-thread;
    four_threads = four-threads;
    some_statement = some-statement;
    few_statements = λ t h. few-statements t;
    no_thread = no-thread;
    numbers = λ t p h. subst⁻¹ (λ (s : Statement). s.number < instructions) (statement-is t p h) (found-fits t p h).number;
    modes = λ t p h. subst⁻¹ (λ (s : Statement). s.mode ≤ cond (is_memory s.number) 1 0) (statement-is t p h) (found-fits t p h).mode;
    bare = λ t p h. subst⁻¹ (λ (s : Statement). is_bare s.number ≡ true → s.argument ≡ 0) (statement-is t p h) (bare-argument bytes (start_of bytes t + p) (found-fits t p h).argument);
    targets = λ t p h. subst⁻¹ (λ (s : Statement). is_jump s.number ≡ true → s.argument < count_of bytes t) (statement-is t p h) (target_at_lem t p h);
    lasts = λ t h. subst⁻¹ (λ (s : Statement). is_last s.number ≡ true) (statement-is t (count_of bytes t - 1) (omega (arith, some-statement t h))) (last-at t h);
  }

-- ---- the layout

pub refused_layout : (bytes : List ℕ) → set_accepted bytes ≡ false → (layout_of bytes).threads ≡ 0
unfolding layout_of
refused_layout bytes e = ap (λ (l : Layout). l.threads) (passed _ _ e)

-- what the layout of an accepted set holds
pub accepted-parts : (bytes : List ℕ) → set_accepted bytes ≡ true → layout_of bytes ≡ record {
  threads = threads_of bytes;
  starts = start_of bytes 0 ∷ start_of bytes 1 ∷ start_of bytes 2 ∷ start_of bytes 3 ∷ [];
  counts = counts_of bytes;
}
unfolding layout_of
accepted-parts bytes e = chosen _ _ e

pub accepted_layout : (bytes : List ℕ) → set_accepted bytes ≡ true → (1 ≤ (layout_of bytes).threads) × ((layout_of bytes).threads ≤ 4)
accepted_layout bytes e = let q = ap (λ (l : Layout). l.threads) (accepted-parts bytes e) in (omega (arith, q, some-thread bytes e), omega (arith, q, four-threads bytes e))

module _ (bytes : List ℕ) (ok : set_accepted bytes ≡ true) where
  -- an accepted set has no fifth thread
  no_fifth : (t : ℕ) → count_of bytes (suc (suc (suc (suc t)))) ≡ 0
  no_fifth t = no-thread bytes ok (suc (suc (suc (suc t)))) (omega (arith, four-threads bytes ok))

  counts_are : (t : ℕ) → get_or (counts_of bytes) t 0 ≡ count_of bytes t
  counts_are zero = refl
  counts_are (suc zero) = refl
  counts_are (suc (suc zero)) = refl
  counts_are (suc (suc (suc zero))) = refl
  counts_are (suc (suc (suc (suc t)))) = sym (no_fifth t)

  statements_are : (t p : ℕ) →
      cond (ltb p (get_or (counts_of bytes) t 0))
      (statement_at bytes (get_or (start_of bytes 0 ∷ start_of bytes 1 ∷ start_of bytes 2 ∷ start_of bytes 3 ∷ []) t 0 + p)) nothing
      ≡ cond (ltb p (count_of bytes t)) (statement_at bytes (start_of bytes t + p)) nothing
  statements_are zero p = refl
  statements_are (suc zero) p = refl
  statements_are (suc (suc zero)) p = refl
  statements_are (suc (suc (suc zero))) p = refl
  statements_are (suc (suc (suc (suc t)))) p = passed _ _ (le-ltb p 0 (omega arith)) ∙ sym (passed _ _ (le-ltb p (count_of bytes (suc (suc (suc (suc t))))) (omega (arith, no_fifth t))))

  -- the set by bytes and layout is the set in the bytes
  pub set_is : set_by bytes (layout_of bytes) ≡ set_of bytes
  set_is = rw (accepted-parts bytes ok)
      (ap₂ (λ (c : ℕ → ℕ) (s : ℕ → ℕ → Statement). record { threads = threads_of bytes; count = c; statement = s }) (fun_ext counts_are) (fun_ext (λ t. fun_ext (statements_are t))))
