-- The thread that acts and the statement that executes: the next thread, and the links of a chain over a thread's statements. Assumes nothing.
use Prim.Native.Nat.{ℕ, zero, suc, ◌≤◌, ◌<◌}
use mathlib.Core.Path.{◌≡◌, refl, ap, sym, ◌∙◌}
use mathlib.Core.Bool.{Bool, true, false, cond, ◌&&◌}
use mathlib.Core.List.{List}
use native.Mathlib.Omega.{arith}
use native.Mathlib.Decide.{ℕ_discrete, dec_lt}
use borrow.Author.Tests.{lt-ltb, le-ltb, ltb-true, eqb-true, eq-eqb, ne_eqb}
use lib.Dec.{eqb, ltb}
use Rattle.base.proofs.Choice.{eqb_swap, and_true, and_left, and_right_false, and_yes, passed}
use Rattle.records.specs.Sets.{Set, nothing}
use Rattle.records.specs.declared.Statement.{Statement}
use Rattle.machine.specs.Machine.{State, current, executed, flushed, permitted, actor, acted, threads_after}
use Rattle.machine.specs.declared.Choice.{Choice}
use Rattle.machine.specs.declared.Choice.TheVariants.{Execute, Flush}
use Rattle.machine.specs.declared.Thread.{Thread}
use Rattle.table.specs.Values.{Assignment, Value, bit, as_bit}
use Rattle.encoding.specs.Assignments.{named}
use Rattle.encoding.specs.Slots.{active, Slot, slot}
use Rattle.encoding.specs.Steps.{skip, if_then, if_active}
use Rattle.encoding.proofs.Blocks.{link_value, links_value, quiet_if, quiet-cond, links-at}
use Rattle.encoding.proofs.Stages.{Given, stage}

-- ---- choices

abbrev pub executing : Choice → Bool
executing (Execute t) = true
executing (Flush t) = false

abbrev pub flushing : Choice → Bool
flushing (Execute t) = false
flushing (Flush t) = true

executes-named : (c : Choice) (u : ℕ) → named c 0 u ≡ (eqb (actor c) u && executing c)
executes-named (Execute t) u = eqb_swap u t ∙ sym (and_yes (eqb t u))
executes-named (Flush t) u = sym (and_right_false (eqb t u) refl)

flushes-named : (c : Choice) (u : ℕ) → named c 1 u ≡ (eqb (actor c) u && flushing c)
flushes-named (Execute t) u = sym (and_right_false (eqb t u) refl)
flushes-named (Flush t) u = eqb_swap u t ∙ sym (and_yes (eqb t u))

-- values one after the other, of which at most the one after p changes
pub scan-one : (value : ℕ → Value) (changes : ℕ → Bool) (effect : ℕ → Value) (p : ℕ) (on : Bool) (n : ℕ)
    → ((u : ℕ) → u < n → value (suc u) ≡ cond (changes u) (effect u) (value u)) → ((u : ℕ) → u < n → changes u ≡ (eqb p u && on))
    → value n ≡ cond (ltb p n && on) (effect p) (value 0)
scan-one value changes effect p on zero f h = sym (ap (λ b. cond (b && on) (effect p) (value 0)) (le-ltb p 0 (omega arith)))
scan-one value changes effect p on (suc n) f h =
    f n (omega arith)
    ∙ ((λ z. cond (h n (omega arith) z) (effect n) (scan-one value changes effect p on n (λ u l. f u (omega arith)) (λ u l. h u (omega arith)) z))
    ∙ elim (ℕ_discrete p n) [
      | yes e ↦
          let last : ltb p (suc n) ≡ true = lt-ltb p (suc n) (omega arith) in
          let far : ltb p n ≡ false = le-ltb p n (omega arith) in
          (λ z. cond (eq-eqb p n e z && on) (effect (sym e z)) (cond (far z && on) (effect p) (value 0))) ∙ sym (ap (λ b. cond (b && on) (effect p) (value 0)) last)
      | no e ↦
          (λ z. cond (ne_eqb p n e z && on) (effect n) (cond (ltb p n && on) (effect p) (value 0)))
          ∙ ap (λ b. cond (b && on) (effect p) (value 0)) (below e)
    ])
  where
    below : (p ≡ n → ⊥) → ltb p n ≡ ltb p (suc n)
    below l = elim (dec_lt p n) [
      | yes q ↦ lt-ltb p n q ∙ sym (lt-ltb p (suc n) (omega arith))
      | no q ↦ le-ltb p n (omega arith) ∙ sym (le-ltb p (suc n) (omega arith))
    ]

module _ (S : Set) (cs : List ℕ) (g : Assignment) (k : ℕ) (slots : Slot → Value) (s : State) (c : Choice) (given : Given S cs g k slots s c) where
  abbrev at : ℕ → Slot → Value
  at = stage S cs g k slots

  -- the thread that acts is there
  pub actor-below : actor c < S.threads
  unfolding permitted
  actor-below = go c given.is_permitted
    where
      go : (c : Choice) → permitted S s c ≡ true → actor c < S.threads
      go (Execute t) h = ltb-true t S.threads (and_left _ _ (and_left _ _ (and_left _ _ h)))
      go (Flush t) h = ltb-true t S.threads (and_left _ _ h)

  pub executes-is : (t : ℕ) → t < S.threads → g.choice k 0 t ≡ (eqb (actor c) t && executing c)
  executes-is t ht = given.bits 0 t (omega arith) ht ∙ executes-named c t

  pub flushes-is : (t : ℕ) → t < S.threads → g.choice k 1 t ≡ (eqb (actor c) t && flushing c)
  flushes-is t ht = given.bits 1 t (omega arith) ht ∙ flushes-named c t

  -- one thread does not both execute and flush
  pub apart : (t : ℕ) → t < S.threads → (g.choice k 0 t && g.choice k 1 t) ≡ false
  apart t ht = (λ z. given.bits 0 t (omega arith) ht z && given.bits 1 t (omega arith) ht z) ∙ go c
    where
      go : (c : Choice) → (named c 0 t && named c 1 t) ≡ false
      go (Execute u) = and_right_false (eqb t u) refl
      go (Flush u) = refl

  module _ (t : ℕ) (ht : t < S.threads) where
    abbrev x : Thread
    x = s.threads t

    abbrev i : Statement
    i = current S s t

    -- it executes, it flushes
    abbrev e : Bool
    e = g.choice k 0 t

    abbrev f : Bool
    f = g.choice k 1 t

    abbrev pub next_thread : Thread
    next_thread = cond e (executed i s.memory x) (cond f (flushed x) x)

    -- that is the machine's
    pub thread-after : next_thread ≡ threads_after S s c t
    unfolding acted
    thread-after = (λ z. cond (given.bits 0 t (omega arith) ht z) (executed i s.memory x) (cond (given.bits 1 t (omega arith) ht z) (flushed x) x)) ∙ go c
      where
        executes : (u : ℕ) (b : Bool) → eqb t u ≡ b → cond b (executed i s.memory x) x ≡ cond b (executed (current S s u) s.memory (s.threads u)) x
        executes u true p = ap (λ v. executed (current S s v) s.memory (s.threads v)) (eqb-true t u p)
        executes u false p = refl

        flushes : (u : ℕ) (b : Bool) → eqb t u ≡ b → cond b (flushed x) x ≡ cond b (flushed (s.threads u)) x
        flushes u true p = ap (λ v. flushed (s.threads v)) (eqb-true t u p)
        flushes u false p = refl

        go : (c : Choice) → cond (named c 0 t) (executed i s.memory x) (cond (named c 1 t) (flushed x) x) ≡ threads_after S s c t
        go (Execute u) = executes u (eqb t u) refl
        go (Flush u) = flushes u (eqb t u) refl

    -- past its last statement there is none
    pub past : S.count t ≤ x.pc → i ≡ nothing
    past h = given.beyond t x.pc h

    pub number_fits : i.number ≤ 20
    number_fits = elim (dec_lt x.pc (S.count t)) [
      | yes h ↦ let l = given.well_formed.numbers t x.pc h in omega arith
      | no h ↦ let l : i.number ≡ 20 = ap (λ (j : Statement). j.number) (past (omega arith)) in omega arith
    ]

    -- values that show which statement of the thread executes
    abbrev pub ShowsActive : (Slot → Value) → Type 0
    ShowsActive v = (j : ℕ) → j < S.count t → v (slot active t j) ≡ bit (eqb x.pc j && e)

    pub active_at : (n : ℕ) → ((j : ℕ) → at n (slot active t j) ≡ slots (slot active t j)) → ShowsActive (at n)
    active_at n h j l = h j ∙ given.ready.active_is t j ht l

    -- the links of statements that count: the effect of the one that executes
    pub active_links : (v : Slot → Value) → ShowsActive v → (counts : ℕ → Bool) (sort : ℕ) (effect : ℕ → Slot) (A B : Value)
        → (x.pc < S.count t → v (effect x.pc) ≡ A) → (S.count t ≤ x.pc → counts x.pc ≡ false)
        → links_value v (λ j. if_active S cs k (counts j) sort t j (effect j)) (S.count t) B ≡ cond e (cond (counts x.pc) A B) B
    active_links v shown counts sort effect A B inside outside =
        links-at v (λ j. if_active S cs k (counts j) sort t j (effect j)) (S.count t) x.pc e B
        (λ j l h. quiet-cond v (counts j) (if_then sort (slot active t j) (effect j)) skip (quiet_if v sort (slot active t j) (effect j) (ap as_bit (shown j l) ∙ h)) (λ w. refl))
        ∙ go e refl
      where
        here : (b : Bool) → x.pc < S.count t → e ≡ true → link_value v (cond b (if_then sort (slot active t x.pc) (effect x.pc)) skip) B ≡ cond b A B
        here true l h = λ z. cond (as_bit ((shown x.pc l ∙ ap bit (and_true (eq-eqb x.pc x.pc refl) h)) z)) (inside l z) B
        here false l h = refl

        go : (b : Bool) → e ≡ b
            → cond (ltb x.pc (S.count t) && b) (link_value v (if_active S cs k (counts x.pc) sort t x.pc (effect x.pc)) B) B ≡ cond b (cond (counts x.pc) A B) B
        go false h = passed _ _ (and_right_false (ltb x.pc (S.count t)) refl)
        go true h = elim (dec_lt x.pc (S.count t)) [
          | yes l ↦ ap (λ b. cond (b && true) (link_value v (if_active S cs k (counts x.pc) sort t x.pc (effect x.pc)) B) B) (lt-ltb x.pc (S.count t) l) ∙ here (counts x.pc) l h
          | no l ↦ ap (λ b. cond (b && true) (link_value v (if_active S cs k (counts x.pc) sort t x.pc (effect x.pc)) B) B) (le-ltb x.pc (S.count t) (omega arith))
              ∙ sym (passed A B (outside (omega arith)))
        ]

    -- no instruction number counts past the last statement
    pub uncounted : (counts : ℕ → Bool) → counts 20 ≡ false → S.count t ≤ x.pc → counts i.number ≡ false
    uncounted counts h l = ap (λ (j : Statement). counts j.number) (past l) ∙ h
