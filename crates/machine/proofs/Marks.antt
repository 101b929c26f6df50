-- The marks after a step, one thread and checkpoint at a time: a CHECK sets its own, a mark at a checkpoint that is not open stays, and there is
-- no other; so a checkpoint opens in the step that sets its last mark. Assumes nothing.
use Rattle.std.specs.Prelude.{Option, Some, is_some}
use Prim.Native.Nat.{ℕ, ◌<◌}
use mathlib.Core.Path.{◌≡◌, refl, ap, ap₂, sym, subst, ◌∙◌}
use mathlib.Core.Bool.{Bool, true, false, cond, not, ◌&&◌, ◌||◌}
use lib.Dec.{eqb, ltb}
use borrow.Author.Tests.{eqb-true, eq-eqb, not-true}
use Rattle.base.proofs.Below.{every-at, every-all}
use Rattle.base.proofs.Choice.{chosen, passed, and_true, and_false, and_left, and_right, and_right_false, or_no, clash}
use Rattle.records.specs.Instructions.{CHECK}
use Rattle.records.specs.Sets.{Set}
use Rattle.records.specs.declared.Statement.{Statement}
use Rattle.machine.specs.Machine.{State, unmarked, is_empty, needs_empty, current, actor, is_check, contains, marked_at, opened, waiting, permitted, leaves_mark, cleared, marks_after, checkpoint_of}
use Rattle.machine.specs.declared.Choice.{Choice}
use Rattle.machine.specs.declared.Choice.TheVariants.{Execute, Flush}

-- a thread that may execute does not wait
pub runs_free : (S : Set) (s : State) (t : ℕ) → permitted S s (Execute t) ≡ true → waiting S s.marks t ≡ false
unfolding permitted
runs_free S s t h =
    let there = ltb t S.threads && not (s.threads t).halted in
    let goes = not (waiting S s.marks t) in
    not-true (waiting S s.marks t) (and_right there goes (and_left (there && goes) (not (needs_empty (current S s t).number) || is_empty (s.threads t)) h))

module _ (S : Set) (s : State) where
  -- thread t is marked at checkpoint p, which is not open
  abbrev pub keeps : (t p : ℕ) → Bool
  keeps t p = marked_at (s.marks t) p && not (opened S s.marks p)

  -- thread t executes CHECK p
  abbrev pub checks : Choice → (t p : ℕ) → Bool
  checks (Execute u) t p = eqb t u && is_check S t p (s.threads t).pc
  checks (Flush u) t p = false

  module _ (t p : ℕ) where
    abbrev own : Option ℕ
    own = s.marks t

    abbrev is_open : Bool
    is_open = opened S s.marks p

    -- clearing leaves the marks at checkpoints that are not open
    pub cleared_at : marked_at (cleared S s.marks t) p ≡ keeps t p
    unfolding cleared
    cleared_at = go (marked_at own p) refl
      where
        into : (b : Bool) → marked_at own p ≡ false → marked_at (cond b unmarked own) p ≡ false
        into true e = refl
        into false e = e

        kept : (b : Bool) → marked_at own p ≡ true → marked_at (cond b unmarked own) p ≡ not b
        kept true e = refl
        kept false e = e

        go : (b : Bool) → marked_at own p ≡ b → marked_at (cond ((is_some own) && opened S s.marks (checkpoint_of own)) unmarked own) p ≡ (b && not is_open)
        go true e =
            let on = and_left (is_some own) (eqb (checkpoint_of own) p) e in
            let here = eqb-true (checkpoint_of own) p (and_right (is_some own) (eqb (checkpoint_of own) p) e) in
            (λ z. marked_at (cond (on z && opened S s.marks (here z)) unmarked own) p) ∙ kept is_open e
        go false e = into ((is_some own) && opened S s.marks (checkpoint_of own)) e

    -- a thread that does not wait keeps none
    keeps-none : waiting S s.marks t ≡ false → keeps t p ≡ false
    unfolding waiting
    keeps-none free = go (marked_at own p) refl
      where
        go : (b : Bool) → marked_at own p ≡ b → (b && not is_open) ≡ false
        go true e =
            let on = and_left (is_some own) (eqb (checkpoint_of own) p) e in
            let here = eqb-true (checkpoint_of own) p (and_right (is_some own) (eqb (checkpoint_of own) p) e) in
            sym (λ z. on z && not (opened S s.marks (here z))) ∙ free
        go false e = refl

    abbrev i : Statement
    i = current S s t

    -- a CHECK leaves its mark, whatever was open
    leaves : leaves_mark S s (Execute t) ≡ eqb i.number CHECK
    unfolding leaves_mark
    leaves = refl

    own-set : leaves_mark S s (Execute t) ≡ true → marks_after S s (Execute t) t ≡ Some i.argument
    own-set e = chosen _ _ (and_true e (eq-eqb t t refl))

    -- every other mark is cleared where its checkpoint is open
    not_set : (c : Choice) → (leaves_mark S s c && eqb t (actor c)) ≡ false → marks_after S s c t ≡ cleared S s.marks t
    not_set c e = passed _ _ e

    stays : (c : Choice) → (leaves_mark S s c && eqb t (actor c)) ≡ false → checks c t p ≡ false → marked_at (marks_after S s c t) p ≡ (keeps t p || checks c t p)
    stays c e none = ap (λ (m : Option ℕ). marked_at m p) (not_set c e) ∙ cleared_at ∙ sym (ap (λ (b : Bool). keeps t p || b) none ∙ or_no (keeps t p))

    own-after : permitted S s (Execute t) ≡ true → marked_at (marks_after S s (Execute t) t) p ≡ (keeps t p || checks (Execute t) t p)
    own-after may = go (eqb i.number CHECK) refl
      where
        checked : (n : Bool) → eqb i.number CHECK ≡ n → checks (Execute t) t p ≡ (n && eqb i.argument p)
        checked n e = ap₂ (λ (a b : Bool). a && (b && eqb i.argument p)) (eq-eqb t t refl) e

        go : (n : Bool) → eqb i.number CHECK ≡ n → marked_at (marks_after S s (Execute t) t) p ≡ (keeps t p || checks (Execute t) t p)
        go true e =
            ap (λ (m : Option ℕ). marked_at m p) (own-set (leaves ∙ e))
            ∙ sym (ap₂ (λ (a b : Bool). a || b) (keeps-none (runs_free S s t may)) (checked true e))
        go false e = stays (Execute t) (and_false (eqb t t) (leaves ∙ e)) (checked false e)

    pub marks-after : (c : Choice) → permitted S s c ≡ true → marked_at (marks_after S s c t) p ≡ (keeps t p || checks c t p)
    unfolding leaves_mark
    marks-after (Flush u) may = stays (Flush u) refl refl
    marks-after (Execute u) may = go (eqb t u) refl
      where
        go : (b : Bool) → eqb t u ≡ b → marked_at (marks_after S s (Execute u) t) p ≡ (keeps t p || checks (Execute u) t p)
        go true e =
            subst (λ (v : ℕ). permitted S s (Execute v) ≡ true → marked_at (marks_after S s (Execute v) t) p ≡ (keeps t p || checks (Execute v) t p)) (eqb-true t u e) own-after may
        go false e = stays (Execute u) (and_right_false (leaves_mark S s (Execute u)) e) (and_false (is_check S t p (s.threads t).pc) e)

  -- ---- opening

  -- a checkpoint that a thread contains is open after a step, permitted or not, only where the step set a mark there
  pub opens_by : (c : Choice) (t p : ℕ) → t < S.threads → contains S t p ≡ true → opened S (marks_after S s c) p ≡ true →
      (leaves_mark S s c && eqb (current S s (actor c)).argument p) ≡ true
  unfolding opened
  opens_by c t p l has is_open = go (leaves_mark S s c && eqb (current S s (actor c)).argument p) refl
    where
      sets : Bool
      sets = leaves_mark S s c && eqb (current S s (actor c)).argument p

      stayed : sets ≡ false → (u : ℕ) → marked_at (marks_after S s c u) p ≡ true → keeps u p ≡ true
      stayed none u = from (leaves_mark S s c && eqb u (actor c)) refl
        where
          from : (b : Bool) → (leaves_mark S s c && eqb u (actor c)) ≡ b →
              marked_at (cond b (Some (current S s (actor c)).argument) (cleared S s.marks u)) p ≡ true → keeps u p ≡ true
          from true e m = clash (and_true (and_left (leaves_mark S s c) (eqb u (actor c)) e) m) none
          from false e m = sym (cleared_at u p) ∙ m

      marked : (u : ℕ) → u < S.threads → contains S u p ≡ true → marked_at (marks_after S s c u) p ≡ true
      marked u h e = subst (λ (b : Bool). (not b || marked_at (marks_after S s c u) p) ≡ true) e (every-at (λ v. not (contains S v p) || marked_at (marks_after S s c v) p) S.threads u is_open h)

      was : sets ≡ false → (u : ℕ) → u < S.threads → (b : Bool) → contains S u p ≡ b → (not b || marked_at (s.marks u) p) ≡ true
      was none u h true e = and_left (marked_at (s.marks u) p) (not (opened S s.marks p)) (stayed none u (marked u h e))
      was none u h false e = refl

      go : (b : Bool) → sets ≡ b → b ≡ true
      go true e = refl
      go false e = clash
          (every-all (λ u. not (contains S u p) || marked_at (s.marks u) p) S.threads (λ u h. was e u h (contains S u p) refl))
          (not-true (opened S s.marks p) (and_right (marked_at (s.marks t) p) (not (opened S s.marks p)) (stayed e t (marked t l has))))
