-- Marks stand at checkpoints that their threads contain, so that the listed checkpoints say which threads wait. Assumes nothing.
use Rattle.std.specs.Prelude.{Option, Some, is_some}
use Prim.Native.Nat.{ℕ, ◌≤◌, ◌<◌}
use mathlib.Core.Path.{◌≡◌, refl, ap, sym, subst, ◌∙◌}
use mathlib.Core.Bool.{Bool, true, false, cond, not, ◌&&◌}
use mathlib.Core.List.{List}
use native.Mathlib.Omega.{arith}
use native.Mathlib.Decide.{dec_lt}
use lib.Dec.{eqb}
use lib.ListN.{get_or, length}
use borrow.Author.Tests.{eqb-true, eq-eqb}
use Rattle.base.specs.Below.{some}
use Rattle.base.proofs.Below.{some_at}
use Rattle.base.proofs.Choice.{and_true, and_left, and_right, clash}
use Rattle.records.specs.Instructions.{CHECK}
use Rattle.records.specs.Sets.{Set, nothing}
use Rattle.records.specs.declared.Statement.{Statement}
use Rattle.machine.specs.Machine.{State, start, unmarked, is_check, contains, marked_at, opened, waiting, current, actor, leaves_mark, cleared, step, checkpoint_of}
use Rattle.machine.specs.declared.Choice.{Choice}
use Rattle.machine.specs.declared.Choice.TheVariants.{Execute, Flush}
use Rattle.encoding.proofs.Shown.{Complete, Sound}
use Rattle.encoding.proofs.Tests.{same_tests, some-passes}

pub sound-start : (S : Set) (memory : ℕ → ℕ) → Sound S (start memory)
sound-start S memory t e = clash e refl

-- ---- a step

-- behind its statements a thread has none
abbrev pub Beyond : Set → Type 0
Beyond S = (t p : ℕ) → S.count t ≤ p → S.statement t p ≡ nothing

module _ (S : Set) (beyond : Beyond S) (s : State) where
  check-inside : (t : ℕ) → eqb (current S s t).number CHECK ≡ true → (s.threads t).pc < S.count t
  check-inside t e = elim (dec_lt (s.threads t).pc (S.count t)) [
    | yes h ↦ h
    | no f ↦ clash e (ap (λ (i : Statement). eqb i.number CHECK) (beyond t (s.threads t).pc (omega arith)))
  ]

  left_mark : (c : Choice) → leaves_mark S s c ≡ true → contains S (actor c) (current S s (actor c)).argument ≡ true
  unfolding leaves_mark contains
  left_mark (Execute t) e =
      some_at (is_check S t (current S s t).argument) (S.count t) (s.threads t).pc (check-inside t e)
      (and_true e (eq-eqb (current S s t).argument (current S s t).argument refl))
  left_mark (Flush t) e = clash e refl

  pub sound-step : Sound S s → (c : Choice) → Sound S (step S s c)
  unfolding step cleared
  sound-step sound c u = go (leaves_mark S s c && eqb u (actor c)) refl
    where
      kept : (b : Bool) → (is_some (cond b unmarked (s.marks u))) ≡ true → contains S u (checkpoint_of (cond b unmarked (s.marks u))) ≡ true
      kept true e = clash e refl
      kept false e = sound u e

      left : Option ℕ
      left = Some ((current S s (actor c)).argument)

      go : (b : Bool) → (leaves_mark S s c && eqb u (actor c)) ≡ b →
          is_some (cond b left (cleared S s.marks u)) ≡ true → contains S u (checkpoint_of (cond b left (cleared S s.marks u))) ≡ true
      go true q e = ap (λ (t : ℕ). contains S t (current S s (actor c)).argument) (eqb-true u (actor c) (and_right (leaves_mark S s c) _ q))
          ∙ left_mark c (and_left (leaves_mark S s c) _ q)
      go false q e = kept ((is_some (s.marks u)) && opened S s.marks (checkpoint_of (s.marks u))) e

-- ---- waiting

-- a thread is held by checkpoint p: it contains it, is marked there, and it is not open
abbrev pub held_at : Set → List ℕ → (ℕ → Option ℕ) → ℕ → ℕ → Bool
held_at S cs marks t p = contains S t (get_or cs p 0) && (marked_at (marks t) (get_or cs p 0) && not (opened S marks (get_or cs p 0)))

pub waiting-is : (S : Set) (cs : List ℕ) (s : State) → Complete S cs → Sound S s → (t : ℕ) → t < S.threads →
    waiting S s.marks t ≡ some (length cs) (held_at S cs s.marks t)
unfolding waiting
waiting-is S cs s complete sound t h = same_tests _ _ out back
  where
    on : Bool
    on = (is_some (s.marks t))

    at : ℕ
    at = (checkpoint_of (s.marks t))

    out : (on && not (opened S s.marks at)) ≡ true → some (length cs) (held_at S cs s.marks t) ≡ true
    out e =
        let marked = and_left on (not (opened S s.marks at)) e in
        let has = sound t marked in
        let p = complete t at h has in
        some_at (held_at S cs s.marks t) (length cs) p.0 p.1.0
        (subst (λ (c : ℕ). (contains S t c && (marked_at (s.marks t) c && not (opened S s.marks c))) ≡ true) (sym p.1.1)
        (and_true has (and_true (and_true marked (eq-eqb at at refl)) (and_right on _ e))))

    back : some (length cs) (held_at S cs s.marks t) ≡ true → (on && not (opened S s.marks at)) ≡ true
    back e =
        let r = some-passes (held_at S cs s.marks t) (length cs) e in
        let c = get_or cs r.0 0 in
        let both = and_right (contains S t c) _ r.1.1 in
        let marked = and_left (marked_at (s.marks t) c) _ both in
        and_true (and_left on (eqb at c) marked)
        (ap (λ (d : ℕ). not (opened S s.marks d)) (eqb-true at c (and_right on _ marked)) ∙ and_right (marked_at (s.marks t) c) _ both)
