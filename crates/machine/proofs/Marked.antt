-- In a run a marked thread stands right after a CHECK of its checkpoint. Assumes nothing.
use Rattle.std.specs.Prelude.{Option, Some, is_some}
use Prim.Native.Nat.{ℕ, suc}
use mathlib.Core.Path.{◌≡◌, refl, ap, sym, subst, subst⁻¹, ◌∙◌}
use mathlib.Core.Bool.{Bool, true, false, cond, not, ◌&&◌, ◌||◌}
use mathlib.Core.List.{List, [], ◌∷◌}
use lib.Dec.{eqb, ltb}
use borrow.Author.Tests.{eqb-true, eq-eqb}
use Rattle.base.proofs.Choice.{and_true, and_left, and_right, clash}
use Rattle.records.specs.Instructions.{CHECK, HALT, EXIT, instructions}
use Rattle.records.specs.Sets.{Set}
use Rattle.records.specs.declared.Statement.{Statement}
use Rattle.machine.specs.Machine.{State, start, unmarked, current, actor, is_check, opened, waiting, permitted, leaves_mark, cleared, acted, executed, next_pc, jumps, threads_after, step, checkpoint_of}
use Rattle.machine.specs.Runs.{is_run, after}
use Rattle.machine.specs.declared.Choice.{Choice}
use Rattle.machine.specs.declared.Choice.TheVariants.{Execute, Flush}
use Rattle.machine.specs.declared.Thread.{Thread}
use Rattle.machine.proofs.Marks.{runs_free}
use Rattle.machine.proofs.Runs.{run-first, run-rest}

-- thread t stands right after a CHECK c
abbrev After : Set → Thread → (t c : ℕ) → Type 0
After S x t c = (p : ℕ) × (x.pc ≡ suc p) × (is_check S t c p ≡ true)

-- a marked thread stands right after a CHECK of its checkpoint
abbrev pub StandsAfter : Set → State → Type 0
StandsAfter S s = (t : ℕ) → (is_some (s.marks t)) ≡ true → After S (s.threads t) t (checkpoint_of (s.marks t))

check-goes-on : (i : Statement) (x : Thread) → i.number ≡ CHECK → next_pc i x ≡ suc x.pc
unfolding next_pc jumps
check-goes-on i x e =
    ap (λ (n : ℕ). cond (eqb n HALT || eqb n EXIT || not (ltb n instructions)) x.pc (cond (jumps n x.accu) i.argument (suc x.pc))) e

module _ (S : Set) (s : State) (t : ℕ) where
  abbrev own : Option ℕ
  own = s.marks t

  -- a mark that is not cleared is as it was, and its thread waits
  uncleared : (is_some (cleared S s.marks t)) ≡ true → (cleared S s.marks t ≡ own) × (waiting S s.marks t ≡ true)
  unfolding cleared waiting
  uncleared = go ((is_some own) && opened S s.marks (checkpoint_of own)) refl
    where
      shut : (on opens : Bool) → (on && opens) ≡ false → on ≡ true → (on && not opens) ≡ true
      shut true true p q = sym p
      shut true false p q = refl
      shut false opens p q = q

      go : (b : Bool) → ((is_some own) && opened S s.marks (checkpoint_of own)) ≡ b → (is_some (cond b unmarked own)) ≡ true →
          (cond b unmarked own ≡ own) × (((is_some own) && not (opened S s.marks (checkpoint_of own))) ≡ true)
      go true q e = clash e refl
      go false q e = (refl, shut (is_some own) (opened S s.marks (checkpoint_of own)) q e)

  -- a thread that waits stays where it stands
  pc-stays : waiting S s.marks t ≡ true → (c : Choice) → permitted S s c ≡ true → (b : Bool) → eqb t (actor c) ≡ b →
      (cond b (acted S s c) (s.threads t)).pc ≡ (s.threads t).pc
  unfolding acted
  pc-stays waits (Execute u) may true e = clash waits (ap (waiting S s.marks) (eqb-true t u e) ∙ runs_free S s u may)
  pc-stays waits (Flush u) may true e = ap (λ (v : ℕ). (s.threads v).pc) (sym (eqb-true t u e))
  pc-stays waits (Execute u) may false e = refl
  pc-stays waits (Flush u) may false e = refl

  -- a CHECK's thread then stands after it
  check-stands : (c : Choice) → leaves_mark S s c ≡ true → t ≡ actor c → After S (acted S s c) t (current S s (actor c)).argument
  unfolding leaves_mark acted executed
  check-stands (Execute u) l e =
      let i = current S s u in (
        (s.threads u).pc,
        check-goes-on i (s.threads u) (eqb-true i.number CHECK l),
        subst (λ (v : ℕ). is_check S v i.argument (s.threads u).pc ≡ true) (sym e) (and_true l (eq-eqb i.argument i.argument refl)),
      )
  check-stands (Flush u) l e = clash l refl

  stands-step : StandsAfter S s → (c : Choice) → permitted S s c ≡ true → (is_some ((step S s c).marks t)) ≡ true → After S ((step S s c).threads t) t (checkpoint_of ((step S s c).marks t))
  unfolding step
  stands-step stands c may = go (leaves_mark S s c && eqb t (actor c)) refl
    where
      left : Option ℕ
      left = Some ((current S s (actor c)).argument)

      go : (b : Bool) → (leaves_mark S s c && eqb t (actor c)) ≡ b → (is_some (cond b left (cleared S s.marks t))) ≡ true →
          After S (threads_after S s c t) t (checkpoint_of (cond b left (cleared S s.marks t)))
      go true e on =
          let here = and_right (leaves_mark S s c) (eqb t (actor c)) e in
          subst⁻¹ (λ (b : Bool). After S (cond b (acted S s c) (s.threads t)) t (checkpoint_of left)) here
          (check-stands c (and_left (leaves_mark S s c) (eqb t (actor c)) e) (eqb-true t (actor c) here))
      go false e on =
          let r = uncleared on in
          let was = stands t (sym (ap (λ (m : Option ℕ). (is_some m)) r.0) ∙ on) in (
            was.0,
            pc-stays r.1 c may (eqb t (actor c)) refl ∙ was.1,
            subst⁻¹ (λ (m : Option ℕ). is_check S t (checkpoint_of m) was.0 ≡ true) r.0 was.2,
          )

pub stands-run : (S : Set) (memory : ℕ → ℕ) (run : List Choice) → is_run S (start memory) run ≡ true → StandsAfter S (after S (start memory) run)
unfolding after
stands-run S memory run = go (start memory) run (λ t e. clash e refl)
  where
    go : (s : State) (run : List Choice) → StandsAfter S s → is_run S s run ≡ true → StandsAfter S (after S s run)
    go s [] stands e = stands
    go s (c ∷ run) stands e =
        go (step S s c) run (λ t. stands-step S s t stands c (and_right (not s.ended) (permitted S s c) (run-first S s c run e))) (run-rest S s c run e)
