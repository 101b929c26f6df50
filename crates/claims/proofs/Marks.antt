-- Marks and checkpoints as document 002 has them (specs/Marks.antt states it), from the machine's laws of marks. Assumes nothing.
use Rattle.std.specs.Prelude.{is_some}
use Prim.Native.Nat.{ℕ, suc, ◌<◌}
use mathlib.Core.Path.{◌≡◌, refl, ap, sym, subst, ◌∙◌}
use mathlib.Core.Bool.{Bool, true, false, cond, not, ◌&&◌, ◌||◌}
use mathlib.Core.List.{List, [], ◌∷◌}
use native.Mathlib.Omega.{arith}
use native.Mathlib.Decide.{dec_lt}
use lib.Dec.{eqb}
use borrow.Author.Tests.{eqb-true, le-ltb}
use Rattle.base.proofs.Below.{every-at, some_at}
use Rattle.base.proofs.Choice.{passed, and_left, and_right, clash}
use Rattle.records.specs.Instructions.{CHECK}
use Rattle.records.specs.Sets.{Set, set_of}
use Rattle.records.specs.declared.Statement.{Statement}
use Rattle.machine.specs.Machine.{State, start, unmarked, current, actor, is_check, contains, marked_at, opened, permitted, leaves_mark, step, checkpoint_of}
use Rattle.machine.specs.Runs.{after}
use Rattle.machine.specs.declared.Choice.{Choice}
use Rattle.machine.specs.declared.Choice.TheVariants.{Execute, Flush}
use Rattle.machine.proofs.Marked.{StandsAfter, stands-run}
use Rattle.machine.proofs.Marks.{marks-after, opens_by, checks}
use Rattle.machine.proofs.Runs.{permitted-actor}
use Rattle.claims.specs.Marks.{block, check, executes_check, Contained, reached, MarksAsTable5}

executes-checks : (S : Set) (s : State) (c : Choice) (id t : ℕ) → checks S s c t id ≡ executes_check S s c id t
executes-checks S s (Execute u) id t = refl
executes-checks S s (Flush u) id t = refl

-- a mark that stays or is set, as the table has it
by-table : (marked opens executes : Bool) → (marked && not opens || executes) ≡ cond executes true (cond opens false marked)
by-table true true true = refl
by-table true true false = refl
by-table true false true = refl
by-table true false false = refl
by-table false true true = refl
by-table false true false = refl
by-table false false true = refl
by-table false false false = refl

flags : (S : Set) (s : State) (c : Choice) → permitted S s c ≡ true → (id t : ℕ) →
    block (step S s c) id t ≡ cond (executes_check S s c id t) true (cond (check S s id) false (block s id t))
unfolding step opened
flags S s c may id t =
    marks-after S s t id c may
    ∙ by-table (block s id t) (check S s id) (checks S s c t id)
    ∙ ap (λ (b : Bool). cond b true (cond (check S s id) false (block s id t))) (executes-checks S s c id t)

-- where the checkpoint is open, the thread that executes its CHECK is marked, and no other is
counted : (S : Set) (s : State) (t id : ℕ) → permitted S s (Execute t) ≡ true → executes_check S s (Execute t) id t ≡ true → check S s id ≡ true →
    (u : ℕ) → block (step S s (Execute t)) id u ≡ eqb u t
counted S s t id may is opens u =
    flags S s (Execute t) may id u
    ∙ ap (λ (b : Bool). cond (executes_check S s (Execute t) id u) true (cond b false (block s id u))) opens
    ∙ go (eqb u t) refl
  where
    go : (b : Bool) → eqb u t ≡ b → cond (executes_check S s (Execute t) id u) true false ≡ b
    go true e = ap (λ (b : Bool). cond b true false) (ap (λ (v : ℕ). executes_check S s (Execute t) id v) (eqb-true u t e) ∙ is)
    go false e = ap (λ (b : Bool). cond (b && is_check S u id (s.threads u).pc) true false) e

one_mark_lem : (s : State) (t id other : ℕ) → block s id t ≡ true → block s other t ≡ true → id ≡ other
one_mark_lem s t id other p q =
    sym (eqb-true (checkpoint_of (s.marks t)) id (and_right (is_some (s.marks t)) _ p))
    ∙ eqb-true (checkpoint_of (s.marks t)) other (and_right (is_some (s.marks t)) _ q)

-- ---- never two open

abbrev OneOpen : Set → State → Type 0
OneOpen S s = (id other : ℕ) → Contained S id → Contained S other → check S s id ≡ true → check S s other ≡ true → id ≡ other

open_start : (S : Set) (memory : ℕ → ℕ) → OneOpen S (start memory)
open_start S memory id other (t, h, has) there p q =
    clash (every-at (λ u. not (contains S u id) || marked_at unmarked id) S.threads t p h) (ap (λ (b : Bool). not b || marked_at unmarked id) has)

-- whatever was open before: it opened by the mark that the step set
open_step : (S : Set) (s : State) (c : Choice) → OneOpen S (step S s c)
unfolding step opened
open_step S s c id other (t, h, has) (u, l, there) p q =
    sym (eqb-true (current S s (actor c)).argument id (and_right (leaves_mark S s c) _ (opens_by S s c t id h has p)))
    ∙ eqb-true (current S s (actor c)).argument other (and_right (leaves_mark S s c) _ (opens_by S s c u other l there q))

open_after : (S : Set) (s : State) (run : List Choice) → OneOpen S s → OneOpen S (after S s run)
unfolding after
open_after S s [] h = h
open_after S s (c ∷ run) h = open_after S (step S s c) run (open_step S s c)

-- ---- two CHECKs in a row

-- a thread that executes a CHECK contains it; where its checkpoint is open, the thread is marked there, so it stands right after another
in_a_row : (set : List ℕ) (s : State) → StandsAfter (set_of set) s → (t id : ℕ) → permitted (set_of set) s (Execute t) ≡ true →
    executes_check (set_of set) s (Execute t) id t ≡ true → check (set_of set) s id ≡ true →
    (p : ℕ) × ((s.threads t).pc ≡ suc p) × (is_check (set_of set) t id p ≡ true)
unfolding contains
in_a_row set s stands t id may is opens =
    let here = and_right (eqb t t) (is_check S t id (s.threads t).pc) is in
    let has = some_at (is_check S t id) (S.count t) (s.threads t).pc (inside (s.threads t).pc (and_left (eqb (current S s t).number CHECK) _ here)) here in
    let marked = subst (λ (b : Bool). (not b || block s id t) ≡ true) has (every-at (λ u. not (contains S u id) || block s id u) S.threads t opens (permitted-actor S s (Execute t) may)) in
    let r = stands t (and_left (is_some (s.marks t)) _ marked) in
    (r.0, r.1, subst (λ (c : ℕ). is_check S t c r.0 ≡ true) (eqb-true (checkpoint_of (s.marks t)) id (and_right (is_some (s.marks t)) _ marked)) r.2)
  where
    S : Set
    S = set_of set

    -- past its statements there is no CHECK
    inside : (p : ℕ) → eqb (S.statement t p).number CHECK ≡ true → p < S.count t
    inside p e = elim (dec_lt p (S.count t)) [
      | yes h ↦ h
      | no f ↦ clash e (ap (λ (i : Statement). eqb i.number CHECK) (passed _ _ (le-ltb p (S.count t) (omega arith))))
    ]

pub marks_as_table5 : MarksAsTable5
marks_as_table5 = record {
  flags = flags;
  counted = counted;
  one_mark = one_mark_lem;
  one_open = λ S memory run. open_after S (start memory) run (open_start S memory);
  in_a_row = λ set memory run t id is_run. in_a_row set (reached (set_of set) memory run) (stands-run (set_of set) memory run is_run) t id;
}
