-- The steps and the goal of a table hold exactly along a run that ends with a code other than 0. Assumes nothing.
use Prim.Native.Nat.{ℕ, zero, suc, ◌≤◌}
use mathlib.Core.Path.{◌≡◌, refl, ap, ap₂, sym, ◌∙◌}
use mathlib.Core.Bool.{Bool, true, false, not, ◌&&◌, ◌||◌}
use mathlib.Core.List.{List, [], ◌∷◌, ◌++◌}
use native.Mathlib.Omega.{arith}
use lib.Dec.{eqb}
use lib.ListN.{length}
use borrow.Author.Tests.{eqb-true, eq-eqb, ne_eqb, not-true}
use Rattle.base.proofs.Choice.{passed, and_true, and_left, and_right, or_true, or_left, or_right, or_right_true, clash}
use Rattle.records.specs.Instructions.{EXIT}
use Rattle.records.specs.Sets.{Set}
use Rattle.machine.specs.Machine.{State, current, permitted, exits, all_halted, threads_after, step}
use Rattle.machine.specs.Runs.{takes, is_run, after}
use Rattle.machine.specs.declared.Choice.{Choice}
use Rattle.machine.specs.declared.Choice.TheVariants.{Execute, Flush}
use Rattle.machine.proofs.Runs.{run-first, run-rest}
use Rattle.table.specs.Programs.{program_holds}
use Rattle.table.specs.Values.{Assignment, Value, bit, word, as_word}
use Rattle.encoding.specs.Slots.{ended, code, Slot, same}
use Rattle.encoding.specs.Steps.{only}
use Rattle.encoding.proofs.Demands.{steps_from, next_at, rule, steps_demand, goal_demand}
use Rattle.encoding.proofs.Shown.{Sound, Bits, NoBits, Constants, Shows}

-- ---- the code is 0 until the end

abbrev pub Tame : State → Type 0
Tame s = s.ended ≡ false → s.code ≡ 0

module _ (S : Set) (s : State) (c : Choice) where
  pub tame_step : s.ended ≡ false → Tame s → Tame (step S s c)
  unfolding step
  tame_step going tame e =
      let none = or_right s.ended (exits S s c) (or_left (s.ended || exits S s c) (all_halted S (threads_after S s c)) e) in
      passed _ _ none ∙ tame going

  -- a step that gives a code other than 0 executes EXIT
  exit-code : s.ended ≡ false → Tame s → ((step S s c).code ≡ 0 → ⊥) → exits S s c ≡ true
  unfolding step
  exit-code going tame f = go (exits S s c) refl
    where
      go : (b : Bool) → exits S s c ≡ b → exits S s c ≡ true
      go true e = e
      go false e = absurd (f (passed _ _ e ∙ tame going))

  pub exit-ends : exits S s c ≡ true → (step S s c).ended ≡ true
  unfolding step
  exit-ends e = or_true (all_halted S (threads_after S s c)) (or_right_true s.ended e)

exits_are : (S : Set) (s : State) (c : Choice) → exits S s c ≡ true → (t : ℕ) × ((c ≡ Execute t) × ((current S s t).number ≡ EXIT))
exits_are S s (Execute t) e = (t, (refl, eqb-true _ _ e))
exits_are S s (Flush t) e = clash e refl

not-ended : (S : Set) (s : State) (c : Choice) → takes S s c ≡ true → s.ended ≡ false
not-ended S s c e = not-true s.ended (and_left (not s.ended) (permitted S s c) e)

-- the last step of a run executes EXIT
abbrev pub LastExits : Set → State → List Choice → Type 0
LastExits S s run = (before : List Choice) × ((t : ℕ) × ((run ≡ before ++ (Execute t ∷ [])) × ((current S (after S s before) t).number ≡ EXIT)))

pub last-exits : (S : Set) (s : State) (run : List Choice) → Tame s → s.code ≡ 0 → is_run S s run ≡ true → ((after S s run).code ≡ 0 → ⊥) → LastExits S s run
unfolding after
last-exits S s [] tame zeroed e f = absurd (f zeroed)
last-exits S s (c ∷ []) tame zeroed e f =
    let r = exits_are S s c (exit-code S s c (not-ended S s c (run-first S s c [] e)) tame f) in
    ([], (r.0, (ap (λ (d : Choice). d ∷ []) r.1.0, r.1.1)))
last-exits S s (c ∷ d ∷ run) tame zeroed e f =
    let going-c = not-ended S s c (run-first S s c (d ∷ run) e) in
    let rest = run-rest S s c (d ∷ run) e in
    let tamed = tame_step S s c going-c tame in
    let going-d = not-ended S (step S s c) d (run-first S (step S s c) d run rest) in
    let r = last-exits S (step S s c) (d ∷ run) tamed (tamed going-d) rest f in
    (c ∷ r.0, (r.1.0, (ap (λ (l : List Choice). c ∷ l) r.1.1.0, r.1.1.1)))

pub last-ends : (S : Set) (s : State) (before : List Choice) (t : ℕ) → (current S (after S s before) t).number ≡ EXIT → (after S s (before ++ (Execute t ∷ []))).ended ≡ true
unfolding after
last-ends S s [] t e = exit-ends S s (Execute t) (eq-eqb _ _ e)
last-ends S s (c ∷ before) t e = last-ends S (step S s c) before t e

-- ---- what a step does

module _ (S : Set) (cs : List ℕ) (g : Assignment) where
  -- slots that show a state
  pub record Live (slots : Slot → Value) (s : State) : Type 0 where
    pub constants : Constants S slots
    pub shows : Shows S cs slots s
    pub sound : Sound S s

  -- slots after the end, with the code v
  pub record Over (slots : Slot → Value) (v : ℕ) : Type 0 where
    pub constants : Constants S slots
    pub ended_is : slots (only ended) ≡ bit true
    pub code_is : slots (only code) ≡ word v

  pub record StepLaws : Type 0 where
    pub live_in : (k : ℕ) (slots : Slot → Value) (s : State) (c : Choice) → Live slots s → s.ended ≡ false →
        permitted S s c ≡ true → Bits S g k c → rule S cs g k slots ≡ true
    pub live_out : (k : ℕ) (slots : Slot → Value) (s : State) → Live slots s → s.ended ≡ false →
        rule S cs g k slots ≡ true → (c : Choice) × ((permitted S s c ≡ true) × Bits S g k c)
    pub live_next : (k : ℕ) (slots : Slot → Value) (s : State) (c : Choice) → Live slots s →
        permitted S s c ≡ true → Bits S g k c → Live (next_at S cs g k slots) (step S s c)
    pub over_in : (k : ℕ) (slots : Slot → Value) (v : ℕ) → Over slots v → NoBits S g k → rule S cs g k slots ≡ true
    pub over_out : (k : ℕ) (slots : Slot → Value) (v : ℕ) → Over slots v → rule S cs g k slots ≡ true → NoBits S g k
    pub over_next : (k : ℕ) (slots : Slot → Value) (v : ℕ) → Over slots v → NoBits S g k → Over (next_at S cs g k slots) v

  -- ---- runs of at most n steps from step k on

  -- the bits of n steps are those of a run's choices, and none after it
  abbrev pub Stands : (k n : ℕ) → List Choice → Type 0
  Stands k zero run = Unit
  Stands k (suc n) [] = NoBits S g k × Stands (suc k) n []
  Stands k (suc n) (c ∷ run) = Bits S g k c × Stands (suc k) n run

  -- a run that ends with a code other than 0
  pub record Failing (n : ℕ) (s : State) (run : List Choice) : Type 0 where
    pub permitted : is_run S s run ≡ true
    pub bounded : length run ≤ n
    pub ends : (after S s run).ended ≡ true
    pub fails : (after S s run).code ≡ 0 → ⊥

  abbrev holds_from : (k n : ℕ) (slots : Slot → Value) → Bool
  holds_from k n slots = program_holds same g slots (steps_from S cs k n)

  goal-is : (k v : ℕ) (slots : Slot → Value) → Constants S slots → slots (only code) ≡ word v → holds_from k 0 slots ≡ not (eqb v 0)
  goal-is k v slots constants e = goal_demand S cs g k slots ∙ ap₂ (λ (a b : Value). not (eqb (as_word a) (as_word b))) e constants.word_zero_is

  goal-out : (v : ℕ) → not (eqb v 0) ≡ true → v ≡ 0 → ⊥
  goal-out v e q = clash (eq-eqb v 0 q) (not-true (eqb v 0) e)

  goal_in : (v : ℕ) → (v ≡ 0 → ⊥) → not (eqb v 0) ≡ true
  goal_in v f = ap not (ne_eqb v 0 f)

  live_over : (slots : Slot → Value) (s : State) → Live slots s → s.ended ≡ true → Over slots s.code
  live_over slots s live e = record { constants = live.constants; ended_is = live.shows.ended_is ∙ ap bit e; code_is = live.shows.code_is }

  module _ (laws : StepLaws) where
    -- ---- after the end

    over-out : (n k : ℕ) (slots : Slot → Value) (v : ℕ) → Over slots v → holds_from k n slots ≡ true → (v ≡ 0 → ⊥) × Stands k n []
    over-out zero k slots v over x = (goal-out v (sym (goal-is k v slots over.constants over.code_is) ∙ x), tt)
    over-out (suc n) k slots v over x =
        let both = sym (steps_demand S cs g k n slots) ∙ x in
        let bits = laws.over_out k slots v over (and_left (rule S cs g k slots) _ both) in
        let r = over-out n (suc k) (next_at S cs g k slots) v (laws.over_next k slots v over bits) (and_right (rule S cs g k slots) _ both) in
        (r.0, (bits, r.1))

    over_in_lem : (n k : ℕ) (slots : Slot → Value) (v : ℕ) → Over slots v → (v ≡ 0 → ⊥) → Stands k n [] → holds_from k n slots ≡ true
    over_in_lem zero k slots v over f bits = goal-is k v slots over.constants over.code_is ∙ goal_in v f
    over_in_lem (suc n) k slots v over f bits =
        steps_demand S cs g k n slots
        ∙ and_true (laws.over_in k slots v over bits.0) (over_in_lem n (suc k) (next_at S cs g k slots) v (laws.over_next k slots v over bits.0) f bits.1)

    -- ---- a run from what holds

    abbrev Run : (k n : ℕ) (s : State) → Type 0
    Run k n s = (run : List Choice) × (Failing n s run × Stands k n run)

    no_more : (k n : ℕ) (s : State) → s.ended ≡ true → (s.code ≡ 0 → ⊥) × Stands k n [] → Run k n s
    unfolding is_run after
    no_more k n s e r = ([], (record { permitted = refl; bounded = omega arith; ends = e; fails = r.0 }, r.1))

    one_more : (k n : ℕ) (s : State) (c : Choice) → s.ended ≡ false → permitted S s c ≡ true → Bits S g k c → Run (suc k) n (step S s c) → Run k (suc n) s
    unfolding is_run after
    one_more k n s c e p bits (run, (failing, stands)) = (
      c ∷ run,
      (
        record {
          permitted = and_true (and_true (ap not e) p) failing.permitted;
          bounded = omega (arith, failing.bounded);
          ends = failing.ends;
          fails = failing.fails;
        },
        (bits, stands),
      ),
    )

    pub to-run : (n k : ℕ) (slots : Slot → Value) (s : State) → Live slots s → Tame s → holds_from k n slots ≡ true → Run k n s
    to-run zero k slots s live tame x = go s.ended refl
      where
        go : (b : Bool) → s.ended ≡ b → Run k zero s
        go true e = no_more k zero s e (over-out zero k slots s.code (live_over slots s live e) x)
        go false e = absurd (goal-out s.code (sym (goal-is k s.code slots live.constants live.shows.code_is) ∙ x) (tame e))
    to-run (suc n) k slots s live tame x =
        go s.ended refl (λ c. to-run n (suc k) (next_at S cs g k slots) (step S s c))
      where
        both : (rule S cs g k slots && holds_from (suc k) n (next_at S cs g k slots)) ≡ true
        both = sym (steps_demand S cs g k n slots) ∙ x

        go : (b : Bool) → s.ended ≡ b →
            ((c : Choice) → Live (next_at S cs g k slots) (step S s c) → Tame (step S s c) → holds_from (suc k) n (next_at S cs g k slots) ≡ true → Run (suc k) n (step S s c)) →
            Run k (suc n) s
        go true e more = no_more k (suc n) s e (over-out (suc n) k slots s.code (live_over slots s live e) x)
        go false e more =
            let r = laws.live_out k slots s live e (and_left (rule S cs g k slots) _ both) in
            let c = r.0 in
            one_more k n s c e r.1.0 r.1.1
            (more c (laws.live_next k slots s c live r.1.0 r.1.1) (tame_step S s c e tame) (and_right (rule S cs g k slots) _ both))

    -- ---- and back

    pub of_run : (n k : ℕ) (slots : Slot → Value) (s : State) (run : List Choice) → Live slots s → Failing n s run → Stands k n run → holds_from k n slots ≡ true
    unfolding after
    of_run n k slots s [] live failing stands = over_in_lem n k slots s.code (live_over slots s live failing.ends) failing.fails stands
    of_run zero k slots s (c ∷ run) live failing stands = absurd (omega (arith, failing.bounded))
    of_run (suc n) k slots s (c ∷ run) live failing stands =
        let first = run-first S s c run failing.permitted in
        let p = and_right (not s.ended) (permitted S s c) first in
        let rest : Failing n (step S s c) run = record { permitted = run-rest S s c run failing.permitted; bounded = omega (arith, failing.bounded); ends = failing.ends; fails = failing.fails } in
        steps_demand S cs g k n slots
        ∙ and_true (laws.live_in k slots s c live (not-ended S s c first) p stands.0)
        (of_run n (suc k) (next_at S cs g k slots) (step S s c) run (laws.live_next k slots s c live p stands.0) rest stands.1)
