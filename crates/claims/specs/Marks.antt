-- Marks and checkpoints as document 002 has them, change request 2026-05: "From now its mark is set after the clearing, as Table 5 of document 002
-- has it." There is a flag for each checkpoint id and thread t. Statements alone; proofs/Marks.antt proves them. Assumes nothing.
use Rattle.std.specs.Prelude.{ℕ, suc, ◌<◌, ◌≡◌, Bool, true, false, cond, not, ◌&&◌, ◌||◌, List, eqb}
use Rattle.base.specs.Below.{every}
use Rattle.records.specs.Instructions.{CHECK}
use Rattle.records.specs.Sets.{Set, set_of}
use Rattle.machine.specs.Machine.{State, start, current, is_check, contains, marked_at, permitted, step}
use Rattle.machine.specs.Runs.{is_run, after}
use Rattle.machine.specs.declared.Choice.{Choice}
use Rattle.machine.specs.declared.Choice.TheVariants.{Execute, Flush}

-- ---- the flags

-- block id, t: thread t is marked at checkpoint id
abbrev pub block : State → (id t : ℕ) → Bool
block s id t = marked_at (s.marks t) id

-- check id: all threads synchronized upon checkpoint id, which then is open
abbrev pub check : Set → State → ℕ → Bool
check S s id = every S.threads (λ t. not (contains S t id) || block s id t)

-- thread t executes CHECK id
abbrev pub executes_check : Set → State → Choice → (id t : ℕ) → Bool
executes_check S s (Execute u) id t = eqb t u && (eqb (current S s t).number CHECK && eqb (current S s t).argument id)
executes_check S s (Flush u) id t = false

-- a thread contains CHECK id
abbrev pub Contained : Set → ℕ → Type 0
Contained S id = (t : ℕ) × (t < S.threads) × (contains S t id ≡ true)

-- the state after a run, or after any choices
abbrev pub reached : Set → (ℕ → ℕ) → List Choice → State
reached S memory run = after S (start memory) run

-- ---- the claims

pub record MarksAsTable5 : Type 0 where
  -- Table 5, CHECK arg: "block arg, t = true", without a condition. Above it: the others "are reset if all threads synchronized upon checkpoint
  -- id: block id, t = ite (check id, false, block id, t)".
  pub flags : (S : Set) (s : State) (c : Choice) → permitted S s c ≡ true → (id t : ℕ) →
      block (step S s c) id t ≡ cond (executes_check S s c id t) true (cond (check S s id) false (block s id t))
  -- A thread that arrives in the very step that clears the marks is counted: it is marked afterwards, and no other thread is.
  pub counted : (S : Set) (s : State) (t id : ℕ) → permitted S s (Execute t) ≡ true → executes_check S s (Execute t) id t ≡ true → check S s id ≡ true →
      (u : ℕ) → block (step S s (Execute t)) id u ≡ eqb u t
  -- No thread has two marks.
  pub one_mark : (s : State) (t id other : ℕ) → block s id t ≡ true → block s other t ≡ true → id ≡ other
  -- Two checkpoints are never open at once.
  pub one_open : (S : Set) (memory : ℕ → ℕ) (run : List Choice) (id other : ℕ) → Contained S id → Contained S other →
      check S (reached S memory run) id ≡ true → check S (reached S memory run) other ≡ true → id ≡ other
  -- Only where a CHECK follows another of its number at once does a thread arrive in the step that clears the marks.
  pub in_a_row : (set : List ℕ) (memory : ℕ → ℕ) (run : List Choice) (t id : ℕ) → is_run (set_of set) (start memory) run ≡ true →
      permitted (set_of set) (reached (set_of set) memory run) (Execute t) ≡ true → executes_check (set_of set) (reached (set_of set) memory run) (Execute t) id t ≡ true →
      check (set_of set) (reached (set_of set) memory run) id ≡ true →
      (p : ℕ) × (((reached (set_of set) memory run).threads t).pc ≡ suc p) × (is_check (set_of set) t id p ≡ true)
