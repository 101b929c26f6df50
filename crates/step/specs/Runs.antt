-- Runs over a map, by a schedule and along a trace: what `step::follow` and `step::retrace` promise, by the machine's own definitions. This serves
-- the code; no call's promise needs it. Assumes nothing.
use Rattle.std.specs.Prelude.{ℕ, ◌/◌, ◌≡◌, Bool, cond, ◌&&◌, List, [], ◌∷◌, Option, Some, None, Result, Ok, Err, leb, length, take}
use Rattle.records.specs.Maps.{cells, run_cells}
use Rattle.records.specs.Refusals.{of_call}
use Rattle.records.specs.Sets.{Set, most_threads}
use Rattle.records.specs.declared.refusals.Refusal.{Refusal}
use Rattle.records.specs.declared.refusals.Refusal.TheVariants.{LacksCell, Length}
use Rattle.records.specs.declared.refusals.Refused.{Refused}
use Rattle.machine.specs.Machine.{no_write, reads}
use Rattle.machine.specs.Maps.{Held, begin, outcome, advanced, follow, retrace}
use Rattle.machine.specs.Runs.{choices, most_steps}
use Rattle.machine.specs.Traces.{step_length}
use Rattle.machine.specs.declared.Choice.{Choice}
use Rattle.machine.specs.declared.Run.{Run}
use Rattle.step.specs.Step.{on_taken}
use Rattle.step.specs.declared.Stopped.{Stopped}
use Rattle.step.specs.declared.Stopped.TheVariants.{Refused as Halted, Lacking}

-- the limits of a run: 4 threads, 256 map cells and 64 steps
abbrev pub limits : Set → (map : List ℕ) (steps : ℕ) → Bool
limits S map steps = leb S.threads most_threads && leb (cells map) run_cells && leb steps most_steps

-- a schedule's run, where there is room for its trace; 17 past the limits
unfoldable pub followed : Set → (map schedule : List ℕ) (room : ℕ) → Result Run Refused
followed S map schedule room =
    cond (limits S map (length schedule) && leb (length schedule) (room / step_length))
    (follow S (begin map) 0 (choices schedule))
    (Err (of_call Length))

-- the run along a trace's whole records; 17 past the limits
unfoldable pub retraced : Set → (map trace : List ℕ) → Result Run Refused
retraced S map trace =
    cond (limits S map (length trace / step_length))
    (retrace S (begin map) no_write 0 (length trace / step_length) trace)
    (Err (of_call Length))

-- bytes begin with the trace of a run that ran
abbrev pub Begins : {E : Type 0} → Result Run E → (trace bytes : List ℕ) → Type 0
Begins (Ok run) trace bytes = take (length trace) bytes ≡ trace
Begins (Err e) trace bytes = Unit {0}

-- the first of these cells that is not known, 0 where all are
abbrev pub unknown : (ℕ → Bool) → List ℕ → ℕ
unknown known [] = 0
unknown known (a ∷ addresses) = cond (known a) (unknown known addresses) a

-- the cell that a run lacks: the first that is not known of those that its first step that is not taken reads
unfoldable pub lacked : Set → Held → List Choice → ℕ
lacked S h [] = 0
lacked S h (c ∷ run) = on_taken (outcome S h c) (lacked S (advanced S h c) run) (unknown h.known (reads S h.state c))

-- ---- what stops a run

-- the refusal of the call
abbrev pub refused_by : Stopped → Refused
refused_by (Halted refused) = refused
refused_by (Lacking step cell) = record { refusal = LacksCell; place = step }

-- the answer of the call
abbrev pub answered : Result Run Stopped → Result Run Refused
answered (Ok run) = Ok run
answered (Err stopped) = Err (refused_by stopped)

-- the cell that is lacking, where one is
abbrev pub Names : Stopped → ℕ → Type 0
Names (Halted refused) cell = refused.refusal ≡ LacksCell → ⊥
Names (Lacking step lacks) cell = lacks ≡ cell

-- where a step is refused it stops the run at step i, and names this cell where it is lacking
pub record Stops (refusal : Refusal) (i cell : ℕ) (stopped : Stopped) : Type 0 where
  pub refused : refused_by stopped ≡ record { refusal = refusal; place = i }
  pub names : Names stopped cell

abbrev pub StopsAt : Option Refusal → (i cell : ℕ) → Stopped → Type 0
StopsAt None i cell stopped = ⊥
StopsAt (Some refusal) i cell stopped = Stops refusal i cell stopped

abbrev pub Lacks : Result Run Stopped → ℕ → Type 0
Lacks (Ok run) cell = Unit {0}
Lacks (Err stopped) cell = Names stopped cell
