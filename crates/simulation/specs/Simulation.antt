-- Simulation by a given schedule (document 01): its answer for every input, and the lent output afterwards. A reader of the calls believes this.
-- Assumes nothing.
use Rattle.std.specs.Prelude.{ℕ, ◌*◌, cond, ◌&&◌, List, Result, Ok, Err, ltb, length}
use Rattle.base.specs.Bytes.{over}
use Rattle.records.specs.Maps.{map_accepted, map_value, run_cells}
use Rattle.records.specs.Sets.{Set, set_of, set_accepted}
use Rattle.machine.specs.Machine.{start, no_write}
use Rattle.machine.specs.Maps.{begin, follow}
use Rattle.machine.specs.Runs.{choices, most_steps}
use Rattle.machine.specs.Traces.{step_length, trace}
use Rattle.machine.specs.declared.Run.{Run}
use Rattle.records.specs.Refusals.{of_call}
use Rattle.records.specs.declared.refusals.Refusal.TheVariants.{Records, Room, Length}
use Rattle.records.specs.declared.refusals.Refused.{Refused}

-- 17, a schedule above 64 steps; 11, an output below 24 bytes a step; then the steps: 12 and 14 in each.
unfoldable pub limited : Set → (map schedule : List ℕ) (room : ℕ) → Result Run Refused
limited S map schedule room =
    cond (ltb most_steps (length schedule)) (Err (of_call Length))
    (cond (ltb room (step_length * length schedule)) (Err (of_call Room))
    (follow S (begin map) 0 (choices schedule)))

-- 9 comes first.
unfoldable pub simulated : (set map schedule : List ℕ) (room : ℕ) → Result Run Refused
simulated set map schedule room =
    cond (set_accepted set && map_accepted run_cells map) (limited (set_of set) map schedule room) (Err (of_call Records))

-- the trace of the schedule's run over the map
unfoldable pub schedule_trace : (set map schedule : List ℕ) → List ℕ
schedule_trace set map schedule = trace (set_of set) (start (map_value map)) no_write (choices schedule)

-- an output after an answer: a trace over its start, and as it was where the call is refused
abbrev pub output_over : Result Run Refused → (trace out : List ℕ) → List ℕ
output_over (Ok run) trace out = over trace out
output_over (Err refused) trace out = out

-- the output after an answer to a call
abbrev pub trace_output : Result Run Refused → (set map schedule out : List ℕ) → List ℕ
trace_output answer set map schedule out = output_over answer (schedule_trace set map schedule) out
