-- Replay of a trace (document 01): its answer for every input. A reader of the calls believes this. Assumes nothing.
use Rattle.std.specs.Prelude.{ℕ, ◌/◌, ◌%◌, cond, ◌&&◌, List, Result, Err, eqb, leb, length}
use Rattle.machine.specs.Runs.{most_steps}
use Rattle.records.specs.Maps.{map_accepted, run_cells}
use Rattle.records.specs.Sets.{Set, set_of, set_accepted}
use Rattle.machine.specs.Machine.{no_write}
use Rattle.machine.specs.Maps.{begin, retrace}
use Rattle.machine.specs.Traces.{step_length}
use Rattle.machine.specs.declared.Run.{Run}
use Rattle.records.specs.Refusals.{of_call}
use Rattle.records.specs.declared.refusals.Refusal.TheVariants.{Records, Length}
use Rattle.records.specs.declared.refusals.Refused.{Refused}

-- 17, a trace above 64 steps or not whole records; then the steps.
unfoldable pub limited_trace : Set → (map trace : List ℕ) → Result Run Refused
limited_trace S map trace =
    cond (eqb (length trace % step_length) 0 && leb (length trace / step_length) most_steps)
    (retrace S (begin map) no_write 0 (length trace / step_length) trace)
    (Err (of_call Length))

-- 9 comes first.
unfoldable pub replayed : (set map trace : List ℕ) → Result Run Refused
replayed set map trace =
    cond (set_accepted set && map_accepted run_cells map) (limited_trace (set_of set) map trace) (Err (of_call Records))
