-- How the code finds the lowest choice: it tries the eight bytes that may be permitted. This serves the code; no call's promise needs it. Assumes
-- nothing.
use Rattle.std.specs.Prelude.{ℕ, ◌+◌, ◌-◌, Bool, false, cond, not, ◌&&◌, List, [], ◌∷◌, ◌++◌, Result, Ok, Err, eqb, ltb}
use Rattle.base.specs.Below.{least}
use Rattle.records.specs.Maps.{map_accepted, run_cells}
use Rattle.records.specs.Sets.{set_accepted, most_threads}
use Rattle.records.specs.Refusals.{number}
use Rattle.records.specs.declared.refusals.Refused.{Refused}
use Rattle.machine.specs.declared.Run.{Run}
use Rattle.simulation.specs.Simulation.{simulated}
use Rattle.machine.specs.Traces.{longest_trace}
use Rattle.machine.specs.Runs.{flush_byte}

-- a set and a map that 9 does not refuse
abbrev pub accepts : (set map : List ℕ) → Bool
accepts set map = set_accepted set && map_accepted run_cells map

-- the eight schedule bytes in order: executes by thread, then flushes by thread
abbrev pub candidate : ℕ → ℕ
candidate j = cond (ltb j most_threads) j (flush_byte + (j - most_threads))

-- an answer that a choice is not permitted
abbrev pub denies : Result Run Refused → Bool
denies (Ok run) = false
denies (Err refused) = eqb (number refused.refusal) 12

-- candidate j is permitted after a schedule
abbrev pub allows : (set map schedule : List ℕ) → ℕ → Bool
allows set map schedule j = not (denies (simulated set map (schedule ++ (candidate j ∷ [])) longest_trace))

-- the byte of the first candidate that is permitted after a schedule, the last one's where none of the others is
unfoldable pub next_byte : (set map schedule : List ℕ) → ℕ
next_byte set map schedule = candidate (least 7 (allows set map schedule))
