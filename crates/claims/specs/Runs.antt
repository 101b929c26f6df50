-- Demand 2 for runs: "Replay accepts exactly the traces that simulation writes for the same set and map." Statements alone; proofs/Runs.antt proves
-- them. Assumes nothing.
use Rattle.std.specs.Prelude.{ℕ, ◌*◌, ◌<◌, ◌≡◌, true, List, [], ◌∷◌, ◌↔◌, length}
use Rattle.records.specs.Maps.{map_value}
use Rattle.records.specs.Sets.{set_of}
use Rattle.machine.specs.Machine.{start}
use Rattle.machine.specs.Maps.{ran}
use Rattle.machine.specs.Runs.{choices, is_run, after, end_of}
use Rattle.machine.specs.declared.End.{End}
use Rattle.simulation.specs.Simulation.{simulated, schedule_trace}
use Rattle.replay.specs.Replay.{replayed}

-- every one of a schedule's numbers is a byte
abbrev pub AreBytes : List ℕ → Type 0
AreBytes [] = Unit {0}
AreBytes (k ∷ schedule) = (k < 256) × AreBytes schedule

-- simulation, lent the room that 11 asks, takes the schedule's n steps to the end e and writes this trace
pub record Simulates (set map schedule : List ℕ) (n : ℕ) (e : End) (trace : List ℕ) : Type 0 where
  pub answer : simulated set map schedule (24 * length schedule) ≡ ran n e
  pub writes : schedule_trace set map schedule ≡ trace

-- Replay accepts exactly the traces that simulation writes for the same set and map, with the same count and end.
abbrev pub ReplayAcceptsWhatSimulationWrites : Type 0
ReplayAcceptsWhatSimulationWrites =
    (set map trace : List ℕ) (n : ℕ) (e : End) →
    replayed set map trace ≡ ran n e ↔ ((schedule : List ℕ) × AreBytes schedule × Simulates set map schedule n e trace)

-- One trace comes from one schedule.
abbrev pub OneSchedule : Type 0
OneSchedule =
    (set map first second trace : List ℕ) (n : ℕ) (e : End) → AreBytes first → AreBytes second →
    Simulates set map first n e trace → Simulates set map second n e trace → first ≡ second

-- What simulation runs is a run of the machine from a first memory that the map gives: the step count equals the number of steps
-- the run took, and the end is that run's.
pub record RunOf (set map schedule : List ℕ) (n : ℕ) (e : End) : Type 0 where
  pub run : is_run (set_of set) (start (map_value map)) (choices schedule) ≡ true
  pub steps : n ≡ length schedule
  pub end : e ≡ end_of (set_of set) (after (set_of set) (start (map_value map)) (choices schedule))

abbrev pub SimulationRuns : Type 0
SimulationRuns =
    (set map schedule : List ℕ) (room n : ℕ) (e : End) → simulated set map schedule room ≡ ran n e → RunOf set map schedule n e
