-- `step::walks::run` meets its contract. Assumes nothing.
use Rattle.std.proofs.Common.{Bool, List, length, take, ℕ, ◌*◌, ◌++◌, ◌+◌, ◌-◌, ◌≡◌, ◌≤◌, Option}
use Rattle.records.specs.Sets.{Set, set_by}
use Rattle.machine.specs.Held.{state_of, memory_of, held_of}
use Rattle.machine.specs.Machine.{no_write}
use Rattle.machine.specs.Maps.{Held}
use Rattle.machine.specs.Traces.{trace, step_length}
use Rattle.machine.specs.declared.Choice.{Choice}
use Rattle.machine.specs.declared.Machine.{Machine}
use Rattle.records.specs.declared.Cell.{Cell}
use Rattle.step.specs.Walks.{walked, walked_lacks, choices_from}
use Rattle.step.proofs.walks.run.Given as goal

-- what the loop keeps: the steps from i on give the rest of the answer, and the bytes so far begin the trace
pub record Running (S : Set) (choice : ℕ → Choice) (agrees : ℕ → List ℕ → Bool) (count : ℕ) (h₀ : Held) (bytes : List ℕ) (m : Machine)
    (addresses values : List ℕ) (filled : ℕ) (w : Option Cell) (i : ℕ) : Type 0 where
  pub addresses-fit : filled + count ≤ length addresses + i
  pub values-fit : filled + count ≤ length values + i
  pub answers : walked S choice agrees h₀ no_write 0 count ≡ walked S choice agrees (held_of m addresses values filled) w i (count - i)
  pub lacks : walked_lacks S choice h₀ 0 count ≡ walked_lacks S choice (held_of m addresses values filled) i (count - i)
  pub traces : step_length * count ≤ length bytes →
      trace S h₀.state no_write (choices_from choice 0 count)
      ≡ take (step_length * i) bytes ++ trace S (state_of m (memory_of addresses values filled)) w (choices_from choice i (count - i))
  pub threads : length m.threads ≡ 4
  pub marks : length m.marks ≡ 4

abbrev pub invariant-loop-step : goal.invariant-loop-step
invariant-loop-step g l =
    Running (set_by l.set l.layout) (g.T.Steps.choice l.steps) (g.T.Steps.agrees l.steps) (g.T.Steps.count l.steps) (held_of l.initial.m l.initial.addresses l.initial.values l.initial.filled) l.trace
    l.m l.addresses l.values l.filled l.wrote l.step
