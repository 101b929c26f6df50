-- Runs over a map: the same machine, with the cells that are mapped or written known, by choices or along a trace (document 01, "Records", refusals
-- 12 to 14). A reader of the calls believes this. Assumes nothing.
use Rattle.std.specs.Prelude.{ℕ, zero, suc, Bool, true, cond, ◌&&◌, ◌||◌, List, [], ◌∷◌, Result, Ok, Err, eqb, take, drop, Option, is_some}
use Rattle.base.specs.Bytes.{same}
use Rattle.records.specs.Maps.{mapped, map_value}
use Rattle.records.specs.Sets.{Set}
use Rattle.records.specs.declared.refusals.Refusal.{Refusal}
use Rattle.records.specs.declared.refusals.Refusal.TheVariants.{NotPermitted as Unpermitted, Differs, LacksCell}
use Rattle.records.specs.declared.refusals.Refused.{Refused}
use Rattle.machine.specs.Machine.{State, start, step, cell_of, written, reads}
use Rattle.machine.specs.Runs.{takes, end_of}
use Rattle.machine.specs.Traces.{step_length, trace_step, step_choice}
use Rattle.machine.specs.declared.Choice.{Choice}
use Rattle.machine.specs.declared.End.{End}
use Rattle.machine.specs.declared.Outcome.{Outcome}
use Rattle.machine.specs.declared.Outcome.TheVariants.{Taken, NotPermitted, Lacking}
use Rattle.machine.specs.declared.Run.{Run}
use Rattle.records.specs.declared.Cell.{Cell}

-- a state, and which cells are known in it
pub record Held : Type 0 where
  pub state : State
  pub known : ℕ → Bool

-- the start over a map: its cells are known
unfoldable pub begin : List ℕ → Held
begin map = record { state = start (map_value map); known = mapped map }

-- each of these cells is known
abbrev pub knows_all : (ℕ → Bool) → List ℕ → Bool
knows_all known [] = true
knows_all known (a ∷ addresses) = known a && knows_all known addresses

-- a written cell is known from then on
abbrev pub known_after : Option Cell → (ℕ → Bool) → ℕ → Bool
known_after w known a = is_some w && eqb (cell_of w).address a || known a

-- a step's outcome: not permitted, a first cell read that the map lacks, or taken
unfoldable pub outcome : Set → Held → Choice → Outcome
outcome S h c =
    cond (takes S h.state c)
    (cond (knows_all h.known (reads S h.state c)) Taken Lacking)
    NotPermitted

-- the state after a step, and the cells known then
unfoldable pub advanced : Set → Held → Choice → Held
advanced S h c = record { state = step S h.state c; known = known_after (written S h.state c) h.known }

-- what a run answers that no refusal stopped
abbrev pub ran : ℕ → End → Result Run Refused
ran steps end = Ok (record { steps = steps; end = end })

-- what a run answers that a refusal stopped at step i
abbrev pub refused_at : Refusal → ℕ → Result Run Refused
refused_at refusal i = Err (record { refusal = refusal; place = i })

-- what an outcome at step i gives: 12, 14, or what the rest gives
abbrev pub on_outcome : Outcome → ℕ → Result Run Refused → Result Run Refused
on_outcome Taken i rest = rest
on_outcome NotPermitted i rest = refused_at Unpermitted i
on_outcome Lacking i rest = refused_at LacksCell i

-- the run of a list of choices, from step i on
unfoldable pub follow : Set → Held → ℕ → List Choice → Result Run Refused
follow S h i [] = ran i (end_of S h.state)
follow S h i (c ∷ run) = on_outcome (outcome S h c) i (follow S (advanced S h c) (suc i) run)

-- n steps of a trace from step i on, w what the step before wrote: in each 12, then 13 where a field differs, then 14
unfoldable pub retrace : Set → Held → Option Cell → ℕ → ℕ → List ℕ → Result Run Refused
retrace S h w i zero bytes = ran i (end_of S h.state)
retrace S h w i (suc n) bytes =
    let c = step_choice bytes in
    cond (takes S h.state c)
    (cond (same (take step_length bytes) (trace_step S h.state w c))
    (on_outcome (outcome S h c) i (retrace S (advanced S h c) (written S h.state c) (suc i) n (drop step_length bytes)))
    (refused_at Differs i))
    (refused_at Unpermitted i)
