-- A run by a schedule or along a trace, as one loop makes both. This serves the code; no call's promise needs it. Assumes nothing.
use Rattle.std.specs.Prelude.{ℕ, zero, suc, ◌*◌, Bool, true, cond, List, [], ◌∷◌, Option, Some, None, Result, Err, get_or, take, drop}
use Rattle.base.specs.Bytes.{same}
use Rattle.records.specs.Refusals.{of_call}
use Rattle.records.specs.Sets.{Set}
use Rattle.records.specs.declared.refusals.Refusal.{Refusal}
use Rattle.records.specs.declared.refusals.Refusal.TheVariants.{NotPermitted as Unpermitted, Differs, LacksCell, Length}
use Rattle.records.specs.declared.refusals.Refused.{Refused}
use Rattle.machine.specs.Machine.{written, no_write, reads}
use Rattle.machine.specs.Maps.{Held, begin, outcome, advanced, ran, refused_at}
use Rattle.machine.specs.Runs.{choice_of, end_of}
use Rattle.machine.specs.Traces.{step_length, trace_step, step_choice}
use Rattle.machine.specs.declared.Choice.{Choice}
use Rattle.machine.specs.declared.Outcome.{Outcome}
use Rattle.machine.specs.declared.Outcome.TheVariants.{Taken, NotPermitted, Lacking}
use Rattle.machine.specs.declared.Run.{Run}
use Rattle.records.specs.declared.Cell.{Cell}
use Rattle.step.specs.Runs.{limits, unknown}
use Rattle.step.specs.Step.{on_taken}

-- ---- what a run follows: a schedule or a trace

-- the choice of step i
abbrev pub schedule_choice : List ℕ → ℕ → Choice
schedule_choice schedule i = choice_of (get_or schedule i 0)

abbrev pub trace_choice : List ℕ → ℕ → Choice
trace_choice trace i = step_choice (drop (step_length * i) trace)

-- step i of a trace has these bytes; a schedule says nothing of them
abbrev pub trace_agrees : List ℕ → ℕ → List ℕ → Bool
trace_agrees trace i bytes = same (take step_length (drop (step_length * i) trace)) bytes

abbrev pub schedule_agrees : ℕ → List ℕ → Bool
schedule_agrees i bytes = true

-- ---- the steps

-- a step's refusal: 12 before 13 before 14
abbrev pub step_refusal : Outcome → Bool → Option Refusal
step_refusal NotPermitted agreed = Some Unpermitted
step_refusal Taken agreed = cond agreed None (Some Differs)
step_refusal Lacking agreed = cond agreed (Some LacksCell) (Some Differs)

-- what a refusal at step i gives, none the rest
abbrev pub on_refusal : Option Refusal → ℕ → Result Run Refused → Result Run Refused
on_refusal None i rest = rest
on_refusal (Some refusal) i rest = refused_at refusal i

-- k steps from step i on, with these choices and where their bytes agree; w is what the step before wrote
unfoldable pub walked : Set → (ℕ → Choice) → (ℕ → List ℕ → Bool) → Held → Option Cell → ℕ → ℕ → Result Run Refused
walked S choice agrees h w i zero = ran i (end_of S h.state)
walked S choice agrees h w i (suc k) =
    let c = choice i in
    on_refusal (step_refusal (outcome S h c) (agrees i (trace_step S h.state w c))) i
    (walked S choice agrees (advanced S h c) (written S h.state c) (suc i) k)

-- the cell that they lack: the first that is not known of those that the first step that is not taken reads
unfoldable pub walked_lacks : Set → (ℕ → Choice) → Held → ℕ → ℕ → ℕ
walked_lacks S choice h i zero = 0
walked_lacks S choice h i (suc k) =
    let c = choice i in
    on_taken (outcome S h c) (walked_lacks S choice (advanced S h c) (suc i) k) (unknown h.known (reads S h.state c))

-- the choices of these steps
unfoldable pub choices_from : (ℕ → Choice) → ℕ → ℕ → List Choice
choices_from choice i zero = []
choices_from choice i (suc k) = choice i ∷ choices_from choice (suc i) k

-- ---- the call

-- from the start over a map; 17 past the limits
unfoldable pub walked_over : Set → (map : List ℕ) → (ℕ → Choice) → (ℕ → List ℕ → Bool) → ℕ → Result Run Refused
walked_over S map choice agrees count = cond (limits S map count) (walked S choice agrees (begin map) no_write 0 count) (Err (of_call Length))
