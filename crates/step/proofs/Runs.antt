-- A whole run: the loop over a schedule follows its choices, and the loop along a trace retraces it. Assumes nothing.
use Prim.Native.Nat.{ℕ, zero, suc, ◌+◌, ◌*◌, ◌/◌, ◌≤◌, ◌<◌}
use mathlib.Core.Path.{◌≡◌, refl, ap, ap₂, sym, ◌∙◌}
use mathlib.Core.Bool.{Bool, true, false, cond, ◌&&◌}
use mathlib.Core.List.{List, ◌∷◌}
use Rattle.std.specs.Prelude.{Result, Err, Option}
use native.Mathlib.Numerals.{add-one}
use native.Mathlib.Omega.{arith}
use borrow.Author.Tests.{le-leb}
use lib.Dec.{leb}
use lib.ListN.{length, take, drop, drop_of_length-le}
use lib.Seq.{drop-drop}
use Rattle.base.specs.Bytes.{same}
use Rattle.base.proofs.Choice.{chosen, and_true}
use Rattle.records.specs.Maps.{cells}
use Rattle.records.specs.Refusals.{of_call}
use Rattle.records.specs.Sets.{Set}
use Rattle.records.specs.declared.refusals.Refusal.TheVariants.{NotPermitted as Unpermitted, Differs, Length}
use Rattle.records.specs.declared.refusals.Refused.{Refused}
use Rattle.machine.specs.Machine.{no_write, written, reads}
use Rattle.machine.specs.Maps.{Held, begin, outcome, advanced, knows_all, refused_at, on_outcome, follow, retrace}
use Rattle.machine.specs.Runs.{choices, takes}
use Rattle.machine.specs.Traces.{trace_step, step_choice, step_length}
use Rattle.machine.specs.declared.Choice.{Choice}
use Rattle.machine.specs.declared.Outcome.{Outcome}
use Rattle.machine.specs.declared.Outcome.TheVariants.{Taken, NotPermitted, Lacking}
use Rattle.machine.specs.declared.Run.{Run}
use Rattle.records.specs.declared.Cell.{Cell}
use Rattle.step.specs.Runs.{limits, followed, retraced, unknown, lacked}
use Rattle.step.specs.Step.{on_taken}
use Rattle.step.specs.Walks.{schedule_choice, schedule_agrees, trace_choice, trace_agrees, step_refusal, on_refusal, walked, walked_lacks, walked_over, choices_from}
use Rattle.step.proofs.Steps.{next-choice}

-- ---- a whole schedule

agreed_outcome : (o : Outcome) (i : ℕ) (r : Result Run Refused) → on_refusal (step_refusal o true) i r ≡ on_outcome o i r
agreed_outcome Taken i r = refl
agreed_outcome NotPermitted i r = refl
agreed_outcome Lacking i r = refl

-- the steps of a schedule are its choices
pub schedule-choices_from : (S : Set) (schedule : List ℕ) (i n : ℕ) → i + n ≡ length schedule → choices_from (schedule_choice schedule) i n ≡ choices (drop i schedule)
unfolding choices_from choices
schedule-choices_from S schedule i zero e = let l : length schedule ≤ i = omega arith in sym (ap choices (drop_of_length-le schedule l))
schedule-choices_from S schedule i (suc n) e =
    let l : i < length schedule = omega arith in
    ap (λ (run : List Choice). schedule_choice schedule i ∷ run) (schedule-choices_from S schedule (suc i) n (omega arith) ∙ ap (λ (k : ℕ). choices (drop k schedule)) (sym (add-one i)))
    ∙ sym (next-choice S schedule i l)

-- the loop over choices follows them
walked-follow : (S : Set) (choice : ℕ → Choice) (h : Held) (w : Option Cell) (i n : ℕ) → walked S choice schedule_agrees h w i n ≡ follow S h i (choices_from choice i n)
unfolding walked follow choices_from
walked-follow S choice h w i zero = refl
walked-follow S choice h w i (suc n) =
    let c = choice i in
    agreed_outcome (outcome S h c) i (walked S choice schedule_agrees (advanced S h c) (written S h.state c) (suc i) n)
    ∙ ap (on_outcome (outcome S h c) i) (walked-follow S choice (advanced S h c) (written S h.state c) (suc i) n)

-- and lacks the cell that they lack
walked-lacked : (S : Set) (choice : ℕ → Choice) (h : Held) (i n : ℕ) → walked_lacks S choice h i n ≡ lacked S h (choices_from choice i n)
unfolding walked_lacks lacked choices_from
walked-lacked S choice h i zero = refl
walked-lacked S choice h i (suc n) =
    let c = choice i in
    ap (λ (k : ℕ). on_taken (outcome S h c) k (unknown h.known (reads S h.state c))) (walked-lacked S choice (advanced S h c) (suc i) n)

pub schedule-lacked : (S : Set) (schedule : List ℕ) (h : Held) → walked_lacks S (schedule_choice schedule) h 0 (length schedule) ≡ lacked S h (choices schedule)
schedule-lacked S schedule h =
    walked-lacked S (schedule_choice schedule) h 0 (length schedule) ∙ ap (lacked S h) (schedule-choices_from S schedule 0 (length schedule) (omega arith))

-- ---- a whole trace

-- 12 before 13 before 14
judged : (takes knows agreed : Bool) (i : ℕ) (rest : Result Run Refused) →
    on_refusal (step_refusal (cond takes (cond knows Taken Lacking) NotPermitted) agreed) i rest
    ≡ cond takes (cond agreed (on_outcome (cond takes (cond knows Taken Lacking) NotPermitted) i rest) (refused_at Differs i)) (refused_at Unpermitted i)
judged true true true i rest = refl
judged true true false i rest = refl
judged true false true i rest = refl
judged true false false i rest = refl
judged false knows agreed i rest = refl

-- the loop along a trace compares each step as the definition does
walked-retrace : (S : Set) (trace : List ℕ) (h : Held) (w : Option Cell) (i n : ℕ) →
    walked S (trace_choice trace) (trace_agrees trace) h w i n ≡ retrace S h w i n (drop (step_length * i) trace)
unfolding walked retrace outcome
walked-retrace S trace h w i zero = refl
walked-retrace S trace h w i (suc n) =
    let c = step_choice (drop (step_length * i) trace) in
    let equal = same (take step_length (drop (step_length * i) trace)) (trace_step S h.state w c) in
    let p : step_length * i + step_length ≡ step_length * suc i = omega arith in
    ap (on_refusal (step_refusal (outcome S h c) equal) i) (walked-retrace S trace (advanced S h c) (written S h.state c) (suc i) n
    ∙ ap (retrace S (advanced S h c) (written S h.state c) (suc i) n) (sym (drop-drop step_length (step_length * i) trace ∙ ap (λ (k : ℕ). drop k trace) p)))
    ∙ judged (takes S h.state c) (knows_all h.known (reads S h.state c)) equal i (retrace S (advanced S h c) (written S h.state c) (suc i) n (drop step_length (drop (step_length * i) trace)))

-- ---- the calls

-- by a schedule the loop is the definition's run, where there is room for its trace
pub over-followed : (S : Set) (map schedule : List ℕ) (room : ℕ) → length schedule ≤ room / step_length →
    walked_over S map (schedule_choice schedule) schedule_agrees (length schedule) ≡ followed S map schedule room
unfolding walked_over followed
over-followed S map schedule room roomy =
    ap₂ (λ (b : Bool) (r : Result Run Refused). cond b r (Err (of_call Length)))
    (sym (and_yes (limits S map (length schedule)) (leb (length schedule) (room / step_length)) (le-leb (length schedule) (room / step_length) roomy)))
    (walked-follow S (schedule_choice schedule) (begin map) no_write 0 (length schedule)
    ∙ ap (follow S (begin map) 0) (schedule-choices_from S schedule 0 (length schedule) (omega arith)))
  where
    and_yes : (b t : Bool) → t ≡ true → (b && t) ≡ b
    and_yes true t e = e
    and_yes false t e = refl

-- and along a trace it retraces it
pub over-retraced : (S : Set) (map trace : List ℕ) →
    walked_over S map (trace_choice trace) (trace_agrees trace) (length trace / step_length) ≡ retraced S map trace
unfolding walked_over retraced
over-retraced S map trace =
    ap (λ (r : Result Run Refused). cond (limits S map (length trace / step_length)) r (Err (of_call Length)))
    (walked-retrace S trace (begin map) no_write 0 (length trace / step_length))

-- within the limits a run is what the definition says
module _ (S : Set) (map : List ℕ) (few : S.threads ≤ 4) (cells-few : cells map ≤ 256) where
  pub followed-within : (schedule : List ℕ) (room : ℕ) → length schedule ≤ 64 → length schedule ≤ room / step_length → followed S map schedule room ≡ follow S (begin map) 0 (choices schedule)
  unfolding followed
  followed-within schedule room short fits = chosen _ _ (and_true (and_true (and_true (le-leb _ _ few) (le-leb (cells map) 256 cells-few)) (le-leb _ _ short)) (le-leb (length schedule) (room / step_length) fits))

  pub retraced-within : (trace : List ℕ) → length trace / step_length ≤ 64 → retraced S map trace ≡ retrace S (begin map) no_write 0 (length trace / step_length) trace
  unfolding retraced
  retraced-within trace short = chosen _ _ (and_true (and_true (le-leb _ _ few) (le-leb (cells map) 256 cells-few)) (le-leb (length trace / step_length) 64 short))
