-- `simulation::simulate` meets its contract. Assumes nothing.
use Rattle.std.proofs.Common.{Err, Result, List, ap, arith, le-ltb, length, lt-ltb, refl, rules, sym, take, true, ℕ, ◌&&◌, ◌*◌, ◌∙◌, ◌≡◌, ◌≤◌}
use Rattle.base.specs.Bytes.{over, placed}
use Rattle.base.proofs.Bytes.{placed-over}
use Rattle.base.proofs.Choice.{chosen, passed, and_left, and_right}
use Rattle.records.specs.Maps.{cells, map_accepted, map_value, run_cells}
use Rattle.records.specs.Refusals.{of_call}
use Rattle.records.specs.Sets.{Set, set_accepted, set_by, layout_of}
use Rattle.records.specs.declared.Layout.{Layout}
use Rattle.records.specs.declared.refusals.Refusal.{Refusal}
use Rattle.records.specs.declared.refusals.Refused.{Refused}
use Rattle.records.proofs.Layouts.{few-threads, set-read}
use Rattle.records.proofs.Maps.{few-cells}
use Rattle.machine.specs.Machine.{start, no_write}
use Rattle.machine.specs.Runs.{choices}
use Rattle.machine.specs.Traces.{trace, longest_trace, step_length}
use Rattle.machine.specs.declared.Run.{Run}
use Rattle.machine.proofs.Runs.{length-trace, length-choices}
use Rattle.step.specs.Runs.{followed, refused_by}
use Rattle.step.proofs.Runs.{followed-within}
use Rattle.simulation.specs.Simulation.{limited, simulated, schedule_trace, output_over}
use Rattle.simulation.proofs.simulate.Goals as goal

-- where the run is made it decides the answer
module _ (set map schedule : List ℕ) (room : ℕ) (layout : Layout) (e : ((set_accepted set && map_accepted run_cells map) ≡ true) × (layout ≡ layout_of set))
    (short : length schedule ≤ 64) (roomy : step_length * length schedule ≤ room) where
  good : set_accepted set ≡ true
  good = and_left (set_accepted set) (map_accepted run_cells map) e.0

  few : cells map ≤ 256
  few = few-cells run_cells map (and_right (set_accepted set) (map_accepted run_cells map) e.0)

  decided : followed (set_by set layout) map schedule longest_trace ≡ simulated set map schedule room
  unfolding simulated limited
  decided =
      followed-within (set_by set layout) map (few-threads set _ e.1 good) few schedule longest_trace short short
      ∙ sym (passed _ _ (le-ltb _ _ short) ∙ passed _ _ (le-ltb _ _ roomy))
      ∙ ap (λ (S : Set). limited S map schedule room) (set-read set layout e.1 good)
      ∙ sym (chosen _ _ e.0)

-- a refused call writes nothing
unwritten : (r : Result Run Refused) (refused : Refused) (trace out : List ℕ) → r ≡ Err refused → out ≡ output_over r trace out
unwritten r refused trace out e = sym (ap (λ (z : Result Run Refused). output_over z trace out) e)

pub returns-in_err-layout : goal.returns-in_err-layout
unfolding simulated
returns-in_err-layout c =
    let is : c.from_residual.result ≡ Err (of_call c.in_err-layout.field-0.0) = search rules in
    let e = is ∙ ap (λ (r : Refusal). Err (of_call r)) c.in_err-layout.ensures.1 in
    (e ∙ sym (passed _ _ c.in_err-layout.ensures.0), unwritten _ _ _ c.args.trace.now is)

pub returns-then-n-gt-STEPS : goal.returns-then-n-gt-STEPS
unfolding simulated limited
returns-then-n-gt-STEPS c =
    (ap (λ (r : Refused). Err r) c.into.ensures ∙ sym (chosen _ _ c.in_ok-layout.ensures.0 ∙ chosen _ _ (lt-ltb _ _ c.if-n-gt-STEPS.true)), refl)

pub returns-then-trace-n : goal.returns-then-trace-n
unfolding simulated limited
returns-then-trace-n c = (
  ap (λ (r : Refused). Err r) c.into-then-trace-n.ensures
      ∙ sym (chosen _ _ c.in_ok-layout.ensures.0 ∙ passed _ _ (le-ltb _ _ c.if-n-gt-STEPS.false) ∙ chosen _ _ (lt-ltb _ _ c.if-trace-n.true)),
  refl,
)

pub returns-in_err-run : goal.returns-in_err-run
returns-in_err-run c =
    let a = c.args in
    let is : c.from_residual-in_err-run.result ≡ Err (refused_by c.in_err-run.field-0.0) = search rules in (
      is ∙ c.in_err-run.ensures.0 ∙ decided a.set.now a.map.now a.schedule.now (length a.trace.now) c.in_ok-layout.layout c.in_ok-layout.ensures c.if-n-gt-STEPS.false c.if-trace-n.false,
      unwritten _ _ _ a.trace.now is,
    )

pub returns : goal.returns
unfolding schedule_trace
returns c =
    let a = c.args in
    let layout = c.in_ok-layout.layout in
    let e = c.in_ok-layout.ensures in
    let short = c.if-n-gt-STEPS.false in
    let roomy = c.if-trace-n.false in
    let tr : Set → List ℕ = λ S. trace S (start (map_value a.map.now)) no_write (choices a.schedule.now) in
    let S = set_by a.set.now layout in
    let long : length (tr S) ≡ step_length * length a.schedule.now = length-trace S _ no_write (choices a.schedule.now) ∙ ap (λ (n : ℕ). step_length * n) (length-choices a.schedule.now) in
    let whole : take (step_length * length a.schedule.now) c.follow.new.trace ≡ tr S = ap (λ (n : ℕ). take n c.follow.new.trace) (sym long) ∙ c.in_ok-run.ensures.2 in (
      c.in_ok-run.ensures.0 ∙ decided a.set.now a.map.now a.schedule.now (length a.trace.now) layout e short roomy,
      c.place.ensures ∙ ap (placed a.trace.now 0) whole ∙ placed-over a.trace.now (tr S) (omega (arith, long, roomy))
          ∙ ap (λ (Z : Set). over (tr Z) a.trace.now) (set-read a.set.now layout e.1 (good a.set.now a.map.now a.schedule.now (length a.trace.now) layout e short roomy)),
    )
