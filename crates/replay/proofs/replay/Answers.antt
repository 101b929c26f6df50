-- `replay::replay` meets its contract. Assumes nothing.
use Rattle.std.proofs.Common.{Err, ap, eq-eqb, eqb, le-leb, leb, length, ne_eqb, rules, sym, ◌%◌, ◌/◌, ◌∙◌, ◌≡◌, ◌≤◌}
use borrow.Author.Tests.{lt-leb}
use Rattle.base.proofs.Choice.{chosen, passed, and_true, and_false, and_left, and_right, and_right_false}
use Rattle.records.specs.Maps.{cells, map_accepted, run_cells}
use Rattle.records.specs.Refusals.{of_call}
use Rattle.records.specs.Sets.{Set, set_accepted, set_by}
use Rattle.records.specs.declared.refusals.Refusal.{Refusal}
use Rattle.records.specs.declared.refusals.Refused.{Refused}
use Rattle.records.proofs.Layouts.{few-threads, set-read}
use Rattle.records.proofs.Maps.{few-cells}
use Rattle.machine.specs.Traces.{step_length}
use Rattle.replay.specs.Replay.{limited_trace, replayed}
use Rattle.step.proofs.Runs.{retraced-within}
use Rattle.replay.proofs.replay.Goals as goal

pub returns-in_err-layout : goal.returns-in_err-layout
unfolding replayed
returns-in_err-layout c =
    let is : c.from_residual.result ≡ Err (of_call c.in_err-layout.field-0.0) = search rules in
    is ∙ ap (λ (r : Refusal). Err (of_call r)) c.in_err-layout.ensures.1 ∙ sym (passed _ _ c.in_err-layout.ensures.0)

pub returns-then-trace-ne0 : goal.returns-then-trace-ne0
unfolding replayed limited_trace
returns-then-trace-ne0 c =
    let t = c.args.trace.now in
    ap (λ (r : Refused). Err r) c.into.ensures
    ∙ sym (chosen _ _ c.in_ok-layout.ensures.0 ∙ passed _ _ (and_false (leb (length t / step_length) 64) (ne_eqb _ _ c.if-trace-ne0.true)))

pub returns-then-trace-gt-STEPS : goal.returns-then-trace-gt-STEPS
unfolding replayed limited_trace
returns-then-trace-gt-STEPS c =
    let t = c.args.trace.now in
    ap (λ (r : Refused). Err r) c.into-then-trace-gt-STEPS.ensures
    ∙ sym (chosen _ _ c.in_ok-layout.ensures.0 ∙ passed _ _ (and_right_false (eqb (length t % step_length) 0) (lt-leb _ _ c.if-trace-gt-STEPS.true)))

pub returns : goal.returns
unfolding replayed limited_trace
returns c =
    let a = c.args in
    let e = c.in_ok-layout.ensures in
    let good = and_left (set_accepted a.set.now) (map_accepted run_cells a.map.now) e.0 in
    let few : cells a.map.now ≤ 256 = few-cells run_cells a.map.now (and_right (set_accepted a.set.now) (map_accepted run_cells a.map.now) e.0) in
    let short = c.if-trace-gt-STEPS.false in
    c.retrace.ensures
    ∙ retraced-within (set_by a.set.now c.in_ok-layout.layout) a.map.now (few-threads a.set.now _ e.1 good) few a.trace.now short
    ∙ sym (chosen _ _ (and_true (eq-eqb _ _ c.if-trace-ne0.false) (le-leb _ _ short)))
    ∙ ap (λ (S : Set). limited_trace S a.map.now a.trace.now) (set-read a.set.now c.in_ok-layout.layout e.1 good)
    ∙ sym (chosen _ _ e.0)
