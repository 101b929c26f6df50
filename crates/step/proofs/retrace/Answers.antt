-- `step::retrace` meets its contract. Assumes nothing.
use Rattle.std.proofs.Common.{Err, ap, rules, sym, ◌∙◌, ◌≡◌}
use Rattle.records.specs.Sets.{set_by}
use Rattle.step.specs.Runs.{answered, refused_by}
use Rattle.step.proofs.Runs.{over-retraced}
use Rattle.step.proofs.retrace.Goals as goal

pub returns-in_err-run : goal.returns-in_err-run
returns-in_err-run c =
    let a = c.args in
    let is : c.from_residual.result ≡ Err (refused_by c.in_err-run.field-0.0) = search rules in
    is ∙ sym (ap answered c.in_err-run.was) ∙ c.walk.ensures.0 ∙ over-retraced (set_by a.set.now a.layout) a.map.now a.trace.now

pub returns : goal.returns
returns c =
    let a = c.args in
    sym (ap answered c.in_ok-run.was) ∙ c.walk.ensures.0 ∙ over-retraced (set_by a.set.now a.layout) a.map.now a.trace.now
