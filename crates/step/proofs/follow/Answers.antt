-- `step::follow` meets its contract. Assumes nothing.
use Rattle.std.proofs.Common.{Err, List, ap, arith, length, subst, sym, ◌*◌, ◌/◌, ◌∙◌, ◌≡◌, ◌≤◌}
use borrow.Author.Tests.{lt-leb}
use Rattle.base.proofs.Choice.{passed, and_right_false}
use Rattle.records.specs.Maps.{map_value}
use Rattle.records.specs.Sets.{set_by}
use Rattle.records.specs.declared.refusals.Refusal.TheVariants.{LacksCell, Length}
use Rattle.records.specs.declared.refusals.Refused.{Refused}
use Rattle.machine.specs.Machine.{start, no_write}
use Rattle.machine.specs.Maps.{begin}
use Rattle.machine.specs.Traces.{trace, step_length}
use Rattle.machine.specs.declared.Choice.{Choice}
use Rattle.step.specs.Runs.{Begins, Lacks, limits, followed}
use Rattle.step.proofs.Runs.{over-followed, schedule-lacked, schedule-choices_from}
use Rattle.step.proofs.follow.Goals as goal

pub returns-then-trace-schedule : goal.returns-then-trace-schedule
unfolding followed
returns-then-trace-schedule c =
    let a = c.args in
    let is = c.into.ensures in (
      ap (λ (r : Refused). Err r) is
          ∙ sym (passed _ _ (and_right_false (limits (set_by a.set.now a.layout) a.map.now (length a.schedule.now)) (lt-leb (length a.schedule.now) (length a.trace.now / step_length) c.if-trace-schedule.true))),
      λ e. let z : Length ≡ LacksCell = ap (λ (r : Refused). r.refusal) (sym is) ∙ e in cc,
      tt,
    )

pub returns : goal.returns
returns c =
    let a = c.args in
    let e = c.walk.ensures in
    let S = set_by a.set.now a.layout in
    let roomy = c.if-trace-schedule.false in
    let fits : step_length * length a.schedule.now ≤ length a.trace.now = omega (arith, roomy) in (
      e.0 ∙ over-followed S a.map.now a.schedule.now (length a.trace.now) roomy,
      subst (Lacks c.walk.result) (schedule-lacked S a.schedule.now (begin a.map.now)) e.1,
      subst (λ (run : List Choice). Begins c.walk.result (trace S (start (map_value a.map.now)) no_write run) c.walk.new.trace)
          (schedule-choices_from S a.schedule.now 0 (length a.schedule.now) (omega arith)) (e.2 fits),
    )
