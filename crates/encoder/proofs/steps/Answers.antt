-- `encoder::steps` meets its contract. Assumes nothing.
use Rattle.std.proofs.Common.{arith, refl, rules, ◌+◌, ◌≤◌}
use Rattle.set_index.specs.Points.{listed}
use Rattle.encoder_slots.proofs.Idle.{idle-step}
use Rattle.encoding.specs.Steps.{step}
use Rattle.records.specs.Sets.{set_by}
use Rattle.encoder_step.specs.Entries.{step_room}
use Rattle.encoder_slots.proofs.Ready.{ready-after}
use Rattle.encoder_slots.proofs.Pieces.{writes-row, writes_more}
use Rattle.table.specs.Repeats.{last_index}
use Rattle.encoder.proofs.steps.Goals as goal

pub loop-k-init : goal.loop-k-init
loop-k-init c =
    let a = c.args in
    let l = c.requires.0 in
    (omega arith, omega arith, refl, refl, l, writes-row (step (set_by a.set.now a.layout) (listed a.points)) a.out.now a.slots.now a.n)

pub loop-k-preserved : goal.loop-k-preserved
loop-k-preserved c =
    let a = c.args in
    let l = c.loop-k in
    let r = c.one_step-next in
    let f = step (set_by a.set.now a.layout) (listed a.points) in
    let q = c.requires in
    let little = q.1 in
    let most = l.invariant.0 in
    let so_far = l.invariant.1 in
    let room : l.next + step_room ≤ last_index = omega arith in
    let more = r.ensures.1 in
    let w = r.ensures.0 l.invariant.4 room in (
      l.invariant.0,
      omega arith,
      search rules,
      search rules,
      ready-after (f l.k) (idle-step (set_by a.set.now a.layout) (listed a.points) l.k) w l.invariant.4,
      writes_more f l.k a.out.now a.slots.now a.n _ _ _ _ _ _ l.invariant.5 w,
    )
