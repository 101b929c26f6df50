-- `set_index::points::points` meets its contract. Assumes nothing.
use Rattle.std.proofs.Common.{ap, arith, sym, take, ℕ, ◌∙◌, ◌≡◌}
use Rattle.encoding.specs.Checkpoints.{noted_below, checkpoints}
use Rattle.records.specs.Sets.{set_by}
use Rattle.set_index.proofs.Noted.{below-start, below_more}
use Rattle.set_index.proofs.points.of_set.Goals as goal

pub loop-t-init : goal.loop-t-init
loop-t-init c =
    let a = c.args in
    ap (take 8) (sym (below-start (set_by a.set.now a.layout)))

pub loop-t-preserved : goal.loop-t-preserved
loop-t-preserved c =
    let a = c.args in
    let l = c.loop-t in
    let S = set_by a.set.now a.layout in
    c.points_of-points.ensures (noted_below S l.t) l.invariant ∙ ap (take 8) (below_more S l.t)

pub returns : goal.returns
unfolding checkpoints
returns c =
    let a = c.args in
    let l = c.loop-t in
    let t-is : l.t ≡ a.layout.threads = omega arith in
    l.invariant ∙ ap (λ (t : ℕ). take 8 (noted_below (set_by a.set.now a.layout) t)) t-is
