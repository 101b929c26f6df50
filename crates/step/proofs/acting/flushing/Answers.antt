-- `step::acting::flushing` meets its contract. Assumes nothing.
use Rattle.std.proofs.Common.{refl}
use Rattle.machine.specs.Machine.{acted}
use Rattle.step.proofs.Settled.{set_with, state_with}
use Rattle.step.proofs.acting.flushing.Goals as goal

pub returns : goal.returns
unfolding acted
returns c =
    let a = c.args in
    let o = c.none-o.ensures in
    (o.0, c.updated-thread.ensures (set_with a.i) (state_with a.x (λ b. 0)) refl tt, refl, o.3)
