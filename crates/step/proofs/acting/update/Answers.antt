-- `step::acting::update` meets its contract. Assumes nothing.
use Rattle.std.proofs.Common.{◌∙◌}
use Rattle.step.proofs.Settled.{acted-from}
use Rattle.step.proofs.acting.update.Goals as goal

pub returns : goal.returns
returns c =
    let a = c.args in
    λ S s e o. c.acted.ensures ∙ acted-from S s a.choice a.x.now a.i a.o.address a.o.word e o
