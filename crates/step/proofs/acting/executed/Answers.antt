-- `step::acting::executed` meets its contract. Assumes nothing.
use Rattle.std.proofs.Common.{ap₂}
use Rattle.machine.specs.Machine.{with_pc}
use Rattle.step.proofs.acting.executed.Goals as goal

pub returns : goal.returns
returns c = ap₂ with_pc c.next_pc-pc.ensures c.row-y.ensures
