-- `step::acting::not_taken` meets its contract. Assumes nothing.
use Rattle.std.proofs.Common.{ap}
use Rattle.machine.specs.Machine.{no_write}
use Rattle.machine.specs.declared.Thread.{Thread}
use Rattle.step.proofs.acting.not_taken.Goals as goal

pub returns : goal.returns
returns c = ap (λ (x : Thread). record { outcome = c.args.outcome; statement = c.args.statement; thread = x; filled = c.args.filled; wrote = no_write; read = c.args.read }) c.fresh-thread.ensures
