-- `step::inputs::choice_of` meets its contract. Assumes nothing.
use Rattle.std.proofs.Common.{le-ltb, lt-ltb, sym}
use Rattle.machine.specs.Runs.{choice_of}
use Rattle.base.proofs.Choice.{chosen, passed}
use Rattle.step.proofs.inputs.choice_of.Goals as goal

pub returns-then-k-lt-FLUSH : goal.returns-then-k-lt-FLUSH
unfolding choice_of
returns-then-k-lt-FLUSH c = sym (chosen _ _ (lt-ltb _ _ c.if-k-lt-FLUSH.true))

pub returns : goal.returns
unfolding choice_of
returns c = sym (passed _ _ (le-ltb _ _ c.if-k-lt-FLUSH.false))
