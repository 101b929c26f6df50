-- `step::acting::marks_after` meets its contract. Assumes nothing.
use Rattle.std.proofs.Common.{le-ltb, lt-ltb, sym, ◌∙◌}
use Rattle.base.proofs.Choice.{chosen, passed}
use Rattle.step.proofs.acting.marks_after.Goals as goal

pub returns-then-t-lt-THREADS : goal.returns-then-t-lt-THREADS
returns-then-t-lt-THREADS c = c.marks_settled.ensures ∙ sym (chosen _ _ (lt-ltb _ _ c.if-t-lt-THREADS.true))

pub returns : goal.returns
returns c = sym (passed _ _ (le-ltb _ _ c.if-t-lt-THREADS.false))
