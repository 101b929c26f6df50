-- `encoder::further` meets its contract. Assumes nothing.
use Rattle.std.proofs.Common.{le-ltb, lt-ltb, sym}
use Rattle.base.proofs.Choice.{chosen, passed}
use Rattle.table.specs.Repeats.{moved_by}
use Rattle.encoder.proofs.further.Goals as goal

pub returns-then-x-from : goal.returns-then-x-from
unfolding moved_by
returns-then-x-from c = sym (chosen _ _ (lt-ltb _ _ (rw c.from.ensures at c.if-x-from.true)))

pub returns-else-x-from : goal.returns-else-x-from
unfolding moved_by
returns-else-x-from c = sym (passed _ _ (le-ltb _ _ (rw c.from.ensures at c.if-x-from.false)))
