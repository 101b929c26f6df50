-- `listing_output::candidate` meets its contract. Assumes nothing.
use Rattle.std.proofs.Common.{le-ltb, lt-ltb, sym}
use Rattle.base.proofs.Choice.{chosen, passed}
use Rattle.listing_output.proofs.candidate.Goals as goal

pub returns-then-j-lt-THREADS : goal.returns-then-j-lt-THREADS
returns-then-j-lt-THREADS c = sym (chosen _ _ (lt-ltb _ _ c.if-j-lt-THREADS.true))

pub returns : goal.returns
returns c = sym (passed _ _ (le-ltb _ _ c.if-j-lt-THREADS.false))
