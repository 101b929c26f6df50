-- `cases::show_cases` meets its contract. The loop ends, since fewer bytes are left after each case.
use Rattle.std.proofs.Common.{length}
use Rattle.cases.proofs.show_cases.Given as goal

abbrev pub decreases-loop-left : goal.decreases-loop-left
decreases-loop-left g l = length l.left
