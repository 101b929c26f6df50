-- `text_lines::statements::worded` meets its contract. Assumes nothing.
use Rattle.std.proofs.Common.{arith}
use Rattle.text_lines.specs.Lines.{worded}
use Rattle.text_lines.proofs.statements.worded.Goals as goal

pub returns : goal.returns
unfolding worded
returns c = grind arith
