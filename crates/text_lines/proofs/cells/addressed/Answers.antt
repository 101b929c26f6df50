-- `text_lines::cells::addressed` meets its contract. Assumes nothing.
use Rattle.std.proofs.Common.{arith}
use Rattle.text_lines.specs.Characters.{value, skip, past_digits}
use Rattle.text_lines.specs.Lines.{addressed}
use Rattle.text_lines.proofs.Values.{valued-capped}
use Rattle.text_lines.proofs.cells.addressed.Goals as goal

pub returns : goal.returns
unfolding addressed
returns c = grind (arith, valued-capped (skip (past_digits c.args.s.now)) (value c.args.s.now))
