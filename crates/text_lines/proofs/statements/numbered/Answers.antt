-- `text_lines::statements::numbered` meets its contract. Assumes nothing.
use Rattle.std.proofs.Common.{arith}
use Rattle.text_lines.specs.Characters.{value}
use Rattle.text_lines.specs.Lines.{numbered}
use Rattle.text_lines.proofs.Values.{stated-capped}
use Rattle.text_lines.proofs.statements.numbered.Goals as goal

pub returns : goal.returns
unfolding numbered
returns c = grind (arith, stated-capped c.args.label c.args.number 0 (value c.args.s.now))
