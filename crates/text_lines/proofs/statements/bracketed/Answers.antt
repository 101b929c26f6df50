-- `text_lines::statements::bracketed` meets its contract. Assumes nothing.
use Rattle.std.proofs.Common.{arith}
use Rattle.text_lines.specs.Characters.{value}
use Rattle.text_lines.specs.Lines.{bracketed}
use Rattle.text_lines.proofs.Values.{stated-capped}
use Rattle.text_lines.proofs.statements.bracketed.Goals as goal

pub returns : goal.returns
unfolding bracketed
returns c = grind (arith, stated-capped c.args.label c.args.number 1 (value c.args.s.now))
