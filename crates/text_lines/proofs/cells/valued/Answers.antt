-- `text_lines::cells::valued` meets its contract. Assumes nothing.
use Rattle.std.proofs.Common.{arith}
use Rattle.text_lines.specs.Characters.{value}
use Rattle.text_lines.specs.Lines.{valued}
use Rattle.text_lines.proofs.Values.{cell-capped}
use Rattle.text_lines.proofs.cells.valued.Goals as goal

pub returns : goal.returns
unfolding valued
returns c = grind (arith, cell-capped c.args.address (value c.args.s.now))
