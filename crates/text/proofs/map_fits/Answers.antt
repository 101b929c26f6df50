-- `text::map_fits` meets its contract. Assumes nothing.
use Rattle.std.proofs.Common.{arith, length, sym}
use Rattle.text.specs.Answers.{map_fits}
use Rattle.base.proofs.Choice.{passed, and_false}
use borrow.Author.Tests.{lt-leb}
use Rattle.text.proofs.map_fits.Goals as goal

pub returns-then-n-gt-MAP_CELLS-clause-judged : goal.returns-then-n-gt-MAP_CELLS-clause-judged
unfolding map_fits
returns-then-n-gt-MAP_CELLS-clause-judged c = λ cs st.
    sym (passed _ _ (and_false _ (lt-leb (length cs) 128 (st.many (omega (arith, c.if-n-gt-MAP_CELLS.true, c.from-n.ensures))))))
