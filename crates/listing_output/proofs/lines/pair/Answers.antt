-- `listing_output::lines::pair` meets its contract: its texts stand one after the other. Assumes nothing.
use Rattle.std.proofs.Common.{append_assoc}
use Rattle.listing_output.proofs.Texts.{stands_as}
use Rattle.listing_output.proofs.lines.pair.Goals as goal

pub returns : goal.returns
returns c = λ before xs s. stands_as (c.put.ensures _ xs (c.number-second.ensures _ xs (c.put-comma.ensures _ xs (c.number-first.ensures _ xs (c.put-inside.ensures before xs s))))) (simp append_assoc)
