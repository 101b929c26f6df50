-- `listing_output::lines::line` meets its contract: its parts stand one after the other. Assumes nothing.
use Rattle.std.proofs.Common.{append_assoc}
use Rattle.listing_output.specs.Outputs.{line_at}
use Rattle.listing_output.proofs.Texts.{stands_as}
use Rattle.listing_output.proofs.lines.line.Goals as goal

pub returns : goal.returns
unfolding line_at
returns c =
    λ before xs s. stands_as (c.put.ensures _ xs (c.cell-wrote.ensures _ xs (c.registers-held.ensures _ xs (c.act-acted.ensures before xs s)))) (simp append_assoc)
