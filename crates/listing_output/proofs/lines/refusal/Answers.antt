-- `listing_output::lines::refusal` meets its contract: its texts stand one after the other. Assumes nothing.
use Rattle.std.proofs.Common.{◌++◌, ap}
use Rattle.listing_output.specs.Listings.{text, decimal, refused_line}
use Rattle.listing_output.proofs.Texts.{prints_as, prints_both}
use Rattle.listing_output.proofs.lines.refusal.Goals as goal

pub returns : goal.returns
unfolding refused_line
returns c =
    let n = c.args.n in
    prints_both (text "refused ") (decimal n ++ text "\n") c.put-word.ensures (prints_both (decimal n) (text "\n") (prints_as (ap decimal c.from.ensures) c.number-next.ensures) c.put.ensures)
