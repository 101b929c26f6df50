-- `listing_output::output::item` meets its contract. Assumes nothing.
use Rattle.listing_output.specs.Listings.{decimal, text}
use Rattle.listing_output.proofs.Texts.{prints_both}
use Rattle.listing_output.proofs.output.item.Goals as goal

pub returns : goal.returns
returns c =
    prints_both (decimal c.args.n) (text " ") c.number-next.ensures c.put.ensures
