-- `listing_output::lines::word` meets its contract. Assumes nothing.
use Rattle.listing_output.specs.Listings.{name, text}
use Rattle.listing_output.proofs.Texts.{prints_both}
use Rattle.listing_output.proofs.lines.word.Goals as goal

pub returns : goal.returns
returns c = prints_both (name c.args.n) (text " ") c.name-next.ensures c.put.ensures
