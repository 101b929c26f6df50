-- `listing_output::finish` meets its contract: simulation's answer is told by its cases. Assumes nothing.
use Rattle.std.proofs.Common.{ap, ◌∙◌}
use Rattle.listing_output.specs.Listings.{refused_line}
use Rattle.listing_output.specs.Outputs.{last_of}
use Rattle.listing_output.proofs.Texts.{prints_as}
use Rattle.listing_output.proofs.finish.Goals as goal

pub returns-in-Ok : goal.returns-in-Ok
unfolding last_of
returns-in-Ok c = prints_as (ap last_of c.in-Ok.ensures.0) c.last.ensures

pub returns-in-Err : goal.returns-in-Err
unfolding last_of
returns-in-Err c = prints_as (ap refused_line c.number.ensures ∙ ap last_of c.in-Err.ensures.0) c.refusal.ensures
