-- `listing_output::lines::last` meets its contract, by the definition's cases. Assumes nothing.
use Rattle.std.proofs.Common.{ap, append_assoc, sym}
use Rattle.listing_output.specs.Listings.{last_line}
use Rattle.listing_output.proofs.Texts.{stands_as, prints_as}
use Rattle.listing_output.proofs.lines.last.Goals as goal

pub returns-in-Code : goal.returns-in-Code
unfolding last_line
returns-in-Code c =
    prints_as (sym (ap last_line c.in-Code.is))
    (λ before xs s. stands_as (c.put.ensures _ xs (c.number-next.ensures _ xs (c.put-word.ensures before xs s))) (simp append_assoc))

pub returns-in-Stuck : goal.returns-in-Stuck
unfolding last_line
returns-in-Stuck c = prints_as (sym (ap last_line c.in-Stuck.is)) c.put-in-Stuck.ensures

pub returns-in-Open : goal.returns-in-Open
unfolding last_line
returns-in-Open c = prints_as (sym (ap last_line c.in-Open.is)) c.put-in-Open.ensures
