-- `listing_output::list` meets its contract: the empty schedule runs exactly where set and map are accepted. Assumes nothing.
use Rattle.std.proofs.Common.{[], ap, sym, ◌∙◌}
use Rattle.listing_output.specs.Listings.{refused_line}
use Rattle.listing_output.proofs.Listed.{ran-accepts, refused-listing, accepted-listing}
use Rattle.listing_output.proofs.Texts.{stands-none, stands_as}
use Rattle.listing_output.proofs.list.Goals as goal

pub run-requires : goal.run-requires
run-requires c = ran-accepts _ _ (sym c.in-Ok.ensures.0)

pub returns-in-Ok : goal.returns-in-Ok
returns-in-Ok c =
    let a = c.args in
    let s = stands_as c.run.ensures (accepted-listing a.set.now a.map.now (ran-accepts _ _ (sym c.in-Ok.ensures.0))) in
    (s.place, s.bytes)

pub returns-in-Err : goal.returns-in-Err
returns-in-Err c =
    let a = c.args in
    let s = stands_as (c.refusal.ensures [] a.out.now (stands-none a.out.now)) (ap refused_line c.number.ensures ∙ refused-listing a.set.now a.map.now _ (sym c.in-Err.ensures.0)) in
    (s.place, s.bytes)
