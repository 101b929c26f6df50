-- `listing_output::output::put` meets its contract: there is room for none, for some or for all of the bytes. Assumes nothing.
use Rattle.std.proofs.Common.{arith, length-take-le, sym}
use Rattle.listing_output.proofs.Texts.{put-none, put_all, put_some}
use Rattle.listing_output.proofs.output.put.Goals as goal

pub returns-then-end-at : goal.returns-then-end-at
returns-then-end-at c = λ before xs s. put-none before xs _ _ s _ c.if-end-at.true

pub slice_bounds-place-end : goal.slice_bounds-place-end
slice_bounds-place-end c = sym (length-take-le _ _ (omega arith))

pub returns-then-room-n : goal.returns-then-room-n
returns-then-room-n c = λ before xs s. put_some before xs _ _ s _ c.if-end-at.false c.if-room-n.true c.place.ensures

pub returns : goal.returns
returns c = λ before xs s. put_all before xs _ _ s _ c.if-end-at.false (omega arith) c.place-2.ensures
