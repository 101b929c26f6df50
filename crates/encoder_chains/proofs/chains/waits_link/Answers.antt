-- `encoder_chains::chains::waits_link` meets its contract. Assumes nothing.
use Rattle.encoding.specs.Slots.{slot, held}
use Rattle.encoder_slots.specs.Places.{place_of}
use Rattle.encoder_chains.proofs.Leads.{or_placed}
use Rattle.encoder_chains.proofs.chains.waits_link.Goals as goal

pub returns : goal.returns
returns c = λ S cs named row column.
    let a = c.args in
    or_placed (place_of a.slots.now) ((rw c.from-point.ensures at c.contains.ensures) S cs named row column) (slot held a.t a.p) (rw c.from-point.ensures at c.place-held.ensures) c.then_some.ensures
