-- `encoder_chains::chains::opening_link` meets its contract. Assumes nothing.
use Rattle.encoding.specs.Slots.{slot, mark}
use Rattle.encoder_slots.specs.Places.{place_of}
use Rattle.encoder_chains.proofs.Leads.{and_placed}
use Rattle.encoder_chains.proofs.chains.opening_link.Goals as goal

pub returns : goal.returns
returns c = λ S cs named row column.
    let a = c.args in and_placed (place_of a.slots.now) (c.contains.ensures S cs named row column) (slot mark a.t a.p) c.place-mark.ensures c.then_some.ensures
