-- `encoder_bases::state::put_shut` meets its contract. Assumes nothing.
use Rattle.std.proofs.Common.{refl}
use Rattle.encoder_slots.specs.Places.{place_of}
use Rattle.encoding.specs.Slots.{slot, opening}
use Rattle.table.specs.Programs.{not1}
use Rattle.encoder_bases.proofs.Given.{gives_unary}
use Rattle.encoder_bases.proofs.state.put_shut.Goals as goal

pub returns : goal.returns
returns c =
    let a = c.args in
    (c.put_one.ensures.0 (place_of a.slots.now) _ (gives_unary (place_of a.slots.now) a.n _ not1 (slot opening 0 a.p) (refl, (refl, refl)) c.place-opening.ensures), c.put_one.ensures.1)
