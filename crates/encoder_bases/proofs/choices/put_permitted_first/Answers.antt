-- `encoder_bases::choices::put_permitted_first` meets its contract. Assumes nothing.
use Rattle.std.proofs.Common.{refl}
use Rattle.encoder_slots.specs.Places.{place_of}
use Rattle.encoding.specs.Slots.{slot, none}
use Rattle.table.specs.Programs.{and2}
use Rattle.encoder_bases.proofs.choices.put_permitted_first.Goals as goal

pub returns : goal.returns
returns c =
    let a = c.args in
    (c.put_binary.ensures.0 (place_of a.slots.now) and2 _ (slot none 0 a.j) refl refl c.permit-permitted.ensures c.place-none.ensures, c.put_binary.ensures.1)
