-- `encoder_bases::statements::put_active` meets its contract. Assumes nothing.
use Rattle.std.proofs.Common.{refl}
use Rattle.encoder_slots.specs.Places.{place_of}
use Rattle.encoding.specs.Slots.{slot, flag, choice}
use Rattle.table.specs.Programs.{and2}
use Rattle.encoder_bases.proofs.statements.put_active.Goals as goal

pub returns : goal.returns
returns c =
    let a = c.args in
    (λ v h. c.put_binary.ensures.0 (place_of a.slots.now) and2 (slot flag a.t a.i) (slot choice 0 a.t) refl refl c.flag_place-flag.ensures v, c.put_binary.ensures.1)
