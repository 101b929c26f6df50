-- `encoder_bases::statements::put_not_test` meets its contract. Assumes nothing.
use Rattle.std.proofs.Common.{refl}
use Rattle.encoder_slots.specs.Places.{place_of}
use Rattle.encoding.specs.Slots.{slot, test}
use Rattle.table.specs.Programs.{not1}
use Rattle.encoder_bases.proofs.Given.{gives_unary}
use Rattle.encoder_bases.proofs.statements.put_not_test.Goals as goal

pub returns : goal.returns
returns c =
    let a = c.args in (
      λ h. c.put_one.ensures.0 (place_of a.slots.now) _
          (gives_unary (place_of a.slots.now) a.n _ not1 (slot test a.t a.i) (refl, (refl, refl)) c.place-holds.ensures),
      c.put_one.ensures.1,
    )
