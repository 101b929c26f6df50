-- `encoder_bases::state::put_may_execute` meets its contract. Assumes nothing.
use Rattle.std.proofs.Common.{refl}
use Rattle.encoder_slots.specs.Places.{place_of}
use Rattle.encoding.specs.Slots.{slot, full, barred, waits}
use Rattle.encoder_bases.proofs.Given.{gives_may}
use Rattle.encoder_bases.proofs.state.put_may_execute.Goals as goal

pub returns : goal.returns
returns c =
    let a = c.args in (
      λ h. c.put_three.ensures.0 (place_of a.slots.now) _ h
          (gives_may (place_of a.slots.now) a.n _ (slot full a.t 0) (slot barred a.t 0) (slot waits a.t 0) (refl, (refl, (refl, (refl, refl))))
          c.new-first.ensures (rw c.from-k.ensures at c.new-second.ensures) (rw c.from-k.ensures at c.new-third.ensures) c.place-full.ensures c.place-barred.ensures c.place-waits.ensures),
      c.put_three.ensures.1,
    )
