-- `encoder_bases::state::put_memory` meets its contract. Assumes nothing.
use Rattle.std.proofs.Common.{refl}
use Rattle.encoder_slots.specs.Places.{place_of}
use Rattle.encoding.specs.Slots.{slot, shared_memory, write_to, write_value}
use Rattle.table.specs.Programs.{write3}
use Rattle.encoder_bases.proofs.Given.{gives_ternary}
use Rattle.encoder_bases.proofs.state.put_memory.Goals as goal

pub returns : goal.returns
returns c =
    let a = c.args in (
      c.put_one.ensures.0 (place_of a.slots.now) _
          (gives_ternary (place_of a.slots.now) a.n _ write3 (slot shared_memory 0 0) (slot write_to 0 a.threads) (slot write_value 0 a.threads) (refl, (refl, refl)) c.place-memory.ensures (rw c.from.ensures at c.place-address.ensures) (rw c.from-2.ensures at c.place-value.ensures)),
      c.put_one.ensures.1,
    )
