-- `encoder_bases::state::put_flush_value` meets its contract. Assumes nothing.
use Rattle.std.proofs.Common.{refl}
use Rattle.encoder_slots.specs.Places.{place_of}
use Rattle.encoding.specs.Slots.{slot, shared_memory, write_to}
use Rattle.table.specs.Programs.{read2}
use Rattle.encoder_bases.proofs.state.put_flush_value.Goals as goal

pub returns : goal.returns
returns c =
    let a = c.args in
    (c.put_binary.ensures.0 (place_of a.slots.now) read2 (slot shared_memory 0 0) (slot write_to 0 a.threads) refl refl c.place-memory.ensures (rw c.from.ensures at c.place-address.ensures), c.put_binary.ensures.1)
