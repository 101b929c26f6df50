-- `encoder_bases::state::put_full` meets its contract. Assumes nothing.
use Rattle.std.proofs.Common.{refl, ◌+◌}
use Rattle.encoder_slots.specs.Places.{place_of}
use Rattle.encoding.specs.Slots.{slot, choice, bit_zero, full}
use Rattle.table.specs.Programs.{if3}
use Rattle.encoder_bases.proofs.Given.{gives_ternary}
use Rattle.encoder_bases.proofs.state.put_full.Goals as goal

pub returns : goal.returns
returns c =
    let a = c.args in (
      c.put_one.ensures.0 (place_of a.slots.now) _
          (gives_ternary (place_of a.slots.now) a.n _ (if3 1) (slot choice 0 (a.threads + a.t)) (slot bit_zero 0 0) (slot full a.t 0) (refl, (refl, refl)) (rw (c.from.ensures, c.from-2.ensures) at c.place-flushes.ensures) c.place-zero.ensures c.place-full.ensures),
      c.put_one.ensures.1,
    )
