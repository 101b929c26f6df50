-- `encoder_bases::written::put_none` meets its contract. Assumes nothing.
use Rattle.std.proofs.Common.{arith, ◌∙◌}
use Rattle.encoder_slots.specs.Places.{place_of, place_from}
use Rattle.encoding.specs.Slots.{slot}
use Rattle.encoder_bases.proofs.Given.{puts_ref}
use Rattle.encoder_bases.proofs.written.put_none.Goals as goal

pub returns : goal.returns
returns c =
    let a = c.args in
    (λ n k out e f. puts_ref (place_of a.slots.now) n (slot k a.a a.b) out (c.place-root.ensures ∙ (λ z. place_from a.slots.now (e z) a.a a.b (f z))), omega arith)
