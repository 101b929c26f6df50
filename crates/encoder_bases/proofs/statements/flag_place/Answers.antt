-- `encoder_bases::statements::flag_place` meets its contract. Assumes nothing.
use Rattle.std.proofs.Common.{eqb, ◌∙◌}
use Rattle.base.proofs.Choice.{cast_test}
use Rattle.encoder_slots.specs.Places.{place_from}
use Rattle.encoder_bases.proofs.statements.flag_place.Goals as goal

pub returns : goal.returns
returns c = let a = c.args in c.place.ensures ∙ (λ z. place_from a.slots.now 31 a.t a.i ((c.from.ensures ∙ cast_test (eqb a.i 0)) z))
