-- `encoder_bases::choices::put_none_before` meets its contract. Assumes nothing.
use Rattle.std.proofs.Common.{eq-eqb, ne_eqb, refl, ◌-◌}
use Rattle.base.proofs.Choice.{chosen, passed}
use Rattle.encoder_slots.specs.Places.{place_of}
use Rattle.encoding.specs.Slots.{slot, choice, none, bit_zero, bit_one}
use Rattle.table.specs.Programs.{if3}
use Rattle.encoder_bases.proofs.Given.{gives_ternary, puts_as}
use Rattle.encoder_bases.proofs.choices.put_none_before.Goals as goal

pub returns-then-j-eq0 : goal.returns-then-j-eq0
returns-then-j-eq0 c = let a = c.args in (puts_as (chosen _ _ (eq-eqb _ _ c.if-j-eq0.true)) (c.put_none.ensures.0 a.n bit_one a.out.now refl refl), c.put_none.ensures.1)

pub returns : goal.returns
returns c =
    let a = c.args in (
      puts_as (passed _ _ (ne_eqb _ _ c.if-j-eq0.false)) (c.put_one.ensures.0 (place_of a.slots.now) _
          (gives_ternary (place_of a.slots.now) a.n _ (if3 1) (slot choice 0 (a.j - 1)) (slot bit_zero 0 0) (slot none 0 (a.j - 1)) (refl, (refl, refl)) c.place-taken.ensures c.place-zero.ensures c.place-none.ensures)),
      c.put_one.ensures.1,
    )
