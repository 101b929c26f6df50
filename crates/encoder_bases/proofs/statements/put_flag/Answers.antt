-- `encoder_bases::statements::put_flag` meets its contract. Assumes nothing.
use Rattle.std.proofs.Common.{ap, eqb, false, refl, sym, true, ◌∙◌, ◌≡◌}
use Rattle.base.proofs.Choice.{chosen, passed, cast_test}
use Rattle.encoder_slots.specs.Places.{place_of}
use Rattle.encoding.specs.Steps.{rests}
use Rattle.encoding.specs.Slots.{slot, choice, bit_zero, flag}
use Rattle.table.specs.Programs.{if3}
use Rattle.records.specs.declared.Statement.{Statement}
use Rattle.encoder_bases.proofs.Given.{gives_ternary, puts_as}
use Rattle.encoder_bases.proofs.statements.put_flag.Goals as goal

pub returns-then-rests : goal.returns-then-rests
returns-then-rests c =
    let a = c.args in
    let found : rests a.statement.number ≡ true = cc in (
      λ S cs k e v w h. puts_as (chosen _ _ (ap (λ (s : Statement). rests s.number) (sym e) ∙ found))
          (c.put_none.ensures.0 a.n flag a.out.now refl (c.from.ensures ∙ cast_test (eqb a.i 0))),
      c.put_none.ensures.1,
    )

pub returns : goal.returns
returns c =
    let a = c.args in
    let found : rests a.statement.number ≡ false = cc in (
      λ S cs k e v w h. puts_as (passed _ _ (ap (λ (s : Statement). rests s.number) (sym e) ∙ found))
          (c.put_one.ensures.0 (place_of a.slots.now) _
          (gives_ternary (place_of a.slots.now) a.n _ (if3 1) (slot choice 0 a.t) (slot bit_zero 0 0) (slot flag a.t a.i) (refl, (refl, refl)) v w c.flag_place-flag.ensures)),
      c.put_one.ensures.1,
    )
