-- `encoder_bases::statements::put_address` meets its contract. Assumes nothing.
use Rattle.std.proofs.Common.{ap, eq-eqb, eqb, ne_eqb, refl, sym, ◌∙◌}
use Rattle.base.proofs.Choice.{chosen, passed}
use Rattle.encoding.specs.Slots.{slot, argument}
use Rattle.encoder_slots.specs.Places.{place_of}
use Rattle.records.specs.declared.Statement.{Statement}
use Rattle.encoder_bases.proofs.Given.{puts_as}
use Rattle.encoder_bases.proofs.statements.put_address.Goals as goal

pub returns-then-statement-eq1 : goal.returns-then-statement-eq1
returns-then-statement-eq1 c =
    let a = c.args in (
      λ S cs k e load h. puts_as (chosen _ _ (ap (λ (s : Statement). eqb s.mode 1) (sym e) ∙ eq-eqb _ _ c.if-statement-eq1.true))
          (c.put_load.ensures.0 (place_of a.slots.now) a.t (slot argument a.t a.i) load c.place-argument.ensures h),
      c.put_load.ensures.1,
    )

pub returns : goal.returns
returns c =
    let a = c.args in (
      λ S cs k e load h. puts_as (passed _ _ (ap (λ (s : Statement). eqb s.mode 1) (sym e) ∙ ne_eqb _ _ c.if-statement-eq1.false))
          (c.put_none.ensures.0 a.n argument a.out.now refl refl),
      c.put_none.ensures.1,
    )
