-- `encoder_bases::statements::put_loaded` meets its contract. Assumes nothing.
use Rattle.std.proofs.Common.{ap, false, sym, true, ◌∙◌, ◌≡◌}
use Rattle.base.proofs.Choice.{chosen, passed}
use Rattle.encoding.specs.Steps.{loads}
use Rattle.encoding.specs.Slots.{slot, address, word_zero}
use Rattle.encoder_slots.specs.Places.{place_of}
use Rattle.records.specs.declared.Statement.{Statement}
use Rattle.encoder_bases.proofs.Given.{puts_as}
use Rattle.encoder_bases.proofs.statements.put_loaded.Goals as goal

pub returns-then-loads : goal.returns-then-loads
returns-then-loads c =
    let a = c.args in
    let found : loads a.statement.number ≡ true = cc in (
      λ S cs k e load v h. puts_as (chosen _ _ (ap (λ (s : Statement). loads s.number) (sym e) ∙ found))
          (c.put_load.ensures.0 (place_of a.slots.now) a.t (slot address a.t a.i) load c.place-address.ensures h),
      c.put_load.ensures.1,
    )

pub returns : goal.returns
returns c =
    let a = c.args in
    let found : loads a.statement.number ≡ false = cc in (
      λ S cs k e load v h. puts_as (passed _ _ (ap (λ (s : Statement). loads s.number) (sym e) ∙ found))
          (c.put_at.ensures.0 (place_of a.slots.now) a.n (slot word_zero 0 0) a.out.now v),
      c.put_at.ensures.1,
    )
