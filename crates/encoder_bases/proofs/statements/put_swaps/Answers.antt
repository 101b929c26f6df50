-- `encoder_bases::statements::put_swaps` meets its contract. Assumes nothing.
use Rattle.std.proofs.Common.{ap, eqb, refl, sym, ◌∙◌}
use Rattle.base.proofs.Choice.{chosen, passed}
use Rattle.encoder_slots.specs.Places.{place_of}
use Rattle.encoding.specs.Slots.{slot, active, address, mem, shared_memory, bit_zero}
use Rattle.records.specs.declared.Statement.{Statement}
use Rattle.encoder_bases.proofs.Given.{puts_as, gives_swaps}
use Rattle.encoder_bases.proofs.statements.put_swaps.Goals as goal

pub returns-then-is : goal.returns-then-is
returns-then-is c =
    let a = c.args in (
      λ S cs k e v h. puts_as (chosen _ _ (ap (λ (s : Statement). eqb s.number 16) (sym e) ∙ (sym c.is.ensures ∙ c.if-is.true)))
          (c.put_three.ensures.0 (place_of a.slots.now) _ h
          (gives_swaps (place_of a.slots.now) a.n _ (slot active a.t a.i) (slot shared_memory 0 0) (slot address a.t a.i) (slot mem a.t 0) (refl, (refl, (refl, (refl, refl))))
          c.new-first.ensures (rw c.from-k.ensures at c.new-second.ensures) (rw c.from-k.ensures at c.new-third.ensures) c.place-active.ensures c.place-memory.ensures c.place-address.ensures c.place-mem.ensures)),
      c.put_three.ensures.1,
    )

pub returns : goal.returns
returns c =
    let a = c.args in (
      λ S cs k e v h. puts_as (passed _ _ (ap (λ (s : Statement). eqb s.number 16) (sym e) ∙ (sym c.is.ensures ∙ c.if-is.false)))
          (c.put_at.ensures.0 (place_of a.slots.now) a.n (slot bit_zero 0 0) a.out.now v),
      c.put_at.ensures.1,
    )
