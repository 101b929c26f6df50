-- `encoder_bases::statements::put_test` meets its contract. Assumes nothing.
use Rattle.std.proofs.Common.{refl, sym, ◌||◌, ◌∙◌}
use Rattle.base.proofs.Choice.{chosen, passed}
use Rattle.encoding.specs.Slots.{slot, accu, word_zero, bit_zero}
use Rattle.table.specs.Programs.{equal2, top1}
use Rattle.encoder_bases.proofs.Given.{gives_unary, gives_either, puts_as, puts_test}
use Rattle.encoder_bases.proofs.statements.put_test.Goals as goal

pub returns-then-is : goal.returns-then-is
returns-then-is c =
    let a = c.args in
    let zero = (λ i. sym c.is.ensures i || sym c.is-2.ensures i) ∙ c.if-is.true in (
      λ S cs k t i at e v w z h. puts_test S cs k t i _ (sym e) (puts_as (chosen _ _ zero)
          (c.put_binary.ensures.0 at equal2 (slot accu t 0) (slot word_zero 0 0) refl refl v w)),
      c.put_binary.ensures.1,
    )

pub returns-then-is-2 : goal.returns-then-is-2
returns-then-is-2 c =
    let a = c.args in
    let zero = (λ i. sym c.is.ensures i || sym c.is-2.ensures i) ∙ c.if-is.false in
    let top = (λ i. sym c.is-3.ensures i || sym c.is-4.ensures i) ∙ c.if-is-2.true in (
      λ S cs k t i at e v w z h. puts_test S cs k t i _ (sym e) (puts_as (passed _ _ zero ∙ chosen _ _ top)
          (c.put_one.ensures.0 at _ (gives_unary at a.n _ top1 (slot accu t 0) (refl, (refl, refl)) v))),
      c.put_one.ensures.1,
    )

pub returns-then-is-3 : goal.returns-then-is-3
returns-then-is-3 c =
    let a = c.args in
    let zero = (λ i. sym c.is.ensures i || sym c.is-2.ensures i) ∙ c.if-is.false in
    let top = (λ i. sym c.is-3.ensures i || sym c.is-4.ensures i) ∙ c.if-is-2.false in
    let both = sym c.is-5.ensures ∙ c.if-is-3.true in (
      λ S cs k t i at e v w z h. puts_test S cs k t i _ (sym e) (puts_as (passed _ _ zero ∙ passed _ _ top ∙ chosen _ _ both)
          (c.put_three.ensures.0 at _ h
          (gives_either at a.n _ (slot accu t 0) (slot word_zero 0 0) (refl, (refl, (refl, (refl, refl))))
          c.new-first.ensures c.new-second.ensures (rw c.from-k.ensures at c.new-third.ensures) v w))),
      c.put_three.ensures.1,
    )

pub returns : goal.returns
returns c =
    let a = c.args in
    let zero = (λ i. sym c.is.ensures i || sym c.is-2.ensures i) ∙ c.if-is.false in
    let top = (λ i. sym c.is-3.ensures i || sym c.is-4.ensures i) ∙ c.if-is-2.false in
    let both = sym c.is-5.ensures ∙ c.if-is-3.false in (
      λ S cs k t i at e v w z h. puts_test S cs k t i _ (sym e) (puts_as (passed _ _ zero ∙ passed _ _ top ∙ passed _ _ both)
          (c.put_at.ensures.0 at a.n (slot bit_zero 0 0) a.out.now z)),
      c.put_at.ensures.1,
    )
