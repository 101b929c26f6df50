-- `listing_output::lines::argument` meets its contract, by the definition's cases. Assumes nothing.
use Rattle.std.proofs.Common.{Bool, ap, eq-eqb, eqb, ne_eqb, sym, ◌++◌, ◌||◌, ◌∙◌}
use Rattle.base.proofs.Choice.{chosen, passed}
use Rattle.listing_output.specs.Listings.{text, decimal, argument}
use Rattle.listing_output.proofs.Texts.{prints_both, prints_as}
use Rattle.listing_output.proofs.lines.argument.Goals as goal

pub returns-then-is_bare-i : goal.returns-then-is_bare-i
unfolding argument
returns-then-is_bare-i c =
    let i = c.args.i in
    prints_as (sym (chosen _ _ (ap (λ (b : Bool). b || eqb i.number 20) (sym c.is_bare.ensures) ∙ c.if-is_bare-i.true))) c.put.ensures

pub returns-then-i-eq1 : goal.returns-then-i-eq1
unfolding argument
returns-then-i-eq1 c =
    let i = c.args.i in
    prints_as
    (sym (passed _ _ (ap (λ (b : Bool). b || eqb i.number 20) (sym c.is_bare.ensures) ∙ c.if-is_bare-i.false) ∙ chosen _ _ (eq-eqb _ _ c.if-i-eq1.true)))
    (prints_both (text "[") (decimal i.argument ++ text "]") c.put-inside.ensures (prints_both (decimal i.argument) (text "]") c.number-next.ensures c.put-then-i-eq1.ensures))

pub returns : goal.returns
unfolding argument
returns c =
    let i = c.args.i in
    prints_as
    (sym (passed _ _ (ap (λ (b : Bool). b || eqb i.number 20) (sym c.is_bare.ensures) ∙ c.if-is_bare-i.false) ∙ passed _ _ (ne_eqb _ _ c.if-i-eq1.false)))
    c.number.ensures
