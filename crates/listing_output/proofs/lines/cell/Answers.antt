-- `listing_output::lines::cell` meets its contract, by the definition's cases. Assumes nothing.
use Rattle.std.proofs.Common.{ap₂, eq-eqb, ne_eqb, sym, ◌∙◌}
use Rattle.base.proofs.Choice.{chosen, passed}
use Rattle.listing_output.specs.Listings.{pair, cell}
use Rattle.listing_output.proofs.Texts.{prints_as}
use Rattle.listing_output.proofs.lines.cell.Goals as goal

pub returns-then-byte_at-eq1 : goal.returns-then-byte_at-eq1
unfolding cell
returns-then-byte_at-eq1 c =
    prints_as (ap₂ pair c.word_at-address.ensures c.word_at.ensures ∙ sym (chosen _ _ (eq-eqb _ _ (sym c.byte_at.ensures ∙ c.if-byte_at-eq1.true)))) c.pair.ensures

pub returns : goal.returns
unfolding cell
returns c =
    prints_as (sym (passed _ _ (ne_eqb _ _ (λ e. c.if-byte_at-eq1.false (c.byte_at.ensures ∙ e))))) c.put.ensures
