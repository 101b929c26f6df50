-- `listing_output::output::places` meets its contract, by the definition's cases. Assumes nothing.
use Rattle.std.proofs.Common.{le-ltb, lt-ltb, sym, ◌∙◌}
use Rattle.base.proofs.Choice.{chosen, passed}
use Rattle.listing_output.specs.Listings.{places}
use Rattle.listing_output.proofs.output.places.Goals as goal

pub returns-then-n-lt10 : goal.returns-then-n-lt10
unfolding places
returns-then-n-lt10 c = sym (chosen _ _ (lt-ltb _ _ c.if-n-lt10.true))

pub returns-then-n-lt100 : goal.returns-then-n-lt100
unfolding places
returns-then-n-lt100 c = sym (passed _ _ (le-ltb _ _ c.if-n-lt10.false) ∙ chosen _ _ (lt-ltb _ _ c.if-n-lt100.true))

pub returns-then-n-lt1000 : goal.returns-then-n-lt1000
unfolding places
returns-then-n-lt1000 c = sym (passed _ _ (le-ltb _ _ c.if-n-lt10.false) ∙ passed _ _ (le-ltb _ _ c.if-n-lt100.false) ∙ chosen _ _ (lt-ltb _ _ c.if-n-lt1000.true))

pub returns-then-n-lt10000 : goal.returns-then-n-lt10000
unfolding places
returns-then-n-lt10000 c =
    sym (passed _ _ (le-ltb _ _ c.if-n-lt10.false) ∙ passed _ _ (le-ltb _ _ c.if-n-lt100.false)
    ∙ passed _ _ (le-ltb _ _ c.if-n-lt1000.false) ∙ chosen _ _ (lt-ltb _ _ c.if-n-lt10000.true))

pub returns : goal.returns
unfolding places
returns c =
    sym (passed _ _ (le-ltb _ _ c.if-n-lt10.false) ∙ passed _ _ (le-ltb _ _ c.if-n-lt100.false)
    ∙ passed _ _ (le-ltb _ _ c.if-n-lt1000.false) ∙ passed _ _ (le-ltb _ _ c.if-n-lt10000.false))
