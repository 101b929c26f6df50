-- `listing_output::output::number` meets its contract: a number's digits are the last of five. Assumes nothing.
use Rattle.std.proofs.Common.{List, ap₂, arith, drop, take, ℕ, ◌-◌, ◌∙◌}
use Rattle.listing_output.proofs.Texts.{few-places, last_digits, prints_as}
use Rattle.listing_output.proofs.output.number.Goals as goal

pub overflow_sub-k : goal.overflow_sub-k
overflow_sub-k c = omega (arith, c.places-k.ensures, few-places c.args.n)

pub returns : goal.returns
returns c =
    prints_as (ap₂ (λ (k : ℕ) (all : List ℕ). take (5 - (5 - k)) (drop (5 - k) all)) c.places-k.ensures c.digits-all.ensures ∙ last_digits c.args.n) c.put.ensures
