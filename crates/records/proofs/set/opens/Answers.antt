-- `records::set::opens` meets its contract. Assumes nothing.
use Rattle.std.proofs.Common.{ap, eq-eqb, ne_eqb, not, sym, ◌&&◌, ◌∙◌}
use Rattle.base.proofs.Choice.{and_false}
use Rattle.base.specs.Below.{some}
use Rattle.records.specs.Sets.{argument_at, checks_at, opens_at}
use Rattle.records.proofs.set.opens.Goals as goal

pub returns-then-set-at : goal.returns-then-set-at
unfolding opens_at
returns-then-set-at c = sym (and_false _ (ne_eqb _ _ c.if-set-at.true))

pub returns : goal.returns
unfolding opens_at
returns c =
    let a = c.args in
    let s = a.set.now in
    ap not (c.checked_before.ensures ∙ ap (λ x. some a.k (checks_at s x)) c.word.ensures)
    ∙ sym (ap (λ b. b && not (some a.k (checks_at s (argument_at s a.k)))) (eq-eqb _ _ c.if-set-at.false))
