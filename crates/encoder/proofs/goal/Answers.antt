-- `encoder::goal` meets its contract. Assumes nothing.
use Rattle.std.proofs.Common.{ap, ◌+◌, ◌∙◌}
use Rattle.table.specs.Programs.{goal, unary_formula, binary_formula, not1, equal2}
use Rattle.encoder.proofs.Parts.{goal-written}
use Rattle.encoder_bases.proofs.Records.{record_at}
use Rattle.encoder.proofs.goal.Goals as goal

pub returns : goal.returns
returns c places e f =
    let a = c.args in
    goal-written a.out.now a.n places _
    ((rw (c.new-aim.ensures, c.from-at.ensures) at c.put-3.ensures) ∙ ap (record_at (a.n + 2) (goal (a.n + 1)))
    ((rw (c.new-not.ensures, c.from-at.ensures) at c.put-2.ensures) ∙ ap (record_at (a.n + 1) (unary_formula not1 a.n))
    ((rw c.new-equal.ensures at c.put.ensures) ∙ λ i. record_at a.n (binary_formula equal2 (e i) (f i)) a.out.now)))
