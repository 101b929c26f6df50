-- `records::set::checks` meets its contract. Assumes nothing.
use Rattle.std.proofs.Common.{ap, eqb, ◌&&◌}
use Rattle.records.specs.Sets.{number_at}
use Rattle.records.proofs.set.checks.Goals as goal

pub returns : goal.returns
returns c =
    let a = c.args in
    ap (λ x. eqb (number_at a.set.now a.k) 19 && eqb x a.c) c.word.ensures
