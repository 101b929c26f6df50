-- `records::set::checked_before` meets its contract. No record below j checks c. Assumes nothing.
use Rattle.base.specs.Below.{some}
use Rattle.std.proofs.Common.{refl, arith, sym, ◌∙◌, ◌≡◌}
use Rattle.base.proofs.Below.{some_more, some_at}
use Rattle.records.specs.Sets.{checks_at}
use Rattle.records.proofs.set.checked_before.Goals as goal

pub returns-then-checks : goal.returns-then-checks
returns-then-checks c =
    let a = c.args in
    sym (some_at (checks_at a.set.now a.c) a.k _ c.loop-j-test.true (sym c.checks.ensures ∙ c.if-checks.true))

pub loop-j-preserved : goal.loop-j-preserved
loop-j-preserved c =
    let a = c.args in
    some_more (checks_at a.set.now a.c) _ c.loop-j.invariant (sym c.checks.ensures ∙ c.if-checks.false)

pub returns : goal.returns
returns c =
    let e : c.loop-j.j ≡ c.args.k = omega arith in
    sym (rw e at c.loop-j.invariant)

pub loop-j-init : goal.loop-j-init
unfolding some
loop-j-init c = refl
