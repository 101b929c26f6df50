-- `machine::memory::cell_from` meets its contract. Assumes nothing.
use Rattle.std.proofs.Common.{arith, eq-eqb, length, ne_eqb, sym, ◌≡◌}
use Rattle.base.proofs.Below.{least_more, least-hit}
use Rattle.machine.proofs.memory.cell_from.Goals as goal

pub loop-i-init : goal.loop-i-init
loop-i-init c = c.requires.1

pub returns-then-addresses-i : goal.returns-then-addresses-i
returns-then-addresses-i c = sym (least-hit _ _ _ c.loop-i.invariant (eq-eqb _ _ c.if-addresses-i.true) c.loop-i-test.true)

pub loop-i-preserved : goal.loop-i-preserved
loop-i-preserved c = least_more _ _ c.loop-i.invariant (ne_eqb _ _ c.if-addresses-i.false)

pub returns : goal.returns
returns c =
    let e : c.loop-i.i ≡ length c.args.addresses.now = omega (arith, c.loop-i-test.false, c.loop-i.auto.i-end, c.requires.0) in
    rw (← e) (sym c.loop-i.invariant)
