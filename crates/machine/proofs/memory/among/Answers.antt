-- `machine::memory::among` meets its contract. Assumes nothing.
use Rattle.std.proofs.Common.{Bool, ap, arith, eqb, get_or, length, refl, sym, ◌||◌, ◌∙◌, ◌≡◌}
use Rattle.base.specs.Below.{some}
use Rattle.machine.proofs.Groups.{some_next}
use Rattle.machine.proofs.memory.among.Goals as goal

pub loop-address-init : goal.loop-address-init
unfolding some
loop-address-init c = refl

pub loop-address-preserved : goal.loop-address-preserved
loop-address-preserved c = ap (λ (b : Bool). b || eqb (get_or c.args.addresses.now c.loop-address.address-index 0) c.args.a) c.loop-address.invariant ∙ sym (some_next (λ j. eqb (get_or c.args.addresses.now j 0) c.args.a) c.loop-address.address-index)

pub returns : goal.returns
returns c =
    let e : c.loop-address.address-index ≡ length c.args.addresses.now = omega (arith, c.loop-address-test.false, c.loop-address.auto.address-index-end) in
    rw (← e) c.loop-address.invariant
