-- `machine::operands::address` meets its contract. Assumes nothing.
use Rattle.std.proofs.Common.{◌∙◌}
use Rattle.machine.specs.Held.{memory_in, known_in}
use Rattle.machine.proofs.Loads.{address-indirect, address_direct}
use Rattle.machine.proofs.operands.address.Goals as goal

pub returns-then-i-eq1 : goal.returns-then-i-eq1
returns-then-i-eq1 c =
    let a = c.args in
    let e = address-indirect a.i a.x (memory_in a.addresses.now a.values.now) (known_in a.addresses.now) c.requires c.if-i-eq1.true in
    (c.load.ensures.0 ∙ e.0, c.load.ensures.1 ∙ e.1, c.load.ensures.2 ∙ e.2)

pub returns : goal.returns
returns c =
    let a = c.args in
    address_direct a.i a.x (memory_in a.addresses.now a.values.now) (known_in a.addresses.now) c.requires c.if-i-eq1.false
