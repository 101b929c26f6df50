-- `machine::memory::among` meets its contract. Assumes nothing.
use Rattle.std.proofs.Common.{eqb, get_or, ◌≡◌}
use Rattle.base.specs.Below.{some}
use Rattle.machine.proofs.memory.among.Given as goal

abbrev pub invariant-loop-address : goal.invariant-loop-address
invariant-loop-address l = l.found ≡ some l.address-index (λ j. eqb (get_or l.addresses j 0) l.a)
