-- `records::set::checked_before` meets its contract. No record below j checks c. Assumes nothing.
use Rattle.std.proofs.Common.{false, ◌≡◌}
use Rattle.base.specs.Below.{some}
use Rattle.records.specs.Sets.{checks_at}
use Rattle.records.proofs.set.checked_before.Given as goal

abbrev pub invariant-loop-j : goal.invariant-loop-j
invariant-loop-j l = (some l.j (checks_at l.set l.c) ≡ false)
