-- `records::set::records_fit` meets its contract. Every record below k follows and fits. Assumes nothing.
use Rattle.std.proofs.Common.{true, ◌&&◌, ◌≡◌}
use Rattle.base.specs.Below.{every}
use Rattle.records.specs.Sets.{follows, record_fits}
use Rattle.records.proofs.set.records_fit.Given as goal

abbrev pub invariant-loop-k : goal.invariant-loop-k
invariant-loop-k l = (every l.k (λ j. follows l.set j && record_fits l.set j) ≡ true)
