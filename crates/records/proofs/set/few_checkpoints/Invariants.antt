-- `records::set::few_checkpoints` meets its contract. The records below k open `found` checkpoints, at most 8. Assumes nothing.
use Rattle.std.proofs.Common.{◌≡◌, ◌≤◌}
use Rattle.base.specs.Below.{number}
use Rattle.records.specs.Sets.{opens_at}
use Rattle.records.proofs.set.few_checkpoints.Given as goal

abbrev pub invariant-loop-k : goal.invariant-loop-k
invariant-loop-k l = (l.found ≤ 8) × (l.found ≡ number l.k (opens_at l.set))
