-- `records::map::map_accepted` meets its contract. Every cell below k ascends. Assumes nothing.
use Rattle.std.proofs.Common.{true, ◌≡◌}
use Rattle.base.specs.Below.{every}
use Rattle.records.specs.Maps.{ascends_at}
use Rattle.records.proofs.map.map_accepted.Given as goal

abbrev pub invariant-loop-k : goal.invariant-loop-k
invariant-loop-k l = (every l.k (ascends_at l.map) ≡ true)
