-- `listing_output::next` meets its contract. The loop's invariant: none of the j candidates before this one is permitted. Assumes nothing.
use Rattle.std.proofs.Common.{length, take, ◌≡◌}
use Rattle.base.specs.Below.{least}
use Rattle.listing_output.specs.Schedules.{allows}
use Rattle.listing_output.proofs.next.Given as goal

abbrev pub invariant-loop-j : goal.invariant-loop-j
invariant-loop-j l = (length l.tried ≡ 64) × (take l.k l.tried ≡ take l.k l.initial.tried) × (least l.j (allows l.set l.map (take l.k l.initial.tried)) ≡ l.j)
