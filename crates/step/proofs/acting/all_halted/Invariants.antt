-- `step::acting::all_halted` meets its contract. Assumes nothing.
use Rattle.std.proofs.Common.{get_or, true, ◌≡◌}
use Rattle.base.specs.Below.{every}
use Rattle.machine.specs.Machine.{fresh}
use Rattle.step.proofs.acting.all_halted.Given as goal

abbrev pub invariant-loop-t : goal.invariant-loop-t
invariant-loop-t l = every l.t (λ u. (get_or l.threads u fresh).halted) ≡ true
