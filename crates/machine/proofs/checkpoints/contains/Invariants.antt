-- `machine::checkpoints::contains` meets its contract. Assumes nothing.
use Rattle.std.proofs.Common.{Bool, List, eqb, false, ℕ, ◌&&◌, ◌+◌, ◌≡◌}
use Rattle.base.specs.Below.{some}
use Rattle.records.specs.Sets.{statement_at}
use Rattle.records.specs.Instructions.{CHECK}
use Rattle.machine.proofs.checkpoints.contains.Given as goal

-- record first + q is CHECK c
abbrev pub checked : List ℕ → ℕ → ℕ → ℕ → Bool
checked set first c q = eqb (statement_at set (first + q)).number CHECK && eqb (statement_at set (first + q)).argument c

abbrev pub invariant-loop-p : goal.invariant-loop-p
invariant-loop-p l = some l.p (λ q. checked l.set l.first l.c q) ≡ false
