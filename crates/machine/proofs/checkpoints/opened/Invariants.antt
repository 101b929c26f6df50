-- `machine::checkpoints::opened` meets its contract. Assumes nothing.
use Rattle.std.proofs.Common.{Bool, List, get_or, not, true, ℕ, ◌||◌, ◌≡◌, Option}
use Rattle.records.specs.Sets.{Set, set_by}
use Rattle.machine.specs.Machine.{contains, marked_at, unmarked}
use Rattle.base.specs.Below.{every}
use Rattle.machine.proofs.checkpoints.opened.Given as goal

-- thread u does not keep checkpoint c shut
abbrev pub passes : Set → List (Option ℕ) → ℕ → ℕ → Bool
passes S marks c u = not (contains S u c) || marked_at (get_or marks u unmarked) c

abbrev pub invariant-loop-t : goal.invariant-loop-t
invariant-loop-t l = every l.t (passes (set_by l.set l.layout) l.marks l.c) ≡ true
