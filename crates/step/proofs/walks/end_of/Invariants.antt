-- `step::walks::end_of` meets its contract. Assumes nothing.
use Rattle.std.proofs.Common.{false, leb, ℕ, ◌&&◌, ◌-◌, ◌≡◌, ◌≤◌}
use Rattle.machine.specs.Runs.{can_act}
use Rattle.machine.specs.Held.{state_of}
use Rattle.records.specs.Sets.{set_by}
use Rattle.base.specs.Below.{some}
use Rattle.step.proofs.walks.end_of.Given as goal

abbrev pub invariant-loop-t : goal.invariant-loop-t
invariant-loop-t l = (l.t ≤ l.layout.threads) × (l.m.ended ≡ false) × ((memory : ℕ → ℕ) → (leb l.layout.threads 4 && some l.t (can_act (set_by l.set l.layout) (state_of l.m memory))) ≡ false)

abbrev pub decreases-loop-t : goal.decreases-loop-t
decreases-loop-t l = l.layout.threads - l.t
