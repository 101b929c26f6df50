-- `step::walks::begin` meets its contract. Assumes nothing.
use Rattle.std.proofs.Common.{get_or, length, ℕ, ◌-◌, ◌/◌, ◌<◌, ◌≡◌, ◌≤◌}
use Rattle.records.specs.Maps.{address_at, value_at}
use Rattle.step.proofs.walks.begin.Given as goal

abbrev pub invariant-loop-k : goal.invariant-loop-k
invariant-loop-k l =
    (l.k ≤ l.n) × (l.n ≡ length l.map / 4) × (l.n ≤ length l.initial.addresses) × (l.n ≤ length l.initial.values) × (length l.addresses ≡ length l.initial.addresses) × (length l.values ≡ length l.initial.values)
    × ((j : ℕ) → j < l.k → get_or l.addresses j 0 ≡ address_at l.map j) × ((j : ℕ) → j < l.k → get_or l.values j 0 ≡ value_at l.map j)

abbrev pub decreases-loop-k : goal.decreases-loop-k
decreases-loop-k l = l.n - l.k
