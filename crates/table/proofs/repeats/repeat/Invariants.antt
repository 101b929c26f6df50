-- `table::repeats::repeat` meets its contract. Assumes nothing.
use Rattle.std.proofs.Common.{List, [], length, ℕ, ◌*◌, ◌+◌, ◌-◌, ◌∷◌, ◌≡◌, ◌≤◌}
use Rattle.table.specs.Repeats.{repeated}
use Rattle.table.specs.Programs.{upto}
use Rattle.table.specs.Formulas.{written_at, formula_at}
use Rattle.table.specs.declared.Formula.{Formula}
use Rattle.table.proofs.repeats.repeat.Given as goal

-- the record that number j becomes
abbrev pub record_of : (out : List ℕ) (at first stride j : ℕ) → Formula
record_of out at first stride j = repeated first stride (formula_at out (at - stride + j))

abbrev pub invariant-loop-j : goal.invariant-loop-j
invariant-loop-j l =
    (l.j ≤ l.count) × (l.count ≤ l.stride) × (l.stride ≤ l.at) × (l.at + l.count ≤ 2000000000) × (16 * (l.at + l.count) ≤ length l.initial.out) × (length l.out ≡ length l.initial.out)
    × (l.out ≡ written_at l.initial.out l.at (upto (λ i. record_of l.initial.out l.at l.first l.stride i ∷ []) l.j))
