-- `encoder::choice_bits` meets its contract. Assumes nothing.
use Rattle.std.proofs.Common.{[], cond, length, ltb, ℕ, ◌-◌, ◌∷◌, ◌≡◌, ◌≤◌}
use Rattle.table.specs.declared.Formula.{Formula}
use Rattle.table.specs.Formulas.{written_at}
use Rattle.table.specs.Programs.{leaf_formula, choice_bit, upto}
use Rattle.encoder.proofs.choice_bits.Given as goal

abbrev pub bit : (threads step j : ℕ) → Formula
bit threads step j = leaf_formula (cond (ltb j threads) (choice_bit step 0 j) (choice_bit step 1 (j - threads)))

abbrev pub invariant-loop-j : goal.invariant-loop-j
invariant-loop-j l =
    (l.j-end ≤ 8) × (length l.out ≡ length l.initial.out) × (l.out ≡ written_at l.initial.out l.n (upto (λ i. bit l.threads l.step i ∷ []) l.j))
