-- `records::set::counts_of` meets its contract. Each counter is the number of its thread's records below k. Assumes nothing.
use Rattle.std.proofs.Common.{List, eqb, ℕ, ◌≡◌}
use Rattle.base.specs.Below.{number}
use Rattle.records.specs.Sets.{thread_at}
use Rattle.records.proofs.set.counts_of.Given as goal

-- the counters after k records
abbrev pub Counted : List ℕ → ℕ → ℕ → ℕ → ℕ → ℕ → Type 0
Counted set first second third fourth k =
    (first ≡ number k (λ j. eqb (thread_at set j) 0)) × (second ≡ number k (λ j. eqb (thread_at set j) 1))
    × (third ≡ number k (λ j. eqb (thread_at set j) 2)) × (fourth ≡ number k (λ j. eqb (thread_at set j) 3))

abbrev pub invariant-loop-k : goal.invariant-loop-k
invariant-loop-k l = Counted l.set l.first l.second l.third l.fourth l.k
