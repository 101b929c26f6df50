-- The checkpoints of a set, in the order of their first CHECK. The claims say what this means; a reader need not believe it. Assumes nothing.
use Rattle.std.specs.Prelude.{ℕ, zero, suc, Bool, false, cond, not, ◌&&◌, ◌||◌, List, [], ◌∷◌, ◌++◌, eqb}
use Rattle.records.specs.Instructions.{CHECK}
use Rattle.records.specs.Sets.{Set}
use Rattle.records.specs.declared.Statement.{Statement}

-- c is one of the numbers
unfoldable pub member : ℕ → List ℕ → Bool
member c [] = false
member c (d ∷ ds) = eqb c d || member c ds

-- the checkpoints seen, once a statement is looked at
unfoldable pub noted : List ℕ → Statement → List ℕ
noted seen i = cond (eqb i.number CHECK && not (member i.argument seen)) (seen ++ (i.argument ∷ [])) seen

-- once the first n statements of thread t are looked at
unfoldable pub noted_in : Set → ℕ → List ℕ → ℕ → List ℕ
noted_in S t seen zero = seen
noted_in S t seen (suc n) = noted (noted_in S t seen n) (S.statement t n)

-- once the first n threads are
unfoldable pub noted_below : Set → ℕ → List ℕ
noted_below S zero = []
noted_below S (suc t) = noted_in S t (noted_below S t) (S.count t)

unfoldable pub checkpoints : Set → List ℕ
checkpoints S = noted_below S S.threads
