-- Tables of small sets: document 01's case 3, counted and evaluated, and the table that docs/TABLE.md writes out. Assumes nothing.
use Prim.Native.Nat.{ℕ, zero, suc}
use mathlib.Core.Path.{◌≡◌, refl}
use mathlib.Core.Bool.{Bool, true, false}
use mathlib.Core.List.{List, [], ◌∷◌}
use lib.ListN.{length, get_or}
use Rattle.base.specs.Below.{some}
use Rattle.records.specs.Sets.{Set, nothing}
use Rattle.records.specs.declared.Statement.{Statement}
use Rattle.machine.specs.Machine.{contains}
use Rattle.table.specs.declared.Formula.{Formula}
use Rattle.table.specs.Programs.{compiled, records, next, root, upto}
use Rattle.table.specs.Values.{Assignment, satisfies, met, values_from, value_of}
use Rattle.encoding.specs.Slots.{kinds}
use Rattle.encoding.specs.Steps.{chain, step}
use Rattle.encoding.specs.Encodings.{encoded, program}

-- ---- case 3

abbrev plain : ℕ → ℕ → Statement
plain n a = record { number = n; mode = 0; argument = a }

abbrev lists : List (List Statement)
lists =
    (plain 4 1 ∷ plain 1 0 ∷ plain 17 0 ∷ [])
    ∷ (plain 0 0 ∷ plain 10 3 ∷ plain 18 0 ∷ plain 18 7 ∷ []) ∷ []

abbrev both : Set
both = record { threads = 2; count = λ t. length (get_or lists t []); statement = λ t p. get_or (get_or lists t []) p nothing }

-- map 0→0
abbrev zeroed : List ℕ
zeroed = 0 ∷ 0 ∷ 0 ∷ 0 ∷ []

-- thread 1 executes in each step
abbrev second : ℕ → Assignment
second v = record { choice = taken; first = λ a. v }
  where
    taken : ℕ → ℕ → ℕ → Bool
    taken k zero zero = false
    taken k zero (suc zero) = true
    taken k zero (suc (suc t)) = false
    taken k (suc kind) t = false

-- 17 start values and map constraints, 70 records a step, 3 for the goal
sizes : length (encoded both [] zeroed 3) ≡ 230
unfolding encoded program step kinds upto chain compiled records next root some contains
sizes = refl

runs : satisfies (second 0) (encoded both [] zeroed 3) ≡ true
unfolding encoded program step kinds upto chain compiled records next root some contains satisfies met values_from value_of
runs = refl

other_map : satisfies (second 1) (encoded both [] zeroed 3) ≡ false
unfolding encoded program step kinds upto chain compiled records next root some contains satisfies met values_from value_of
other_map = refl

too_short : satisfies (second 0) (encoded both [] zeroed 2) ≡ false
unfolding encoded program step kinds upto chain compiled records next root some contains satisfies met values_from value_of
too_short = refl

-- ---- EXIT 1 for bound 1 and an empty map

abbrev exit_one : Set
exit_one = record { threads = 1; count = λ t. length (get_or ((plain 18 1 ∷ []) ∷ []) t []); statement = λ t p. get_or (get_or ((plain 18 1 ∷ []) ∷ []) t []) p nothing }

-- operation, sort, constant, operands
abbrev formula : (operation sort constant a b c : ℕ) → Formula
formula operation sort constant a b c = record { operation = operation; sort = sort; constant = constant; a = a; b = b; c = c }

abbrev page : List Formula
page =
    formula 3 1 0 0 0 0
    ∷ formula 3 1 1 0 0 0
    ∷ formula 3 2 0 0 0 0
    ∷ formula 2 3 0 0 0 0
    ∷ formula 3 2 1 0 0 0
    ∷ formula 3 2 1 0 0 0
    ∷ formula 1 1 0 0 0 0
    ∷ formula 1 1 0 0 1 0
    ∷ formula 5 1 0 1 6 0
    ∷ formula 5 1 0 0 0 0
    ∷ formula 6 1 0 9 0 0
    ∷ formula 4 1 0 10 0 0
    ∷ formula 8 1 0 6 0 1
    ∷ formula 8 1 0 7 0 12
    ∷ formula 5 1 0 11 1 0
    ∷ formula 5 1 0 0 12 0
    ∷ formula 8 1 0 6 14 0
    ∷ formula 8 1 0 7 15 16
    ∷ formula 8 1 0 0 13 17
    ∷ formula 15 0 0 18 0 0
    ∷ formula 8 2 0 7 2 2
    ∷ formula 12 2 0 3 20 0
    ∷ formula 8 2 0 7 2 21
    ∷ formula 8 1 0 8 1 0
    ∷ formula 8 2 0 8 5 2
    ∷ formula 13 3 0 3 20 22
    ∷ formula 8 1 0 7 0 0
    ∷ formula 5 1 0 0 1 0
    ∷ formula 6 1 0 27 23 0
    ∷ formula 7 1 0 24 2 0
    ∷ formula 4 1 0 29 0 0
    ∷ formula 16 0 0 30 0 0
    ∷ []

page-is-table : encoded exit_one [] [] 1 ≡ page
unfolding encoded program step kinds upto chain compiled records next root some contains
page-is-table = refl
