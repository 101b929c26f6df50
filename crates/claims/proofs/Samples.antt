-- The two look-ups that docs/ARCHITECTURE.md writes out, computed by the definitions. Assumes nothing.
use Prim.Native.Nat.{ℕ}
use mathlib.Core.Path.{◌≡◌, refl}
use mathlib.Core.Bool.{true, cond}
use mathlib.Core.List.{List, [], ◌∷◌}
use lib.Dec.{eqb}
use lib.ListN.{length, get_or}
use Rattle.base.specs.Below.{some}
use Rattle.records.specs.Sets.{Set, nothing}
use Rattle.records.specs.declared.Statement.{Statement}
use Rattle.machine.specs.Machine.{contains}
use Rattle.table.specs.declared.Formula.{Formula}
use Rattle.table.specs.Programs.{compiled, records as records_of, next, root, upto}
use Rattle.table.specs.Values.{Assignment, as_word, values_of, satisfies, met, values_from, value_of}
use Rattle.encoding.specs.Slots.{kinds}
use Rattle.encoding.specs.Steps.{chain, step}
use Rattle.encoding.specs.Encodings.{encoded, program}
use Rattle.evaluation.specs.Evaluations.{record_at, memories_back, cell_back}
use Rattle.claims.specs.Lookups.{visited, cell}

-- ADDI 7, STORE 5, FENCE, LOAD 5, EXIT 1
abbrev plain : ℕ → ℕ → Statement
plain n a = record { number = n; mode = 0; argument = a }

abbrev statements : List Statement
statements = plain 4 7 ∷ plain 1 5 ∷ plain 2 0 ∷ plain 0 5 ∷ plain 18 1 ∷ []

abbrev one : Set
one = record { threads = 1; count = λ t. length statements; statement = λ t p. get_or statements p nothing }

-- its table for an empty map and K 6
unfoldable table : List Formula
table = encoded one [] [] 6

-- the run executes in each step but flushes in step 2; cell 5 is 3 at first
abbrev run : Assignment
run = record { choice = λ k kind t. eqb kind (get_or (0 ∷ 0 ∷ 1 ∷ []) k 0); first = λ a. cond (eqb a 5) 3 0 }

-- the table's records, and the words of their values
abbrev records : ℕ → Formula
records = record_at table

abbrev words : ℕ → ℕ
words j = as_word (values_of run table j)

runs : satisfies run table ≡ true
unfolding table encoded program step kinds upto chain compiled records_of next root some contains satisfies met values_from value_of
runs = refl

-- LOAD 5 in step 4: the write of step 3 is at another address, the flush of step 2 at this one
at-a_write : visited run table 220 records words ≡ 181 ∷ 134 ∷ []
unfolding table encoded program step kinds upto chain compiled records_of next root some contains values_from value_of memories_back
at-a_write = refl

written : cell run table 220 records words ≡ 7
unfolding table encoded program step kinds upto chain compiled records_of next root some contains values_from value_of cell_back
written = refl

-- LOAD 5 in step 2: nothing is written before it
at-first-memory : visited run table 126 records words ≡ 87 ∷ 40 ∷ 3 ∷ []
unfolding table encoded program step kinds upto chain compiled records_of next root some contains values_from value_of memories_back
at-first-memory = refl

unwritten : cell run table 126 records words ≡ 3
unfolding table encoded program step kinds upto chain compiled records_of next root some contains values_from value_of cell_back
unwritten = refl
