-- The table of a set, a map and a bound (docs/TABLE.md). The claims say what this means; a reader need not believe it. Assumes nothing.
use Rattle.std.specs.Prelude.{ℕ, true, false, List, [], ◌∷◌, ◌++◌}
use Rattle.records.specs.Maps.{cells, address_at, value_at}
use Rattle.records.specs.Sets.{Set, set_of}
use Rattle.table.specs.declared.Formula.{Formula}
use Rattle.table.specs.Programs.{ref, leaf, unary, binary, constant_bit, constant_word, first_memory, not1, equal2, read2, leaf_formula, Command, needs, aims, upto, compiled}
use Rattle.encoding.specs.Checkpoints.{checkpoints}
use Rattle.encoding.specs.Slots.{Slot, same, start_place, Term, shared_memory, code, word_one, argument}
use Rattle.encoding.specs.Steps.{only, word0, block, step}

-- the first cell at a map cell's address has its value
abbrev pub map_tree : List ℕ → ℕ → Term
map_tree map j = binary equal2 (binary read2 (ref (only shared_memory)) (leaf (constant_word (address_at map j)))) (leaf (constant_word (value_at map j)))

abbrev pub map_demand : List ℕ → ℕ → List (Command Slot)
map_demand map j = needs (map_tree map j) ∷ []

-- the code is not 0
abbrev pub goal_tree : Term
goal_tree = unary not1 (binary equal2 (ref (only code)) (ref word0))

-- the start values that follow the first four: the word 1, and the arguments
abbrev pub starting : Set → List ℕ → List (Command Slot)
starting S cs = block S cs 0 word_one ++ block S cs 0 argument

-- the order of the parts: start values, map constraints, the steps, one goal
unfoldable pub program : Set → (cs map : List ℕ) (bound : ℕ) → List (Command Slot)
program S cs map bound =
    starting S cs ++ (upto (map_demand map) (cells map) ++ (upto (step S cs) bound ++ (aims goal_tree ∷ [])))

-- records 0 to 3: bits 0 and 1, the word 0, the first memory
abbrev pub firsts : List Formula
firsts = leaf_formula (constant_bit false) ∷ leaf_formula (constant_bit true) ∷ leaf_formula (constant_word 0) ∷ leaf_formula first_memory ∷ []

unfoldable pub encoded : Set → (cs map : List ℕ) (bound : ℕ) → List Formula
encoded S cs map bound = firsts ++ compiled same start_place 4 (program S cs map bound)

-- the table of statement records, map records and a bound
unfoldable pub table_of : (set map : List ℕ) (bound : ℕ) → List Formula
table_of set map bound = encoded (set_of set) (checkpoints (set_of set)) map bound
