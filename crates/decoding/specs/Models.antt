-- Models: which are well formed, and the assignment that one gives (document 01, "Records", refusals 15 and 16). A reader of the calls believes this.
-- Assumes nothing.
use Rattle.std.specs.Prelude.{ℕ, suc, ◌+◌, ◌*◌, Bool, not, cond, ◌&&◌, List, [], ◌∷◌, eqb, ltb, leb, length, get_or, drop}
use Rattle.base.specs.Below.{every}
use Rattle.records.specs.Maps.{map_accepted, map_value, run_cells}
use Rattle.table.specs.Values.{Assignment, Value, as_bit, is_demand}
use Rattle.table.specs.declared.Formula.{Formula}

-- A model is 2·T·K bytes of 0 or 1 (by step; execute bits, then flush bits) and at most 256 map cells.
abbrev pub bits : (threads bound : ℕ) → ℕ
bits threads bound = 2 * threads * bound

-- where the bit of step k stands that executes (kind 0) or flushes (kind 1) thread t
abbrev pub bit_index : (threads k kind t : ℕ) → ℕ
bit_index threads k kind t = 2 * threads * k + (threads * kind + t)

-- the map cells
abbrev pub listed_cells : (threads bound : ℕ) → List ℕ → List ℕ
listed_cells threads bound model = drop (bits threads bound) model

-- 15, a model not as above
unfoldable pub model_fits : (threads bound : ℕ) → List ℕ → Bool
model_fits threads bound model =
    leb (bits threads bound) (length model)
    && every (bits threads bound) (λ i. ltb (get_or model i 0) 2)
    && map_accepted run_cells (listed_cells threads bound model)

-- The assignment that a model gives; unlisted cells are 0.
unfoldable pub assigned : (threads bound : ℕ) → List ℕ → Assignment
assigned threads bound model = record {
  choice = λ k kind t. ltb k bound && ltb kind 2 && ltb t threads && eqb (get_or model (bit_index threads k kind t) 0) 1;
  first = map_value (listed_cells threads bound model);
}

-- Work memory has 32 bytes a table record.
abbrev pub work_length : ℕ
work_length = 32

-- 16, the first constraint or goal that is 0, from record n on; the table's end where all are 1
unfoldable pub first_false : (ℕ → Value) → ℕ → List Formula → ℕ
first_false values n [] = n
first_false values n (f ∷ table) = cond (is_demand f.operation && not (as_bit (values f.a))) n (first_false values (suc n) table)
