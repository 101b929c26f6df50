-- The encoder's two calls (document 01): their answers for every input, and the lent output afterwards. A reader of the calls believes this. Assumes
-- nothing.
use Rattle.std.specs.Prelude.{ℕ, ◌*◌, Bool, cond, ◌&&◌, List, Result, Ok, Err, ltb, leb, length}
use Rattle.base.specs.Bytes.{over}
use Rattle.records.specs.Maps.{map_accepted, set_cells}
use Rattle.records.specs.Refusals.{of_call}
use Rattle.records.specs.Sets.{set_accepted}
use Rattle.records.specs.declared.refusals.Refusal.TheVariants.{Records, Bound, Room}
use Rattle.records.specs.declared.refusals.Refused.{Refused}
use Rattle.table.specs.Formulas.{table_bytes, formula_length}
use Rattle.encoding.specs.Encodings.{table_of}
use Rattle.machine.specs.Runs.{most_steps}

-- a bound from 1 to 64
abbrev pub bound_fits : ℕ → Bool
bound_fits bound = ltb 0 bound && leb bound most_steps

-- 9, set or map records not as document 01 has them; 10, a bound not 1 to 64; else what comes after
abbrev pub checked : (set map : List ℕ) (bound : ℕ) → Result ℕ Refused → Result ℕ Refused
checked set map bound rest =
    cond (set_accepted set && map_accepted set_cells map) (cond (bound_fits bound) rest (Err (of_call Bound))) (Err (of_call Records))

-- how many records the table has
unfoldable pub size_answer : (set map : List ℕ) (bound : ℕ) → Result ℕ Refused
size_answer set map bound = checked set map bound (Ok (length (table_of set map bound)))

-- 11, an output below 16 bytes a record
unfoldable pub encode_answer : (set map : List ℕ) (bound room : ℕ) → Result ℕ Refused
encode_answer set map bound room =
    checked set map bound
    (cond (ltb room (formula_length * length (table_of set map bound))) (Err (of_call Room)) (Ok (length (table_of set map bound))))

-- the output afterwards: the table's bytes over its start, and as it was where the call is refused
abbrev pub table_output : Result ℕ Refused → (set map : List ℕ) (bound : ℕ) (out : List ℕ) → List ℕ
table_output (Ok records) set map bound out = over (table_bytes (table_of set map bound)) out
table_output (Err refused) set map bound out = out
