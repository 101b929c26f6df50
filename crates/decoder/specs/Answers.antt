-- The model check and decoding (document 01, "Records", refusals 9, 10, 15, 11 and 16): their answers for every input, and the lent memory
-- afterwards. A reader of the calls believes this. Assumes nothing.
use Rattle.std.specs.Prelude.{ℕ, ◌*◌, Bool, cond, ◌&&◌, ◌||◌, List, Result, Ok, Err, eqb, ltb, length, replicate}
use Rattle.encoder.specs.Answers.{bound_fits}
use Rattle.base.specs.Bytes.{over}
use Rattle.records.specs.Maps.{cells, map_accepted, set_cells}
use Rattle.records.specs.Refusals.{number, of_call}
use Rattle.records.specs.Sets.{set_of, set_accepted}
use Rattle.records.specs.declared.refusals.Refusal.TheVariants.{Records, Bound, Room, Model, NotSatisfied}
use Rattle.records.specs.declared.refusals.Refused.{Refused}
use Rattle.machine.specs.Traces.{step_length}
use Rattle.table.specs.Values.{Assignment, values_of}
use Rattle.table.specs.declared.Formula.{Formula}
use Rattle.encoding.specs.Encodings.{table_of}
use Rattle.decoding.specs.Decodings.{run_of, decoded_trace, decoded_map, longest_map}
use Rattle.decoding.specs.Models.{model_fits, assigned, first_false, work_length}
use Rattle.decoding.specs.declared.Decoded.{Decoded}

-- ---- the model check

-- the first record of a table that is a constraint or goal with value 0
abbrev pub false_record : Assignment → List Formula → ℕ
false_record g table = first_false (values_of g table) 0 table

-- 16, with the first constraint or goal that is 0
abbrev pub unsatisfied : (index : ℕ) → Refused
unsatisfied index = record { refusal = NotSatisfied; place = index }

-- Past 11 a model is accepted exactly if its assignment satisfies; 16 names the first constraint or goal that is 0.
abbrev pub judged : (index size : ℕ) → Result (Unit {0}) Refused
judged index size = cond (ltb index size) (Err (unsatisfied index)) (Ok (tt {0}))

-- 15, a model not as document 01 has it; 11, work memory below 32 bytes a record; 16
unfoldable pub model_answer : (set map : List ℕ) (bound : ℕ) (model : List ℕ) (room : ℕ) → Result (Unit {0}) Refused
model_answer set map bound model room =
    cond (model_fits (set_of set).threads bound model)
    (cond (ltb room (work_length * length (table_of set map bound))) (Err (of_call Room))
    (judged (false_record (assigned (set_of set).threads bound model) (table_of set map bound)) (length (table_of set map bound))))
    (Err (of_call Model))

-- 9 and 10 come first.
unfoldable pub check_answer : (set map : List ℕ) (bound : ℕ) (model : List ℕ) (room : ℕ) → Result (Unit {0}) Refused
check_answer set map bound model room =
    cond (set_accepted set && map_accepted set_cells map) (cond (bound_fits bound) (model_answer set map bound model room) (Err (of_call Bound))) (Err (of_call Records))

-- Past 11 the whole of the work memory is 0, on 16 too; refused by 11 or an earlier check it is as it was.
abbrev pub work_after : {A : Type 0} → Result A Refused → List ℕ → List ℕ
work_after (Ok answer) work = replicate (length work) 0
work_after (Err refused) work = cond (eqb (number refused.refusal) 16) (replicate (length work) 0) work

-- ---- decoding

-- what a model decodes to: as many steps as its run took, and the cells of the map
abbrev pub decoded : (set map : List ℕ) (bound : ℕ) → Assignment → Decoded
decoded set map bound g = record { steps = length (run_of (set_of set).threads bound g); cells = cells (decoded_map set map bound g) }

-- 11: work memory below 32 bytes a record, or a trace output below 24 bytes a step of the bound, or a map output below 256 cells
abbrev pub too_short : (size bound room trace_room map_room : ℕ) → Bool
too_short size bound room trace_room map_room = ltb room (work_length * size) || ltb trace_room (step_length * bound) || ltb map_room longest_map

-- 15, 11 and 16 as in the model check
unfoldable pub model_decoding : (set map : List ℕ) (bound : ℕ) (model : List ℕ) (room trace_room map_room : ℕ) → Result Decoded Refused
model_decoding set map bound model room trace_room map_room =
    cond (model_fits (set_of set).threads bound model)
    (cond (too_short (length (table_of set map bound)) bound room trace_room map_room) (Err (of_call Room))
    (cond (ltb (false_record (assigned (set_of set).threads bound model) (table_of set map bound)) (length (table_of set map bound)))
    (Err (unsatisfied (false_record (assigned (set_of set).threads bound model) (table_of set map bound))))
    (Ok (decoded set map bound (assigned (set_of set).threads bound model)))))
    (Err (of_call Model))

-- 9 and 10 come first.
unfoldable pub decode_answer : (set map : List ℕ) (bound : ℕ) (model : List ℕ) (room trace_room map_room : ℕ) → Result Decoded Refused
decode_answer set map bound model room trace_room map_room =
    cond (set_accepted set && map_accepted set_cells map)
    (cond (bound_fits bound) (model_decoding set map bound model room trace_room map_room) (Err (of_call Bound)))
    (Err (of_call Records))

-- the trace output afterwards: the trace over its start, and as it was where the call is refused
abbrev pub trace_left : Result Decoded Refused → (set : List ℕ) (bound : ℕ) (model trace : List ℕ) → List ℕ
trace_left (Ok answer) set bound model trace = over (decoded_trace set bound (assigned (set_of set).threads bound model)) trace
trace_left (Err refused) set bound model trace = trace

-- the map output afterwards, in the same way
abbrev pub map_left : Result Decoded Refused → (set map : List ℕ) (bound : ℕ) (model found : List ℕ) → List ℕ
map_left (Ok answer) set map bound model found = over (decoded_map set map bound (assigned (set_of set).threads bound model)) found
map_left (Err refused) set map bound model found = found
