-- What reading a set text answers, and the lent outputs afterwards (document 01, "Numbered refusals"). A reader of the calls believes this. Assumes
-- nothing.
use Rattle.std.specs.Prelude.{ℕ, suc, ◌*◌, Bool, true, cond, not, ◌&&◌, List, [], ◌∷◌, Option, None, Some, Result, Ok, Err, eqb, ltb, leb, length}
use Rattle.std.specs.Result.{result_err}
use Rattle.base.specs.Below.{every, some, number}
use Rattle.base.specs.Bytes.{same, over}
use Rattle.records.specs.Instructions.{is_jump}
use Rattle.records.specs.Sets.{opens_at, records, most_threads, most_statements, most_checkpoints, record_length}
use Rattle.records.specs.Refusals.{of_call}
use Rattle.records.specs.declared.Cell.{Cell}
use Rattle.records.specs.declared.refusals.Refusal.{Refusal}
use Rattle.records.specs.declared.refusals.Refusal.TheVariants.{TextLength, Threads as ByThreads, Statements as ByStatements, Label as ByLabel, Checkpoints as ByCheckpoints, Map as ByMap, Room as ByRoom}
use Rattle.records.specs.declared.refusals.Refused.{Refused}
use Rattle.text_lines.specs.Lines.{lines, is_dot, statement_line, map_line}
use Rattle.text_lines.specs.declared.Stated.{Stated}
use Rattle.text.specs.Sections.{Threads, dots, threads, cells}
use Rattle.text.specs.Records.{is_named, argument_of, set_bytes, statements, map_cell, map_bytes}
use Rattle.text.specs.declared.Counts.{Counts}
use Rattle.records.specs.Maps.{cell_length, set_cells}

-- ---- lines in order, 2 before 3 in a line

-- what refuses a line, 2 or 3; it is one of the map where no dot follows
unfoldable pub refusal_in : List ℕ → List (List ℕ) → Option Refusal
refusal_in l following =
    cond (is_dot l) None
    (cond (eqb (dots following) 0) (result_err (map_line l)) (result_err (statement_line l)))

-- a refusal by its line, if there is one; else what comes next
abbrev pub refused_or : Option Refusal → ℕ → Result Counts Refused → Result Counts Refused
refused_or (Some refusal) line next = Err (record { refusal = refusal; place = line })
refused_or None line next = next

-- the first line that is refused, its number counted from `line`; else what comes next
unfoldable pub in_lines : ℕ → List (List ℕ) → Result Counts Refused → Result Counts Refused
in_lines line [] next = next
in_lines line (l ∷ ls) next = refused_or (refusal_in l ls) line (in_lines (suc line) ls next)

-- ---- the checks of the whole text

-- 4: threads not 1 to 4
abbrev pub threads_fit : Threads → Bool
threads_fit T = ltb 0 T.ended && leb T.ended most_threads

-- 5: a thread's statements not 1 to 32
unfoldable pub statements_fit : Threads → Bool
statements_fit T = every T.ended (λ t. ltb 0 (T.count t) && leb (T.count t) most_statements)

-- a label doubled in its thread, whose statements x gives by pc
unfoldable pub doubled_at : (ℕ → Stated) → ℕ → Bool
doubled_at x p = is_named (x p).label && some p (λ q. same (x q).label (x p).label)

-- a jump's label known, and its target not beyond the last statement
unfoldable pub target_fits : ℕ → (ℕ → Stated) → ℕ → Bool
target_fits n x p = cond (is_jump (x p).number) (ltb (argument_of n x p) n) true

unfoldable pub thread_fits : ℕ → (ℕ → Stated) → Bool
thread_fits n x = every n (λ p. not (doubled_at x p) && target_fits n x p)

-- 6: label doubled in a thread, unknown, or target beyond the last statement
unfoldable pub labels_fit : Threads → Bool
labels_fit T = every T.ended (λ t. thread_fits (T.count t) (T.statement t))

-- 7: more than 8 different checkpoints
unfoldable pub checkpoints_fit : List ℕ → Bool
checkpoints_fit set = leb (number (records set) (opens_at set)) most_checkpoints

-- a map address doubled
unfoldable pub address_doubled : List Cell → Bool
address_doubled cs = some (length cs) (λ i. some i (λ j. eqb (map_cell cs j).address (map_cell cs i).address))

-- 8: map address doubled, or above 128 cells in a text
unfoldable pub map_fits : List Cell → Bool
map_fits cs = leb (length cs) set_cells && not (address_doubled cs)

-- 11: lent output too short
abbrev pub room_fits : Threads → List Cell → ℕ → ℕ → Bool
room_fits T cs set_room map_room = leb (record_length * statements T) set_room && leb (cell_length * length cs) map_room

abbrev pub refused : Refusal → Result Counts Refused
refused refusal = Err (of_call refusal)

-- 4 to 8, then 11
unfoldable pub whole : Threads → List Cell → ℕ → ℕ → Result Counts Refused
whole T cs set_room map_room =
    cond (not (threads_fit T)) (refused ByThreads)
    (cond (not (statements_fit T)) (refused ByStatements)
    (cond (not (labels_fit T)) (refused ByLabel)
    (cond (not (checkpoints_fit (set_bytes T))) (refused ByCheckpoints)
    (cond (not (map_fits cs)) (refused ByMap)
    (cond (not (room_fits T cs set_room map_room)) (refused ByRoom)
    (Ok (record { statements = statements T; cells = length cs })))))))

-- At most 16,384 bytes.
abbrev pub longest_text : ℕ
longest_text = 16384

-- 1: text above 16,384 bytes; then the lines, then the whole text
unfoldable pub answer : List ℕ → ℕ → ℕ → Result Counts Refused
answer text set_room map_room =
    cond (ltb longest_text (length text)) (refused TextLength)
    (in_lines 1 (lines text) (whole (threads (lines text)) (cells (lines text)) set_room map_room))

-- ---- the lent outputs: all bytes stay where the text is refused, and those beyond the records

abbrev pub output_by : Result Counts Refused → List ℕ → List ℕ → List ℕ
output_by (Ok counts) bytes out = over bytes out
output_by (Err refused) bytes out = out

unfoldable pub set_output : Result Counts Refused → List ℕ → List ℕ → List ℕ
set_output r text out = output_by r (set_bytes (threads (lines text))) out

unfoldable pub map_output : Result Counts Refused → List ℕ → List ℕ → List ℕ
map_output r text out = output_by r (map_bytes (cells (lines text))) out
