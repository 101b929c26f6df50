-- What reading a line does to what is kept of the lines before it. This serves the code; no call's promise needs it. Assumes nothing.
use Rattle.std.specs.Prelude.{ℕ, ◌+◌, ◌-◌, ◌*◌, ◌≤◌, ◌<◌, min, ◌≡◌, Bool, true, false, cond, not, ◌&&◌, ◌||◌, List, [], Option, None, Some, Result, Ok, Err, MatchResult, eqb, ltb, leb, length, get_or, take}
use Rattle.std.specs.Result.{result_err}
use Rattle.records.specs.Instructions.{is_last}
use Rattle.records.specs.declared.Cell.{Cell}
use Rattle.records.specs.declared.refusals.Refusal.{Refusal}
use Rattle.records.specs.declared.refusals.Refusal.TheVariants.{Threads as ByThreads, Statements as ByStatements, Label as ByLabel, Checkpoints as ByCheckpoints, Map as ByMap, Room as ByRoom}
use Rattle.records.specs.declared.refusals.Refused.{Refused}
use Rattle.text_lines.specs.Lines.{lines, is_dot, statement_line, map_line}
use Rattle.text_lines.specs.declared.Stated.{Stated}
use Rattle.text.specs.Sections.{Threads, holds, added, closed, line_added, threads, inserted, cell_added, cells}
use Rattle.text.specs.Answers.{in_lines, threads_fit, statements_fit, labels_fit, checkpoints_fit, map_fits, longest_text, answer}
use Rattle.text.specs.Answers.{refused as refused_by}
use Rattle.text.specs.Records.{set_bytes, statements, map_bytes}
use Rattle.records.specs.Maps.{map_accepted, set_cells, cell_length}
use Rattle.text_drafts.specs.Blocks.{block_at, draft_length}
use Rattle.text.specs.Drafts.{threads_in, cells_of}
use Rattle.text.specs.declared.Counts.{Counts}
use Rattle.text.specs.declared.Reading.{Reading}
use Rattle.records.specs.Sets.{most_threads, most_statements, record_length, most_records}

-- the threads, and the cells, that are kept
abbrev pub threads_kept : Reading → List ℕ → Threads
threads_kept r draft = threads_in draft r.ended r.counts

abbrev pub cells_kept : Reading → List ℕ → List Cell
cells_kept r keys = cells_of (take r.cells keys)

-- how many statements the open section has
abbrev pub open_count : Reading → ℕ
open_count r = get_or r.counts r.ended 0

-- no thread has more statements than there is room for, and the draft has room for four threads
abbrev pub Sound : Reading → List ℕ → Type 0
Sound r draft = ((t : ℕ) → get_or r.counts t 0 ≤ most_statements) × (length draft ≡ draft_length)

-- T, the threads so far, may be kept: r says that they fit, and keeps them
abbrev pub Keeps : Reading → List ℕ → Threads → Type 0
Keeps r draft T = r.fits ≡ true → threads_kept r draft ≡ T

-- a statement more in the open section; where there is no room for it the threads do not fit
pub record Adds (x : Stated) (r : Reading) (draft : List ℕ) (r' : Reading) (draft' : List ℕ) : Type 0 where
  pub fits : r'.fits ≡ (r.fits && ltb r.ended most_threads && ltb (open_count r) most_statements)
  pub ended : r'.ended ≡ r.ended
  pub cells : r'.cells ≡ r.cells
  pub line : r'.line ≡ r.line
  pub sound : Sound r draft → Sound r' draft'
  pub threads : Sound r draft → Keeps r' draft' (added x (threads_kept r draft))

-- the open section's end; a thread without statements, or without room for the HALT it gains, does not fit
pub record Closes (r : Reading) (draft : List ℕ) (r' : Reading) (draft' : List ℕ) : Type 0 where
  pub fits : r'.fits ≡ (r.fits && ltb r.ended most_threads && ltb 0 (open_count r)
      && (is_last (block_at draft (most_statements * r.ended + (open_count r - 1))).number || ltb (open_count r) most_statements))
  pub ended : r'.ended ≡ r.ended + 1
  pub cells : r'.cells ≡ r.cells
  pub line : r'.line ≡ r.line
  pub sound : Sound r draft → Sound r' draft'
  pub threads : Sound r draft → Keeps r' draft' (closed (threads_kept r draft))

-- a cell more; up to 128 are kept, and 129 stands for more
pub record Maps (c : Cell) (r : Reading) (keys : List ℕ) (r' : Reading) (keys' : List ℕ) : Type 0 where
  pub fits : r'.fits ≡ r.fits
  pub ended : r'.ended ≡ r.ended
  pub counts : r'.counts ≡ r.counts
  pub line : r'.line ≡ r.line
  pub number : r.cells ≤ set_cells + 1 → length keys ≡ set_cells → r'.cells ≡ min (r.cells + 1) (set_cells + 1)
  pub room : length keys' ≡ length keys
  pub cells : length keys ≡ set_cells → r'.cells ≤ set_cells → cells_kept r' keys' ≡ inserted c (cells_kept r keys)

-- what refuses line l
abbrev pub line_refusal : List ℕ → ℕ → Option Refusal
line_refusal l left = cond (is_dot l) None (cond (eqb left 0) (result_err (map_line l)) (result_err (statement_line l)))

-- the threads after line l, and the cells; `left` counts the dots from l on
abbrev pub threads_after : List ℕ → ℕ → Threads → Threads
threads_after l left T = cond (is_dot l) (closed T) (cond (eqb left 0) T (line_added l T))

abbrev pub cells_after : List ℕ → ℕ → List Cell → List Cell
cells_after l left ds = cond (is_dot l) ds (cond (eqb left 0) (cell_added l ds) ds)

-- n statements in a section are too many, or, where it has ended, too few
abbrev pub misfits : Bool → ℕ → Bool
misfits ended n = ltb most_statements n || ended && eqb n 0

-- a line taken that is not refused, and what is kept after it; threads that cease to fit have a section with too many statements or too few
pub record Takes (l : List ℕ) (left : ℕ) (r : Reading) (draft keys : List ℕ) (r' : Reading) (draft' keys' : List ℕ) : Type 0 where
  pub good : line_refusal l left ≡ None
  pub line : r'.line ≡ r.line + 1
  pub ended : r'.ended ≡ r.ended + cond (is_dot l) 1 0
  pub sound : Sound r draft → Sound r' draft'
  pub threads : Sound r draft → r'.fits ≡ true → (r.fits ≡ true) × (threads_kept r' draft' ≡ threads_after l left (threads_kept r draft))
  pub same : is_dot l ≡ false → eqb left 0 ≡ true → r'.fits ≡ r.fits
  pub some : r'.fits ≡ true → is_dot l ≡ true → 0 < open_count r
  pub lost : Sound r draft → r.fits ≡ true → r.ended < most_threads → r'.fits ≡ false → misfits (is_dot l) ((threads_after l left (threads_kept r draft)).count r.ended) ≡ true
  pub room : length keys' ≡ length keys
  pub number : r.cells ≤ set_cells + 1 → length keys ≡ set_cells → r'.cells ≡ cond (not (is_dot l) && eqb left 0 && holds (map_line l)) (min (r.cells + 1) (set_cells + 1)) r.cells
  pub cells : length keys ≡ set_cells → r'.cells ≤ set_cells → cells_kept r' keys' ≡ cells_after l left (cells_kept r keys)

-- a line taken, or refused
abbrev pub TakesLine : (l : List ℕ) (left : ℕ) (r : Reading) (draft keys : List ℕ) → Result Reading Refusal → (draft' keys' : List ℕ) → Type 0
TakesLine l left r draft keys a draft' keys' =
    MatchResult a (λ r'. Takes l left r draft keys r' draft' keys') (λ refusal. line_refusal l left ≡ Some refusal)

-- the lines of a text taken, none of which is refused
pub record Reads (text : List ℕ) (r : Reading) (draft keys : List ℕ) : Type 0 where
  pub passed : (next : Result Counts Refused) → in_lines 1 (lines text) next ≡ next
  pub ended : (threads (lines text)).ended ≡ r.ended
  pub sound : Sound r draft
  pub kept : r.fits ≡ true → threads (lines text) ≡ threads_kept r draft
  pub fit : r.fits ≡ true → statements_fit (threads (lines text)) ≡ true
  pub lost : r.fits ≡ false → threads_fit (threads (lines text)) ≡ true → statements_fit (threads (lines text)) ≡ false
  pub few : r.cells ≤ set_cells → (cells (lines text) ≡ cells_kept r keys) × (length (cells (lines text)) ≡ r.cells)
  pub many : set_cells < r.cells → set_cells < length (cells (lines text))

-- the first line that is refused, or what is kept of all
abbrev pub ReadsLines : List ℕ → Result Reading Refused → List ℕ → List ℕ → Type 0
ReadsLines text a draft keys = MatchResult a (λ r. Reads text r draft keys) (λ e. (next : Result Counts Refused) → in_lines 1 (lines text) next ≡ Err e)

-- the same of a text that may be too long: a refusal is the answer, whatever the room
abbrev pub ReadsText : List ℕ → Result Reading Refused → List ℕ → List ℕ → Type 0
ReadsText text a draft keys =
    MatchResult a (λ r. (length text ≤ longest_text) × Reads text r draft keys) (λ e. (set_room map_room : ℕ) → answer text set_room map_room ≡ Err e)

-- what is kept stands for threads T
pub record ThreadsStand (r : Reading) (draft : List ℕ) (T : Threads) : Type 0 where
  pub ended : T.ended ≡ r.ended
  pub fits : r.fits ≡ true → statements_fit T ≡ true
  pub kept : r.fits ≡ true → T ≡ threads_kept r draft
  pub lost : r.fits ≡ false → threads_fit T ≡ true → statements_fit T ≡ false

-- and for cells cs
pub record CellsStand (r : Reading) (keys : List ℕ) (cs : List Cell) : Type 0 where
  pub few : r.cells ≤ set_cells → (cs ≡ cells_kept r keys) × (length cs ≡ r.cells)
  pub many : set_cells < r.cells → set_cells < length cs
  pub accepted : map_fits cs ≡ map_accepted set_cells (map_bytes cs)

-- 4, 5 or 6, where one of them refuses
abbrev pub threads_judged : Threads → Result (Unit {0}) Refusal
threads_judged T = cond (threads_fit T) (cond (statements_fit T) (cond (labels_fit T) (Ok tt) (Err ByLabel)) (Err ByStatements)) (Err ByThreads)

-- the checks of the whole text, 4 to 8
unfoldable pub checked : Threads → List Cell → Result Counts Refused
checked T cs =
    cond (not (threads_fit T)) (refused_by ByThreads)
    (cond (not (statements_fit T)) (refused_by ByStatements)
    (cond (not (labels_fit T)) (refused_by ByLabel)
    (cond (not (checkpoints_fit (set_bytes T))) (refused_by ByCheckpoints)
    (cond (not (map_fits cs)) (refused_by ByMap)
    (Ok (record { statements = statements T; cells = length cs }))))))

-- the records stand at the start of work memory, where the answer is not a refusal
abbrev pub RecordsWritten : Result Counts Refused → Threads → List Cell → List ℕ → List ℕ → Type 0
RecordsWritten (Ok counts) T cs set map =
    (take (record_length * counts.statements) set ≡ set_bytes T) × (take (cell_length * counts.cells) map ≡ map_bytes cs) × (counts.statements ≤ most_records) × (counts.cells ≤ set_cells)
RecordsWritten (Err e) T cs set map = Unit {0}

pub record Judges (r : Reading) (draft keys : List ℕ) (a : Result Counts Refused) (set map : List ℕ) : Type 0 where
  pub answer : (T : Threads) (cs : List Cell) → ThreadsStand r draft T → CellsStand r keys cs → a ≡ checked T cs
  pub written : (T : Threads) (cs : List Cell) → ThreadsStand r draft T → CellsStand r keys cs → RecordsWritten a T cs set map

-- 11 after the other checks
abbrev pub roomed : ℕ → ℕ → Result Counts Refused → Result Counts Refused
roomed set_room map_room (Ok counts) = cond (leb (record_length * counts.statements) set_room && leb (cell_length * counts.cells) map_room) (Ok counts) (refused_by ByRoom)
roomed set_room map_room (Err e) = Err e

-- the records that an answer counts, at the start of work memory
abbrev pub set_part : Result Counts Refused → List ℕ → List ℕ
set_part (Ok counts) bytes = take (record_length * counts.statements) bytes
set_part (Err e) bytes = []

abbrev pub map_part : Result Counts Refused → List ℕ → List ℕ
map_part (Ok counts) bytes = take (cell_length * counts.cells) bytes
map_part (Err e) bytes = []

-- at most 128 statements and 128 cells
abbrev pub Few : Counts → Type 0
Few counts = (counts.statements ≤ most_records) × (counts.cells ≤ set_cells)
