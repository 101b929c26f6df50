-- Demand 2 for texts: "A set text is accepted exactly when it follows document 01, and its records say what the text says." specs/Sections.antt says
-- what a text's threads and cells are. Statements alone; proofs/Texts.antt proves them. Assumes nothing.
use Rattle.std.specs.Prelude.{ℕ, ◌+◌, ◌*◌, ◌≤◌, ◌<◌, ◌≡◌, true, false, cond, List, [], ◌∷◌, Option, None, Some, Result, Ok, Err, ◌⊎◌, ◌↔◌, ltb, length, take, drop}
use Rattle.std.specs.Result.{result_err}
use Rattle.records.specs.Instructions.{CHECK, is_jump}
use Rattle.records.specs.Maps.{address_at, value_at, map_accepted}
use Rattle.records.specs.Maps.{cells as cells_in}
use Rattle.records.specs.Sets.{set_of, set_accepted}
use Rattle.text_lines.specs.Lines.{lines, is_dot, statement_line, map_line}
use Rattle.records.specs.Refusals.{number}
use Rattle.records.specs.declared.Cell.{Cell}
use Rattle.records.specs.declared.refusals.Refusal.{Refusal}
use Rattle.records.specs.declared.refusals.Refusal.TheVariants.{Malformed, Number}
use Rattle.records.specs.declared.refusals.Refused.{Refused}
use Rattle.text_lines.specs.declared.Stated.{Stated}
use Rattle.text.specs.Sections.{Threads, threads, cells}
use Rattle.text.specs.Records.{is_named, statements, map_cell, set_bytes, map_bytes}
use Rattle.text.specs.Answers.{answer, set_output, map_output}
use Rattle.text.specs.declared.Counts.{Counts}
use Rattle.claims.specs.Sections.{line, sections, section_of}

-- a text is refused by this number at this line
abbrev pub Refuses : Result Counts Refused → (digits line : ℕ) → Type 0
Refuses answer digits line = (r : Refused) × (answer ≡ Err r) × (number r.refusal ≡ digits) × (r.place ≡ line)

-- ---- the rules, by the row that refuses what breaks them

-- 1: at most 16,384 bytes
abbrev pub SizeFollows : List ℕ → Type 0
SizeFollows text = length text ≤ 16384

-- what refuses line i: as a thread's line where a dot line ends its section, else as one of the map
abbrev pub refusal_of : List ℕ → ℕ → Option Refusal
refusal_of text i = cond (ltb (section_of text i) (sections text)) (result_err (statement_line (line text i))) (result_err (map_line (line text i)))

-- 2 and 3: a line is a dot line, or empty, or holds what it may hold
abbrev pub LineFollows : List ℕ → ℕ → Type 0
LineFollows text i = (is_dot (line text i) ≡ true) ⊎ (refusal_of text i ≡ None)

abbrev pub LinesFollow : List ℕ → Type 0
LinesFollow text = (i : ℕ) → i < length (lines text) → LineFollows text i

-- 4: 1 to 4 threads
abbrev pub ThreadsFollow : Threads → Type 0
ThreadsFollow T = (1 ≤ T.ended) × (T.ended ≤ 4)

-- 5: 1 to 32 statements in each
abbrev pub StatementsFollow : Threads → Type 0
StatementsFollow T = (t : ℕ) → t < T.ended → (1 ≤ T.count t) × (T.count t ≤ 32)

-- what holds of every statement, thread t's statement p
abbrev pub Each : Threads → (ℕ → ℕ → Type 0) → Type 0
Each T Holds = (t p : ℕ) → t < T.ended → p < T.count t → Holds t p

-- no statement before p has its label
abbrev pub NotDoubled : (ℕ → Stated) → ℕ → Type 0
NotDoubled x p = (q : ℕ) → q < p → is_named (x p).label ≡ true → (x q).label ≡ (x p).label → ⊥

-- a jump's target is one of the n statements of its thread, by number or by label
pub record TargetKnown (n : ℕ) (x : ℕ → Stated) (jump : Stated) : Type 0 where
  pub number : is_named jump.target ≡ false → jump.argument < n
  pub label : is_named jump.target ≡ true → (q : ℕ) × (q < n) × ((x q).label ≡ jump.target)

-- 6: no label doubled in its thread, every target known
abbrev pub LabelsFollow : Threads → Type 0
LabelsFollow T = Each T (λ t p.
    NotDoubled (T.statement t) p × (is_jump (T.statement t p).number ≡ true → TargetKnown (T.count t) (T.statement t) (T.statement t p)))

-- a number is one of a list
abbrev pub Among : ℕ → List ℕ → Type 0
Among n [] = ⊥
Among n (m ∷ ms) = (n ≡ m) ⊎ Among n ms

-- 7: at most 8 numbers, among which every CHECK's is
abbrev pub CheckpointsFollow : Threads → Type 0
CheckpointsFollow T = (eight : List ℕ) × (length eight ≤ 8) × Each T (λ t p. (T.statement t p).number ≡ CHECK → Among (T.statement t p).argument eight)

-- 8: at most 128 cells, no address doubled
abbrev pub MapFollows : List Cell → Type 0
MapFollows cs = (length cs ≤ 128) × ((i j : ℕ) → i < length cs → j < i → (map_cell cs j).address ≡ (map_cell cs i).address → ⊥)

-- a set text follows document 01
pub record Follows (text : List ℕ) : Type 0 where
  pub row1 : SizeFollows text
  pub rows2and3 : LinesFollow text
  pub row4 : ThreadsFollow (threads (lines text))
  pub row5 : StatementsFollow (threads (lines text))
  pub row6 : LabelsFollow (threads (lines text))
  pub row7 : CheckpointsFollow (threads (lines text))
  pub row8 : MapFollows (cells (lines text))

-- ---- accepted exactly

-- 11: the lent outputs have room for the records
abbrev pub Room : List ℕ → ℕ → ℕ → Type 0
Room text set_room map_room = (8 * statements (threads (lines text)) ≤ set_room) × (4 * length (cells (lines text)) ≤ map_room)

-- where there is room, a text that follows document 01 is read, and no other; any other text is refused, whatever the room
pub record Decided (text : List ℕ) (set_room map_room : ℕ) : Type 0 where
  pub accepted : Room text set_room map_room →
      answer text set_room map_room ≡ Ok (record { statements = statements (threads (lines text)); cells = length (cells (lines text)) }) ↔ Follows text
  pub short : Follows text → (Room text set_room map_room → ⊥) → Refuses (answer text set_room map_room) 11 0
  pub refused : (Follows text → ⊥) → (r : Refused) × (answer text set_room map_room ≡ Err r)

-- A set text is accepted exactly when it follows document 01.
abbrev pub AcceptedExactly : Type 0
AcceptedExactly = (text : List ℕ) (set_room map_room : ℕ) → Decided text set_room map_room

-- ---- refused by the first row that is broken

-- line i is the first that breaks the rules, and this refuses it
pub record FirstLine (text : List ℕ) (i : ℕ) (refusal : Refusal) : Type 0 where
  pub inside : i < length (lines text)
  pub before : (j : ℕ) → j < i → LineFollows text j
  pub no_dot : is_dot (line text i) ≡ false
  pub is_refused : refusal_of text i ≡ Some refusal

-- Texts: 1, then lines in order, then 4 to 8. Place is the line (from 1) for 2 and 3, else 0. T and cs are the text's threads and cells.
pub record Refusals (text : List ℕ) (T : Threads) (cs : List Cell) (r : Result Counts Refused) : Type 0 where
  pub row1 : (SizeFollows text → ⊥) → Refuses r 1 0
  pub row2 : SizeFollows text → (i : ℕ) → FirstLine text i Malformed → Refuses r 2 (i + 1)
  pub row3 : SizeFollows text → (i : ℕ) → FirstLine text i Number → Refuses r 3 (i + 1)
  -- a line is refused with 2 or 3 alone, so rows 2 and 3 speak of every line that breaks the rules
  pub row2or3 : (i : ℕ) (refusal : Refusal) → refusal_of text i ≡ Some refusal → (refusal ≡ Malformed) ⊎ (refusal ≡ Number)
  pub row4 : SizeFollows text → LinesFollow text → (ThreadsFollow T → ⊥) → Refuses r 4 0
  pub row5 : SizeFollows text → LinesFollow text → ThreadsFollow T → (StatementsFollow T → ⊥) → Refuses r 5 0
  pub row6 : SizeFollows text → LinesFollow text → ThreadsFollow T → StatementsFollow T → (LabelsFollow T → ⊥) → Refuses r 6 0
  pub row7 : SizeFollows text → LinesFollow text → ThreadsFollow T → StatementsFollow T → LabelsFollow T → (CheckpointsFollow T → ⊥) → Refuses r 7 0
  pub row8 : SizeFollows text → LinesFollow text → ThreadsFollow T → StatementsFollow T → LabelsFollow T → CheckpointsFollow T →
      (MapFollows cs → ⊥) → Refuses r 8 0

abbrev pub RefusedInOrder : Type 0
RefusedInOrder = (text : List ℕ) (set_room map_room : ℕ) → Refusals text (threads (lines text)) (cells (lines text)) (answer text set_room map_room)

-- ---- records

-- the set's records hold these threads; labels become pcs
pub record SetSays (set : List ℕ) (T : Threads) : Type 0 where
  pub threads : (set_of set).threads ≡ T.ended
  pub counts : (t : ℕ) → t < T.ended → (set_of set).count t ≡ T.count t
  pub numbers : Each T (λ t p. ((set_of set).statement t p).number ≡ (T.statement t p).number)
  pub modes : Each T (λ t p. ((set_of set).statement t p).mode ≡ (T.statement t p).mode)
  pub arguments : Each T (λ t p. is_named (T.statement t p).target ≡ false → ((set_of set).statement t p).argument ≡ (T.statement t p).argument)
  pub labels : Each T (λ t p. is_named (T.statement t p).target ≡ true →
      (T.statement t ((set_of set).statement t p).argument).label ≡ (T.statement t p).target)

-- the map's records hold these cells
pub record MapSays (map : List ℕ) (cs : List Cell) : Type 0 where
  pub count : cells_in map ≡ length cs
  pub addresses : (k : ℕ) → k < length cs → address_at map k ≡ (map_cell cs k).address
  pub values : (k : ℕ) → k < length cs → value_at map k ≡ (map_cell cs k).value

-- the records of a text are accepted and say what it says
pub record RecordsSay (text : List ℕ) : Type 0 where
  pub accepted_set : set_accepted (set_bytes (threads (lines text))) ≡ true
  pub accepted_map : map_accepted 128 (map_bytes (cells (lines text))) ≡ true
  pub set_says : SetSays (set_bytes (threads (lines text))) (threads (lines text))
  pub map_says : MapSays (map_bytes (cells (lines text))) (cells (lines text))

abbrev pub RecordsSayTheText : Type 0
RecordsSayTheText = (text : List ℕ) → Follows text → RecordsSay text

-- ---- the lent outputs

-- bytes written from an output's start on; those beyond them stay
pub record WrittenOver (bytes before after : List ℕ) : Type 0 where
  pub start : take (length bytes) after ≡ bytes
  pub beyond : drop (length bytes) after ≡ drop (length bytes) before
  pub size : length after ≡ length before

-- what two lent outputs hold after the answer r
pub record Outputs (text set map : List ℕ) (r : Result Counts Refused) : Type 0 where
  pub read : Follows text → Room text (length set) (length map) →
      WrittenOver (set_bytes (threads (lines text))) set (set_output r text set) × WrittenOver (map_bytes (cells (lines text))) map (map_output r text map)
  pub short : (Room text (length set) (length map) → ⊥) → (set_output r text set ≡ set) × (map_output r text map ≡ map)
  pub refused : (Follows text → ⊥) → (set_output r text set ≡ set) × (map_output r text map ≡ map)

-- Reading writes the records where it accepts a text, and nothing where it refuses one.
abbrev pub OutputsHoldTheRecords : Type 0
OutputsHoldTheRecords = (text set map : List ℕ) → Outputs text set map (answer text (length set) (length map))
