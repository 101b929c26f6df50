-- What a set text holds, by its lines: demand 2's "what the text says". specs/Texts.antt states the rest of that demand. Statements alone; proofs/
-- proves them. Assumes nothing.
use Rattle.std.specs.Prelude.{ℕ, ◌+◌, ◌-◌, ◌<◌, ◌≡◌, Bool, true, false, not, ◌&&◌, List, [], ◌∷◌, ◌++◌, Some, Ok, eqb, length, get_or}
use Rattle.base.specs.Below.{number}
use Rattle.records.specs.Instructions.{is_last}
use Rattle.text_lines.specs.Characters.{name}
use Rattle.text_lines.specs.Lines.{lines, is_dot, is_label, padded, statement_line, map_line}
use Rattle.text_lines.specs.declared.Stated.{Stated}
use Rattle.records.specs.declared.Cell.{Cell}
use Rattle.text.specs.Sections.{Threads, holds, halt, threads, cells}
use Rattle.text.specs.Records.{is_named, map_cell}

-- ---- lines

-- lines one after the other, an LF between two
unfoldable pub with_lf : List (List ℕ) → List ℕ
with_lf [] = []
with_lf (l ∷ []) = l
with_lf (l ∷ m ∷ ls) = l ++ 10 ∷ with_lf (m ∷ ls)

-- the lines are the text, and no line has an LF
pub record LinesOf (text : List ℕ) (ls : List (List ℕ)) : Type 0 where
  pub joined : with_lf ls ≡ text
  pub parted : (i j : ℕ) → i < length ls → j < length (get_or ls i []) → get_or (get_or ls i []) j 0 ≡ 10 → ⊥

abbrev pub LinesPartTheText : Type 0
LinesPartTheText = (text : List ℕ) → LinesOf text (lines text)

-- line i of a text, from 0
abbrev pub line : List ℕ → ℕ → List ℕ
line text i = get_or (lines text) i []

-- Sections end at a dot line: how many there are, and the one that line i stands in, from 0. What follows the last dot is the map.
abbrev pub sections : List ℕ → ℕ
sections text = number (length (lines text)) (λ i. is_dot (line text i))

abbrev pub section_of : List ℕ → ℕ → ℕ
section_of text i = number i (λ j. is_dot (line text j))

-- ---- threads

-- line i holds a statement of section s
abbrev pub holds_statement : List ℕ → ℕ → ℕ → Bool
holds_statement text s i = eqb (section_of text i) s && not (is_dot (line text i)) && holds (statement_line (line text i))

-- how many statements of section s stand before line i
abbrev pub statements_before : List ℕ → ℕ → ℕ → ℕ
statements_before text s i = number i (holds_statement text s)

-- A thread of which n statements are written gains a HALT where the last is not EXIT, JMP or HALT; an empty one gains none.
pub record Gains (n count : ℕ) (x : ℕ → Stated) : Type 0 where
  pub empty : n ≡ 0 → count ≡ 0
  pub ended : 0 < n → is_last (x (n - 1)).number ≡ true → count ≡ n
  pub gained : 0 < n → is_last (x (n - 1)).number ≡ false → (count ≡ n + 1) × (x n ≡ halt)

-- Each section is a thread: its statements are those of its lines, in their order, and then the HALT that it may gain.
pub record ThreadsOf (text : List ℕ) (T : Threads) : Type 0 where
  pub count : T.ended ≡ sections text
  pub statements : (s i : ℕ) → s < sections text → i < length (lines text) → holds_statement text s i ≡ true →
      statement_line (line text i) ≡ Ok (Some (T.statement s (statements_before text s i)))
  pub held : (s p : ℕ) → s < sections text → p < statements_before text s (length (lines text)) →
      (i : ℕ) × (i < length (lines text)) × (holds_statement text s i ≡ true) × (statement_line (line text i) ≡ Ok (Some (T.statement s p)))
  pub ends : (s : ℕ) → s < sections text → Gains (statements_before text s (length (lines text))) (T.count s) (T.statement s)

abbrev pub ThreadsAreTheSections : Type 0
ThreadsAreTheSections = (text : List ℕ) → ThreadsOf text (threads (lines text))

-- ---- the map

-- line i holds a cell of the map, which follows the last dot
abbrev pub holds_cell : List ℕ → ℕ → Bool
holds_cell text i = eqb (section_of text i) (sections text) && holds (map_line (line text i))

-- The map's cells are those of its lines.
pub record CellsOf (text : List ℕ) (cs : List Cell) : Type 0 where
  pub count : length cs ≡ number (length (lines text)) (holds_cell text)
  pub listed : (i : ℕ) → i < length (lines text) → holds_cell text i ≡ true → (k : ℕ) × (k < length cs) × (map_line (line text i) ≡ Ok (Some (map_cell cs k)))
  pub held : (k : ℕ) → k < length cs → (i : ℕ) × (i < length (lines text)) × (holds_cell text i ≡ true) × (map_line (line text i) ≡ Ok (Some (map_cell cs k)))

abbrev pub CellsAreTheMap : Type 0
CellsAreTheMap = (text : List ℕ) → CellsOf text (cells (lines text))

-- ---- labels

-- A label filled up to sixteen bytes is told from no label and from every other label.
abbrev pub LabelsStayApart : Type 0
LabelsStayApart =
    (s other : List ℕ) → is_label (name s) ≡ true → is_label (name other) ≡ true →
    (is_named (padded (name s)) ≡ true) × (padded (name s) ≡ padded (name other) → name s ≡ name other)
