-- A reader stands at a byte of the text and gives the lines from there on (document 01, "Set text"). This serves the code; no call's promise needs it.
-- Assumes nothing.
use Rattle.std.specs.Prelude.{ℕ, ◌+◌, ◌≡◌, cond, List, [], leb, length, drop, Option}
use Rattle.std.specs.Borrow.{Bor}
use Rattle.std.specs.Iterator.{YieldsFirstRef}
use Rattle.text_lines.specs.Characters.{is_in_line, run}
use Rattle.text_lines.specs.Lines.{lines}
use Rattle.text_reader.specs.declared.Line.{Line}
use Rattle.text_reader.specs.declared.Reader.{Reader}

-- where the line ends that starts at byte i
unfoldable pub line_end : List ℕ → ℕ → ℕ
line_end text i = i + run is_in_line (drop i text)

-- where the next one starts: past the LF; past the text no line follows
unfoldable pub next_start : List ℕ → ℕ → ℕ
next_start text i = cond (leb i (length text)) (line_end text i + 1) i

abbrev pub line_at : List ℕ → ℕ → Line
line_at text i = record { end = line_end text i; next = next_start text i }

-- a reader, moved to the next line
abbrev pub moved_on : Reader → Reader
moved_on r = record { text = r.text; at = next_start r.text.now r.at }

-- the lines that start at byte i or after it; none past the end
unfoldable pub lines_from : List ℕ → ℕ → List (List ℕ)
lines_from text i = cond (leb i (length text)) (lines (drop i text)) []

-- those that a reader gives
abbrev pub lines_left : Reader → List (List ℕ)
lines_left r = lines_from r.text.now r.at

-- a reader gave the first of those, or none where none was left, and moved on from r to s
abbrev pub GivesLine : Reader → Option (Bor (List ℕ)) → Reader → Type 0
GivesLine r line s = YieldsFirstRef lines_left r line s × (s ≡ moved_on r)
