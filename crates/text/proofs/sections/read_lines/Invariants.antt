-- `text::sections::read_lines` meets its contract. Assumes nothing.
use Rattle.std.proofs.Common.{◌≡◌}
use Rattle.text.proofs.Loop.{At}
use Rattle.text.specs.Sections.{dots}
use Rattle.text_reader.specs.Readers.{lines_left}
use Rattle.text_lines.specs.Lines.{lines}
use Rattle.text.proofs.sections.read_lines.Given as goal

abbrev pub invariant-loop-l : goal.invariant-loop-l
invariant-loop-l l = (l.total ≡ dots (lines l.text)) × At l.text l.r l.draft l.keys (lines_left l.l-iterator)
