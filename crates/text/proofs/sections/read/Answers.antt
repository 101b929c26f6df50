-- `text::sections::read` meets its contract. Assumes nothing.
use Rattle.std.proofs.Common.{Err, ap, ◌∙◌, sym}
use Rattle.std.specs.Prelude.{Result, Ok}
use Rattle.records.specs.declared.refusals.Refused.{Refused}
use Rattle.text.specs.Readings.{ReadsLines, ReadsText}
use Rattle.text.specs.declared.Reading.{Reading}
use Rattle.text.proofs.Whole.{answer-long, answer-line}
use Rattle.text.proofs.sections.read.Goals as goal

pub returns-then-text-gt-TEXT : goal.returns-then-text-gt-TEXT
returns-then-text-gt-TEXT c = λ a b. answer-long c.args.text.now a b c.if-text-gt-TEXT.true ∙ sym (ap (λ (e : Refused). Err e) c.into.ensures)

pub returns : goal.returns
returns c = of c.read_lines.result c.read_lines.ensures
  where
    of : (a : Result Reading Refused) → ReadsLines c.args.text.now a c.read_lines.new.draft c.read_lines.new.keys → ReadsText c.args.text.now a c.read_lines.new.draft c.read_lines.new.keys
    of (Ok r) reads = (c.if-text-gt-TEXT.false, reads)
    of (Err e) refused = λ a b. answer-line c.args.text.now a b e c.if-text-gt-TEXT.false refused
