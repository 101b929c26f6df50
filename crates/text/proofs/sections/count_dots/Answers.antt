-- `text::sections::count_dots` meets its contract. Assumes nothing.
use Rattle.std.proofs.Common.{rules, tests, length, ap, ◌∙◌}
use Rattle.std.proofs.lemmas.Iterator.Consumers.{YieldsList-from_shown, YieldsList-from_filter, YieldsList-at, count_from_yields_List}
use Rattle.std.proofs.lemmas.List.Sums.{length-filter}
use Rattle.text_lines.specs.Lines.{is_dot}
use Rattle.text_reader.specs.Readers.{GivesLine, lines_left}
use Rattle.text.proofs.sections.count_dots.Goals as goal

pub returns : goal.returns
returns c =
    let gives = YieldsList-from_shown GivesLine (λ l. l.now) lines_left (λ r s e. ap length e.0.0) (λ r l s e. e.0) c.args.lines in
    count_from_yields_List c.filter.result _ c.count.ensures.ran
    (YieldsList-from_filter _ is_dot (YieldsList-at c.filter.ensures.source gives) c.filter.ensures.closure (λ x r q k. search (rules, tests)))
    ∙ length-filter is_dot (lines_left c.args.lines)
