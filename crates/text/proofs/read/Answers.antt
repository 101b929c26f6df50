-- `text::read` meets its contract. Assumes nothing.
use Rattle.std.proofs.Common.{◌≡◌, Ok, Err, arith, length, refl, rules, sym, ◌∙◌}
use Rattle.text.specs.Sections.{threads, cells}
use Rattle.text.specs.Answers.{set_output, map_output}
use Rattle.text.proofs.Whole.{threads_stand, cells_stand, answer-is, set_output_lem, map_output_lem}
use Rattle.text_lines.specs.Lines.{lines}
use Rattle.text.proofs.read.Goals as goal

pub returns-in_err-r : goal.returns-in_err-r
unfolding set_output map_output
returns-in_err-r c =
    let from : c.from_residual.result ≡ Err c.in_err-r.field-0.0 = grind arith in
    rw from (sym (c.in_err-r.ensures (length c.args.set.now) (length c.args.map.now)), refl, refl)

pub returns-in_err-counts : goal.returns-in_err-counts
unfolding set_output map_output
returns-in_err-counts c =
    let text = c.args.text.now in
    let kept = c.in_ok-r.ensures in
    let from : c.from_residual-in_err-counts.result ≡ Err c.in_err-counts.field-0.0 = grind arith in
    let ts = threads_stand text _ _ _ kept.1 in
    let st = cells_stand text _ _ _ kept.1 in
    let j = c.in_err-counts.ensures in
    rw from (answer-is text (length c.args.set.now) (length c.args.map.now) (Err c.in_err-counts.field-0.0) kept.0 kept.1.passed (j.answer (threads (lines text)) (cells (lines text)) ts st), refl, refl)

pub finish-requires : goal.finish-requires
finish-requires c =
    let text = c.args.text.now in
    let kept = c.in_ok-r.ensures in
    let w = c.in_ok-counts.ensures.written (threads (lines text)) (cells (lines text)) (threads_stand text _ _ _ kept.1) (cells_stand text _ _ _ kept.1) in
    ((w.2, w.3), search rules, search rules)

pub returns : goal.returns
returns c =
    let text = c.args.text.now in
    let kept = c.in_ok-r.ensures in
    let ts = threads_stand text _ _ _ kept.1 in
    let st = cells_stand text _ _ _ kept.1 in
    let j = c.in_ok-counts.ensures in
    let w = j.written (threads (lines text)) (cells (lines text)) ts st in
    let f = c.finish.ensures in
    let counts = c.in_ok-counts.counts in (
      f.0 ∙ answer-is text (length c.args.set.now) (length c.args.map.now) (Ok counts) kept.0 kept.1.passed (j.answer (threads (lines text)) (cells (lines text)) ts st),
      f.1 ∙ set_output_lem counts c.finish.result text _ _ c.args.set.now w,
      f.2 ∙ map_output_lem counts c.finish.result text _ _ c.args.map.now w,
    )
