-- `text_reader::Reader::next_line` meets its contract. Assumes nothing.
use Rattle.std.proofs.Common.{refl, ap, sym, arith}
use Rattle.text_reader.specs.declared.Line.{Line}
use Rattle.text_reader.proofs.Pieces.{line_bounds, stands-in, line-given, line-none}
use Rattle.text_reader.proofs.Reader.next_line.Goals as goal

pub overflow_add-result : goal.overflow_add-result
overflow_add-result c =
    let r = c.args.self.now in
    let gives = c.in-Some.ensures.steps.0 in
    let l = line-given r.text.now r.at _ _ gives in
    omega (arith, ap (λ (l : Line). l.end) l, (line_bounds r.text.now r.at _ (stands-in r.text.now r.at _ _ gives) refl).1)

pub returns-in-Some : goal.returns-in-Some
returns-in-Some c =
    let r = c.args.self.now in
    let l = line-given r.text.now r.at _ _ c.in-Some.ensures.steps.0 in
    (ap (λ (l : Line). l.end) (sym l), c.in-Some.ensures.steps.1)

pub returns-in-None : goal.returns-in-None
returns-in-None c =
    let r = c.args.self.now in
    let l = line-none r.text.now r.at c.in-None.ensures.steps.0.0 in
    (ap (λ (l : Line). l.end) (sym l), c.in-None.ensures.steps.1)
