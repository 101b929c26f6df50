-- `text_reader::Reader::next` meets its contract. Assumes nothing.
use Rattle.std.proofs.Common.{ℕ, length, ap, sym, arith}
use Rattle.text_reader.specs.declared.Line.{Line}
use Rattle.text_reader.proofs.Pieces.{line-past, lines-given, next-given, lines_end}
use Rattle.text_reader.proofs.ReaderIterator.next.Goals as goal

pub returns-in_err-rest-clause-steps : goal.returns-in_err-rest-clause-steps
returns-in_err-rest-clause-steps c =
    let r = c.args.self.now in
    let past = c.in_err-rest.ensures.lookup in
    let none = lines_end r.text.now r.at (omega (arith, past)) in
    let stays = ap (λ (l : Line). record { text = r.text; at = l.next }) (sym (line-past r.text.now r.at (omega (arith, past)))) in
    rw c.from_residual.ensures ((none, none), stays)

pub returns-clause-steps : goal.returns-clause-steps
returns-clause-steps c =
    let r = c.args.self.now in
    let found = c.in_ok-rest.ensures.lookup.0 in (
      lines-given r.text.now r.at _ _ found.0 found.2 c.line_length.ensures,
      ap (λ (i : ℕ). record { text = r.text; at = i }) (sym (next-given r.text.now r.at _ _ found.0 found.2 c.line_length.ensures)),
    )

pub returns-clause-goes : goal.returns-clause-goes
returns-clause-goes c =
    let r = c.args.self.now in
    let found = c.in_ok-rest.ensures.lookup.0 in
    let e = lines-given r.text.now r.at _ _ found.0 found.2 c.line_length.ensures in
    grind (arith, ap length e)
