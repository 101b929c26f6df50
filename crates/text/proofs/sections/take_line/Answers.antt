-- `text::sections::take_line` meets its contract. Assumes nothing.
use Rattle.std.proofs.Common.{Ok, ap, arith, eq-eqb, ne_eqb, sym, ◌∙◌}
use Rattle.std.specs.Prelude.{Option}
use Rattle.records.specs.declared.Cell.{Cell}
use Rattle.text_lines.specs.declared.Stated.{Stated}
use Rattle.text.proofs.Turns.{took_dot, took_cell, took-no-cell, took_statement, took-no-statement}
use Rattle.text.proofs.sections.take_line.Goals.{then-is_dot, else-is_dot+then-left-eq0+in_ok-cell+in-Some, else-is_dot+then-left-eq0+in_ok-cell+in-None, else-is_dot+else-left-eq0+in_ok-statement+in-Some-2, else-is_dot+else-left-eq0+in_ok-statement+in-None-2}
use Rattle.text.proofs.sections.take_line.Goals as goal

pub returns : goal.returns
returns c = let a = c.args in
    elim c.if-is_dot.branch [
      | then-is_dot w ↦ rw (w.taken-is, w.draft-is, w.keys-is)
          (took_dot a.l.now a.left a.r a.draft.now a.keys.now (sym c.is_dot.ensures ∙ w.if-is_dot.true) _ _ w.close-taken.ensures)
      | else-is_dot+then-left-eq0+in_ok-cell+in-Some w ↦ rw (w.taken-is, w.draft-is, w.keys-is)
          (took_cell a.l.now a.left a.r a.draft.now a.keys.now (sym c.is_dot.ensures ∙ w.if-is_dot.false) (eq-eqb a.left 0 w.if-left-eq0.true) w.in-Some.cell
          (sym w.map_line.ensures ∙ w.in_ok-cell.was ∙ ap (λ (o : Option Cell). Ok o) w.in-Some.is) _ _ w.take.ensures)
      | else-is_dot+then-left-eq0+in_ok-cell+in-None w ↦ rw (w.taken-is, w.draft-is, w.keys-is)
          (took-no-cell a.l.now a.left a.r a.draft.now a.keys.now (sym c.is_dot.ensures ∙ w.if-is_dot.false) (eq-eqb a.left 0 w.if-left-eq0.true)
          (sym w.map_line.ensures ∙ w.in_ok-cell.was ∙ ap (λ (o : Option Cell). Ok o) w.in-None.is))
      | else-is_dot+else-left-eq0+in_ok-statement+in-Some-2 w ↦ rw (w.taken-is, w.draft-is, w.keys-is)
          (took_statement a.l.now a.left a.r a.draft.now a.keys.now (sym c.is_dot.ensures ∙ w.if-is_dot.false) (ne_eqb a.left 0 (omega (arith, w.if-left-eq0.false))) w.in-Some-2.statement
          (sym w.statement_line.ensures ∙ w.in_ok-statement.was ∙ ap (λ (o : Option Stated). Ok o) w.in-Some-2.is) _ _ w.add.ensures)
      | else-is_dot+else-left-eq0+in_ok-statement+in-None-2 w ↦ rw (w.taken-is, w.draft-is, w.keys-is)
          (took-no-statement a.l.now a.left a.r a.draft.now a.keys.now (sym c.is_dot.ensures ∙ w.if-is_dot.false) (ne_eqb a.left 0 (omega (arith, w.if-left-eq0.false)))
          (sym w.statement_line.ensures ∙ w.in_ok-statement.was ∙ ap (λ (o : Option Stated). Ok o) w.in-None-2.is))
    ]
