-- `machine::checkpoints::shuts` meets its contract. Assumes nothing.
use Rattle.std.proofs.Common.{Bool, ap, not, sym, ◌||◌, ◌∙◌}
use Rattle.records.specs.Sets.{set_by}
use Rattle.machine.specs.Machine.{contains}
use Rattle.base.proofs.Choice.{or_no, or_right_true}
use Rattle.machine.proofs.checkpoints.shuts.Goals as goal

pub returns-then-marked_at : goal.returns-then-marked_at
returns-then-marked_at c =
    let a = c.args in
    sym (or_right_true (not (contains (set_by a.set.now a.layout) a.t a.c)) (sym c.marked_at.ensures ∙ c.if-marked_at.true))

pub returns : goal.returns
returns c =
    let a = c.args in
    ap not c.contains.ensures ∙ sym (or_no _) ∙ ap (λ (b : Bool). not (contains (set_by a.set.now a.layout) a.t a.c) || b) (sym c.if-marked_at.false ∙ c.marked_at.ensures)
