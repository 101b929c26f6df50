-- `step::acting::statement_of` meets its contract. Assumes nothing.
use Rattle.std.proofs.Common.{ap, sym, ◌∙◌}
use Rattle.machine.specs.declared.Choice.{Choice}
use Rattle.step.specs.Acting.{statement_by}
use Rattle.records.specs.Sets.{set_by}
use Rattle.step.proofs.acting.statement_of.Goals as goal

pub returns-in-Execute : goal.returns-in-Execute
returns-in-Execute c =
    let a = c.args in
    c.fetch.ensures ∙ sym (ap (λ (k : Choice). statement_by (set_by a.set.now a.layout) k a.x) c.in-Execute.is)

pub returns-in-Flush : goal.returns-in-Flush
returns-in-Flush c =
    let a = c.args in
    sym (ap (λ (k : Choice). statement_by (set_by a.set.now a.layout) k a.x) c.in-Flush.is)
