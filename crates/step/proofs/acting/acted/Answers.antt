-- `step::acting::acted` meets its contract. Assumes nothing.
use Rattle.std.proofs.Common.{ap, sym, ◌∙◌}
use Rattle.step.specs.Acting.{thread_from}
use Rattle.machine.specs.declared.Choice.{Choice}
use Rattle.step.proofs.acting.acted.Goals as goal

pub returns-in-Execute : goal.returns-in-Execute
returns-in-Execute c =
    let a = c.args in
    c.executed.ensures ∙ ap (λ (k : Choice). thread_from k a.i a.o.address a.o.word a.x) (sym c.in-Execute.is)

pub returns-in-Flush : goal.returns-in-Flush
returns-in-Flush c =
    let a = c.args in
    ap (λ (k : Choice). thread_from k a.i a.o.address a.o.word a.x) (sym c.in-Flush.is)
