-- `text::threads::assemble` meets its contract. Assumes nothing.
use Rattle.std.proofs.Common.{arith, refl, ◌∙◌}
use Rattle.text.proofs.Fitting.{few-four}
use Rattle.base.proofs.Choice.{clash}
use Rattle.text.proofs.threads.assemble.Goals.{then-ended-gt-THREADS-via-then-ended-gt-THREADS, then-ended-gt-THREADS-via-else-ended-gt-THREADS+then-not-counts_fit, then-ended-gt-THREADS-via-else-ended-gt-THREADS+else-not-counts_fit+then-set-lt-SET}
use Rattle.text.proofs.threads.assemble.Goals as goal

pub returns-then-ended-gt-THREADS : goal.returns-then-ended-gt-THREADS
returns-then-ended-gt-THREADS c = (
  (λ four few room. elim c.then-ended-gt-THREADS.branch [
    | then-ended-gt-THREADS-via-then-ended-gt-THREADS w ↦ absurd (omega (arith, four, w.if-ended-gt-THREADS.true))
    | then-ended-gt-THREADS-via-else-ended-gt-THREADS+then-not-counts_fit w ↦ clash (w.counts_fit.ensures.0 ∙ few-four c.args.counts few) w.if-not-counts_fit.true
    | then-ended-gt-THREADS-via-else-ended-gt-THREADS+else-not-counts_fit+then-set-lt-SET w ↦ absurd (omega (arith, room, w.if-set-lt-SET.true))
  ]),
  refl,
)
