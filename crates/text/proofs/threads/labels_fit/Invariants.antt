-- `text::threads::labels_fit` meets its contract. Assumes nothing.
use Rattle.std.proofs.Common.{get_or, true, ◌≡◌}
use Rattle.text.specs.Drafts.{drafted}
use Rattle.text.specs.Answers.{thread_fits}
use Rattle.base.specs.Below.{every}
use Rattle.text.proofs.threads.labels_fit.Given as goal

abbrev pub invariant-loop-t : goal.invariant-loop-t
invariant-loop-t l = every l.t (λ u. thread_fits (get_or l.counts u 0) (drafted l.draft u (get_or l.counts u 0))) ≡ true
