-- `text::threads::fits` meets its contract. Assumes nothing.
use Rattle.std.proofs.Common.{not, true, ◌&&◌, ◌≡◌}
use Rattle.text.specs.Answers.{doubled_at, target_fits}
use Rattle.text.specs.Drafts.{drafted}
use Rattle.base.specs.Below.{every}
use Rattle.text.proofs.threads.fits.Given as goal

abbrev pub invariant-loop-p : goal.invariant-loop-p
invariant-loop-p l = every l.p (λ q. not (doubled_at (drafted l.draft l.t l.n) q) && target_fits l.n (drafted l.draft l.t l.n) q) ≡ true
