-- `text::threads::write` meets its contract. Assumes nothing.
use Rattle.std.proofs.Common.{length, take, ◌*◌, ◌++◌, ◌+◌, ◌≡◌}
use Rattle.text.specs.Records.{joined, statement_bytes}
use Rattle.text.specs.Drafts.{drafted}
use Rattle.text.proofs.threads.write.Given as goal

abbrev pub invariant-loop-p : goal.invariant-loop-p
invariant-loop-p l = (length l.set ≡ length l.initial.set) × (take (l.start + 8 * l.p) l.set ≡ take l.start l.initial.set ++ joined l.p (statement_bytes l.t l.n (drafted l.draft l.t l.n)))
