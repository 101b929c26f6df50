-- `text::threads::find` meets its contract. Assumes nothing.
use Rattle.std.proofs.Common.{◌*◌, ◌+◌, ◌≡◌}
use Rattle.text_drafts.specs.Blocks.{block_at}
use Rattle.base.specs.Below.{least}
use Rattle.base.specs.Bytes.{same}
use Rattle.text.proofs.threads.find.Given as goal

abbrev pub invariant-loop-p : goal.invariant-loop-p
invariant-loop-p l = least l.p (λ q. same (block_at l.draft (32 * l.t + q)).label l.label) ≡ l.p
