-- `text::threads::is_named` meets its contract. Assumes nothing.
use Rattle.std.proofs.Common.{ap, not}
use Rattle.text.proofs.threads.is_named.Goals as goal

pub returns : goal.returns
returns c = ap not c.same_label.ensures
