-- `text_drafts::sixteen` meets its contract. Assumes nothing.
use Rattle.base.specs.Below.{every}
use Rattle.text_drafts.proofs.Labels.{same-every}
use Rattle.text_drafts.proofs.sixteen.Goals as goal

pub returns : goal.returns
unfolding every
returns c = same-every 16 c.args.a.now c.args.b.now c.requires.0 c.requires.1
