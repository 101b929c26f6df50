-- `set_index::points::known` meets its contract. Assumes nothing.
use Rattle.std.proofs.Common.{ap, ◌∙◌}
use Rattle.set_index.proofs.Noted.{member-any}
use Rattle.encoding.specs.Checkpoints.{member}
use Rattle.set_index.proofs.points.known.Goals as goal

pub returns : goal.returns
returns c = c.contains.ensures.value ∙ (member-any c.args.c c.as_slice.result.now ∙ ap (member c.args.c) c.as_slice.ensures)
