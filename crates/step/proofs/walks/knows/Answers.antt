-- `step::walks::knows` meets its contract. Assumes nothing.
use Rattle.std.proofs.Common.{ap, length, ltb, ℕ}
use Rattle.step.proofs.walks.knows.Goals as goal

pub returns : goal.returns
returns c = ap (λ (i : ℕ). ltb i (length c.args.addresses.now)) c.cell_at.ensures
