-- `encoder::repeated_step` meets its contract. Assumes nothing.
use Rattle.std.proofs.Common.{arith}
use Rattle.encoder.proofs.Repeating.{repeated-next}
use Rattle.encoder.proofs.repeated_step.Goals as goal

pub returns : goal.returns
returns c S cs start begun s late room w =
    let a = c.args in
    repeated-next S cs start a.threads a.first a.stride s a.k late begun a.out.now _ _ a.n w
    c.choice_bits.ensures (rw c.from-bits.ensures at c.repeat.ensures) room (omega arith)
