-- `encoder::repeated_steps` meets its contract. Assumes nothing.
use Rattle.std.proofs.Common.{arith, length, rules}
use Rattle.encoder.proofs.Repeating.{room-more}
use Rattle.encoder.proofs.repeated_steps.Goals as goal

pub loop-k-preserved : goal.loop-k-preserved
loop-k-preserved c =
    let l = c.loop-k in
    let a = c.args in
    let p = c.requires in (
      l.invariant.0,
      l.invariant.1,
      omega arith,
      search rules,
      λ S cs start begun s r w.
          let now = l.invariant.4 S cs start begun s r w in
          c.repeated_step.ensures S cs start begun s (omega arith) (room-more S cs start a.threads a.first a.stride s l.k a.bound l.next (length begun) begun l.out now (omega arith) r) now,
    )
