-- `base::place` meets its contract. Assumes nothing.
use Rattle.std.proofs.Common.{arith, length, suc, sym, ◌+◌, ◌≤◌}
use Rattle.base.proofs.Bytes.{copied, placed-not}
use Rattle.base.proofs.place.Goals as goal
use Rattle.base.proofs.place.Goals.{else-i-out-via-then-i-out+else-bytes-out, else-i-out-via-else-i-out}

pub returns-then-bytes-out : goal.returns-then-bytes-out
returns-then-bytes-out c =
    let a = c.args in
    rw c.copy_from_slice.ensures.after (copied a.out.now a.bytes.now a.i (omega arith))

pub returns-else-i-out : goal.returns-else-i-out
returns-else-i-out c =
    let a = c.args in
    let beyond : suc (length a.out.now) ≤ a.i + length a.bytes.now =
    elim c.else-i-out.branch [
      | else-i-out-via-then-i-out+else-bytes-out w ↦ omega arith
      | else-i-out-via-else-i-out w ↦ omega arith
    ] in
    sym (placed-not a.out.now a.i a.bytes.now beyond)
