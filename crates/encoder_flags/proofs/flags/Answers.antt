-- `encoder_flags::flags` meets its contract. Assumes nothing.
use Rattle.std.proofs.Common.{List, ℕ}
use Rattle.records.specs.Sets.{set_by}
use Rattle.records.proofs.StatementRecords.{stands_by}
use Rattle.encoder_flags.proofs.flags.Goals as goal

pub returns : goal.returns
returns c =
    let a = c.args in
    let r = c.each_flag in
    let start = c.first-first in (
      (λ (cs members : List ℕ) (k : ℕ) row room ready.
          (rw c.from-thread.ensures at r.ensures.0) (set_by a.set.now a.layout) cs members k row (stands_by a.set.now a.layout a.t start.result start.ensures.0) ready),
      r.ensures.1,
    )
