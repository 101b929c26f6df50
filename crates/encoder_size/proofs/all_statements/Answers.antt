-- `encoder_size::all_statements` meets its contract. Assumes nothing.
use Rattle.std.proofs.Common.{arith, get_or, sym, ◌∙◌}
use Rattle.encoder_size.proofs.Sums.{total-none, total-next}
use Rattle.encoder_size.proofs.all_statements.Goals as goal

pub loop-t-init : goal.loop-t-init
loop-t-init c = (sym (total-none _), omega arith, λ h. omega arith)

pub loop-t-preserved : goal.loop-t-preserved
loop-t-preserved c =
    let a = c.args in
    let l = c.loop-t in
    let e = c.from-n.ensures ∙ c.count.ensures in
    let m = total-next (λ u. get_or a.layout.counts u 0) l.t in
    (omega arith, omega arith, λ h. let i = l.invariant.2 h in let j = h l.t in omega arith)
