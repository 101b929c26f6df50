-- `table::put` meets its contract. Assumes nothing.
use Rattle.std.proofs.Common.{arith, sym, ◌*◌}
use Rattle.base.proofs.Bytes.{placed-not}
use Rattle.table.specs.Formulas.{formula_bytes}
use Rattle.table.proofs.put.Goals as goal

pub returns-else-at-out : goal.returns-else-at-out
unfolding formula_bytes
returns-else-at-out c =
    let a = c.args in
    sym (placed-not a.out.now (16 * a.n) (formula_bytes a.formula) (omega arith))
