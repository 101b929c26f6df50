-- `table::repeats::repeat_record` meets its contract. Assumes nothing.
use Rattle.std.proofs.Common.{ap, ℕ, ◌*◌, ◌∙◌}
use Rattle.base.specs.Bytes.{placed}
use Rattle.table.specs.declared.Formula.{Formula}
use Rattle.table.specs.Formulas.{formula_bytes}
use Rattle.table.specs.Repeats.{repeated}
use Rattle.table.proofs.Repeated.{operands_moved, moved-repeated}
use Rattle.table.proofs.repeats.repeat_record.Goals as goal

pub returns : goal.returns
returns c =
    let a = c.args in
    let f = c.record-formula in
    let x = f.result in
    c.put.ensures
    ∙ ap (λ (g : Formula). placed a.out.now (16 * a.n) (formula_bytes g))
    ((λ z. record { operation = x.operation; sort = x.sort; constant = x.constant; a = c.moved.ensures z; b = c.moved-2.ensures z; c = c.moved-3.ensures z })
    ∙ (ap (λ (d : ℕ). operands_moved a.first d x) c.distance-by.ensures ∙ (moved-repeated a.first a.stride x ∙ ap (repeated a.first a.stride) f.ensures.read)))
