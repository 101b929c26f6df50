-- `encoder_slots::index_of` meets its contract. Assumes nothing.
use Rattle.std.proofs.Common.{arith, subst, sym, ltb, ltb-true, ◌∙◌, ℕ, ◌<◌}
use Rattle.base.proofs.Choice.{and_left, and_right}
use Rattle.encoder_slots.specs.Kinds.{number_of}
use Rattle.encoder_slots.specs.Places.{width}
use Rattle.encoder_slots.proofs.Numbers.{number-below}
use Rattle.encoder_slots.proofs.Rows.{counted-index}
use Rattle.encoder_slots.proofs.index_of.Goals as goal

pub overflow_add-result-2 : goal.overflow_add-result-2
overflow_add-result-2 c =
    let a = c.args in
    let k = number_of a.kind in
    let small = number-below a.kind in
    let w = c.from.ensures ∙ c.width.ensures in
    let column : a.b < c.from.result = subst (λ (w : ℕ). a.b < w) (sym w) (ltb-true a.b (width k) (and_right (ltb a.a 4) _ c.requires)) in
    let counted = counted-index k a.a a.b _ _ w c.begin.ensures (omega arith) (ltb-true a.a 4 (and_left _ _ c.requires)) column in
    let r = rw (sym c.from-2.ensures, sym c.from-3.ensures) at counted.small in omega arith

pub returns : goal.returns
returns c =
    let a = c.args in
    let k = number_of a.kind in
    let small = number-below a.kind in
    let w = c.from.ensures ∙ c.width.ensures in
    let column : a.b < c.from.result = subst (λ (w : ℕ). a.b < w) (sym w) (ltb-true a.b (width k) (and_right (ltb a.a 4) _ c.requires)) in
    let counted = counted-index k a.a a.b _ _ w c.begin.ensures (omega arith) (ltb-true a.a 4 (and_left _ _ c.requires)) column in
    rw (c.from-2.ensures, c.from-3.ensures) (counted.is_index, counted.within small)
