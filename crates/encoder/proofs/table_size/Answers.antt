-- `encoder::table_size` meets its contract. Assumes nothing.
use Rattle.std.proofs.Common.{Ok, ap, arith, length, ◌∙◌}
use Rattle.encoder.specs.Answers.{size_answer}
use Rattle.encoder.proofs.Accepted.{passes, refused, limited, few-steps, short-map, encoded_is}
use Rattle.encoder.proofs.table_size.Goals as goal

pub returns-in_err-layout : goal.returns-in_err-layout
unfolding size_answer
returns-in_err-layout c = let a = c.args in refused a.set.now a.map.now a.bound _ _ _ c.from_residual.ensures.1 (c.in_err-layout.ensures _)

pub overflow_cast-result : goal.overflow_cast-result
overflow_cast-result c =
    let a = c.args in
    let w = c.in_ok-layout.ensures in
    let p = c.of_set-points in
    let few = c.table_records.ensures.1 (limited a.set.now a.map.now a.bound _ _ w p.result p.ensures) (short-map a.set.now a.map.now a.bound _ _ w p.result p.ensures)
    (few-steps a.set.now a.map.now a.bound _ _ w p.result p.ensures) in
    omega arith

pub returns : goal.returns
unfolding size_answer
returns c =
    let a = c.args in
    let w = c.in_ok-layout.ensures in
    let p = c.of_set-points in
    ap Ok (c.table_records.ensures.0 ∙ ap length (encoded_is a.set.now a.map.now a.bound _ _ w p.result p.ensures)) ∙ passes a.set.now a.map.now a.bound _ _ _ w
