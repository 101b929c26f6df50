-- `encoder::encode` meets its contract. Assumes nothing.
use Rattle.std.proofs.Common.{ap, arith, le-ltb, length, lt-ltb, refl, sym, ◌*◌, ◌∙◌, ◌≤◌, Ok, Err}
use Rattle.base.proofs.Choice.{chosen, passed}
use Rattle.table.specs.Formulas.{written_at, formula_length}
use Rattle.table.proofs.Written.{written-table}
use Rattle.encoding.specs.Encodings.{table_of}
use Rattle.encoder.specs.Answers.{encode_answer}
use Rattle.encoder.proofs.Accepted.{passes, refused, kept, limited, few-steps, short-map, encoded_is, differ}
use Rattle.encoder.proofs.encode.Goals as goal

pub returns-in_err-layout : goal.returns-in_err-layout
unfolding encode_answer
returns-in_err-layout c =
    let a = c.args in
    (refused a.set.now a.map.now a.bound _ _ _ c.from_residual.ensures.1 (c.in_err-layout.ensures _), kept _ _ c.from_residual.ensures.1 a.set.now a.map.now a.bound a.table.now)

pub overflow_mul-records : goal.overflow_mul-records
overflow_mul-records c =
    let a = c.args in
    let w = c.in_ok-layout.ensures in
    let p = c.of_set-points in
    let few = c.table_records-records.ensures.1 (limited a.set.now a.map.now a.bound _ _ w p.result p.ensures) (short-map a.set.now a.map.now a.bound _ _ w p.result p.ensures)
    (few-steps a.set.now a.map.now a.bound _ _ w p.result p.ensures) in
    omega arith

pub returns-then-table-records : goal.returns-then-table-records
unfolding encode_answer
returns-then-table-records c =
    let a = c.args in
    let w = c.in_ok-layout.ensures in
    let p = c.of_set-points in
    let size_is = c.table_records-records.ensures.0 ∙ ap length (encoded_is a.set.now a.map.now a.bound _ _ w p.result p.ensures) in (
      ap Err c.from.ensures
          ∙ sym (chosen _ _ (lt-ltb (length a.table.now) (formula_length * length (table_of a.set.now a.map.now a.bound)) (omega (arith, size_is, c.if-table-records.true))))
          ∙ passes a.set.now a.map.now a.bound _ _ _ w,
      refl,
    )

pub write-requires : goal.write-requires
write-requires c =
    let a = c.args in
    let w = c.in_ok-layout.ensures in
    let p = c.of_set-points in (
      limited a.set.now a.map.now a.bound _ _ w p.result p.ensures,
      short-map a.set.now a.map.now a.bound _ _ w p.result p.ensures,
      few-steps a.set.now a.map.now a.bound _ _ w p.result p.ensures,
      omega (arith, c.table_records-records.ensures.0, c.if-table-records.false),
      differ a.set.now a.map.now a.bound _ _ w p.result p.ensures,
    )

pub overflow_cast-result : goal.overflow_cast-result
overflow_cast-result c =
    let a = c.args in
    let w = c.in_ok-layout.ensures in
    let p = c.of_set-points in
    let few = c.table_records-records.ensures.1 (limited a.set.now a.map.now a.bound _ _ w p.result p.ensures) (short-map a.set.now a.map.now a.bound _ _ w p.result p.ensures)
    (few-steps a.set.now a.map.now a.bound _ _ w p.result p.ensures) in
    omega arith

pub returns : goal.returns
unfolding encode_answer
returns c =
    let a = c.args in
    let w = c.in_ok-layout.ensures in
    let p = c.of_set-points in
    let is = encoded_is a.set.now a.map.now a.bound _ _ w p.result p.ensures in
    let size_is = c.table_records-records.ensures.0 ∙ ap length is in
    let room : formula_length * length (table_of a.set.now a.map.now a.bound) ≤ length a.table.now = omega (arith, size_is, c.if-table-records.false) in (
      ap Ok size_is
          ∙ sym (passed _ _ (le-ltb (length a.table.now) (formula_length * length (table_of a.set.now a.map.now a.bound)) room))
          ∙ passes a.set.now a.map.now a.bound _ _ _ w,
      c.write.ensures ∙ (ap (written_at a.table.now 0) is ∙ written-table a.table.now (table_of a.set.now a.map.now a.bound) room),
    )
