-- `encoder_size::table_records` meets its contract. Assumes nothing.
use Rattle.std.proofs.Common.{ap, arith, mul-le-mul, ℕ, ◌*◌, ◌≡◌, ◌≤◌}
use Rattle.encoder_size.proofs.Tables.{table-size}
use Rattle.encoder_size.proofs.Steps.{step-size}
use Rattle.encoder_size.specs.Sizes.{step_records, table_records}
use Rattle.set_index.specs.Points.{listed}
use Rattle.records.specs.Sets.{set_by}
use Rattle.encoder_size.proofs.table_records.Goals as goal

pub returns : goal.returns
unfolding table_records
returns c =
    let a = c.args in
    let S = set_by a.set.now a.layout in
    let cs = listed a.points in
    let map = a.map.now in
    let b = ap (λ (n : ℕ). n * c.step_records-step.result) c.from.ensures in
    let r = c.step_records-step.result in
    let s : r ≡ step_records S cs = let e = c.step_records-step.ensures.0 0 0 in let f = step-size S cs 0 0 in omega arith in
    let product = ap (λ (n : ℕ). a.bound * n) s in
    let all = c.all_statements.ensures.0 in
    let size = table-size S cs map a.bound in (
      omega arith,
      λ limits short low.
          let t = c.step_records-step.ensures.1 limits in
          let u = c.all_statements.ensures.1 limits in
          let most : a.bound * r ≤ 64 * 3273 = mul-le-mul low t in
          omega arith,
    )
