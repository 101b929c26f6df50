-- `encoder_size::step_records` meets its contract. Assumes nothing.
use Rattle.std.proofs.Common.{ap, arith, length, rules, sym, ℕ, ◌+◌, ◌∙◌, ◌≡◌}
use Rattle.set_index.proofs.Counted.{listed-most}
use Rattle.encoder_size.proofs.Steps.{step-size}
use Rattle.encoder_size.proofs.Sums.{total-none, total-next}
use Rattle.encoder_size.specs.Sizes.{total, thread_records, step_records}
use Rattle.set_index.specs.Points.{listed}
use Rattle.records.specs.Sets.{set_by}
use Rattle.encoder_size.proofs.step_records.Goals as goal

pub loop-t-init : goal.loop-t-init
loop-t-init c = (sym (total-none _), omega arith, λ h. omega arith)

pub loop-t-preserved : goal.loop-t-preserved
loop-t-preserved c =
    let a = c.args in
    let l = c.loop-t in
    let e = c.thread-n.ensures.0 in
    let f = total-next (thread_records (set_by a.set.now a.layout) (listed a.points)) l.t in
    (omega arith, omega arith, λ h. let i = l.invariant.2 h in let j = h l.t in omega arith)

pub returns : goal.returns
unfolding step_records
returns c =
    let a = c.args in
    let l = c.loop-t in
    let S = set_by a.set.now a.layout in
    let cs = listed a.points in
    let eight : length a.points.numbers ≡ 8 = search rules in
    let few = listed-most a.points eight in
    let t-is : l.t ≡ a.layout.threads = omega arith in
    let e = l.invariant.0 ∙ ap (total (thread_records S cs)) t-is in
    let p = c.from.ensures ∙ c.points_count.ensures in
    let r : l.n + c.from.result + 5 ≡ step_records S cs = omega arith in
    (λ (m k : ℕ). step-size S cs k m ∙ ap (λ (n : ℕ). m + n) (sym r), λ limits. let four = limits.four_threads in let i = l.invariant.2 limits.few_statements in omega arith, omega arith)
