-- `encoder_size::thread` meets its contract. Assumes nothing.
use Rattle.std.proofs.Common.{ap, arith, get_or, length, rules, ℕ, ◌∙◌, ◌≡◌}
use Rattle.set_index.proofs.Counted.{listed-most}
use Rattle.encoder_size.proofs.Seen.{seen-number}
use Rattle.encoder_size.specs.Sizes.{total, statement_records, marks_of, thread_records}
use Rattle.machine.specs.Machine.{contains}
use Rattle.set_index.specs.Points.{listed}
use Rattle.records.specs.Sets.{set_by}
use Rattle.encoder_size.proofs.thread.Goals as goal

pub returns : goal.returns
unfolding thread_records
returns c =
    let a = c.args in
    let S = set_by a.set.now a.layout in
    let cs = listed a.points in
    let eight : length a.points.numbers ≡ 8 = search rules in
    let few = listed-most a.points eight in
    let n = c.count-count.ensures in
    let w = c.statements-all.ensures in
    let most = w.1 in
    let e = w.0 ∙ ap (λ (k : ℕ). total (λ i. statement_records cs k i (S.statement a.t i)) k) n in
    let m : c.marks.result ≡ marks_of S cs a.t =
    c.marks.ensures.0 ∙ seen-number (length cs) 8 (λ p. contains S a.t (get_or cs p 0)) _ few w.3 in
    (omega arith, omega arith, omega arith)
