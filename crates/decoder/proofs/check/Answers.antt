-- `decoder::check` meets its contract. Assumes nothing.
use Rattle.std.proofs.Common.{◌≡◌, Result, Err, rules, ap, length, sym, ◌∙◌}
use Rattle.base.proofs.Choice.{passed}
use Rattle.records.proofs.Layouts.{set-read}
use Rattle.records.specs.Sets.{Set}
use Rattle.records.specs.declared.refusals.Refused.{Refused}
use Rattle.decoder.specs.Answers.{work_after}
use Rattle.decoder.proofs.Sized.{sized, checked, unchecked}
use Rattle.decoder.proofs.check.Goals as goal

pub judge-requires : goal.judge-requires
judge-requires c =
    let a = c.args in
    let e = sym c.table_size.ensures ∙ c.in_ok-records.was in
    (e, ap (λ (S : Set). S.threads) (set-read a.set.now c.layout-layout.result c.layout-layout.ensures (sized a.set.now a.map.now a.bound _ e).accepted))

pub returns-in_err-records : goal.returns-in_err-records
returns-in_err-records c =
    let a = c.args in
    let r : Refused = c.in_err-records.field-0.0 in
    let is : c.from_residual.result ≡ Err r = search rules in
    let p = unchecked a.set.now a.map.now a.bound a.model.now (length a.work.now) r (sym c.table_size.ensures ∙ c.in_err-records.was) in
    (is ∙ p.0, sym (ap (λ (x : Result (Unit {0}) Refused). work_after x a.work.now) is ∙ passed _ _ p.1))

pub returns : goal.returns
returns c =
    let a = c.args in
    let e = sym c.table_size.ensures ∙ c.in_ok-records.was in
    (c.judge.ensures.0 ∙ checked a.set.now a.map.now a.bound a.model.now (length a.work.now) _ e, c.judge.ensures.1)
