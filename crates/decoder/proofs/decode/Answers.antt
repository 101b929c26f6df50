-- `decoder::decode` meets its contract. Assumes nothing.
use Rattle.std.proofs.Common.{◌≡◌, Result, Err, ap, rules, length, sym, ◌∙◌}
use Rattle.decoding.specs.declared.Decoded.{Decoded}
use Rattle.decoder.specs.Answers.{work_after, trace_left, map_left}
use Rattle.base.proofs.Choice.{passed}
use Rattle.records.specs.declared.refusals.Refused.{Refused}
use Rattle.decoder.proofs.Sized.{run-checked, run-unchecked}
use Rattle.decoder.proofs.decode.Goals as goal

pub judge_run-requires : goal.judge_run-requires
judge_run-requires c = (sym c.table_size.ensures ∙ c.in_ok-size.was, c.layout-layout.ensures)

pub returns-in_err-size : goal.returns-in_err-size
returns-in_err-size c =
    let a = c.args in
    let r : Refused = c.in_err-size.field-0.0 in
    let is : c.from_residual.result ≡ Err r = search rules in
    let p = run-unchecked a.set.now a.map.now a.bound a.model.now (length a.work.now) (length a.trace.now) (length a.found.now) r (sym c.table_size.ensures ∙ c.in_err-size.was) in (
      is ∙ p.0,
      sym (ap (λ (x : Result Decoded Refused). work_after x a.work.now) is ∙ passed _ _ p.1),
      ap (λ (x : Result Decoded Refused). trace_left x a.set.now a.bound a.model.now a.trace.now) (sym is),
      ap (λ (x : Result Decoded Refused). map_left x a.set.now a.map.now a.bound a.model.now a.found.now) (sym is),
    )

pub returns : goal.returns
returns c =
    let a = c.args in (
      c.judge_run.ensures.0 ∙ run-checked a.set.now a.map.now a.bound a.model.now (length a.work.now) (length a.trace.now) (length a.found.now) _ (sym c.table_size.ensures ∙ c.in_ok-size.was),
      c.judge_run.ensures.1,
      c.judge_run.ensures.2,
      c.judge_run.ensures.3,
    )
