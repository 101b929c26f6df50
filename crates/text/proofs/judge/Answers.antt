-- `text::judge` meets its contract. Assumes nothing.
use Rattle.std.proofs.Common.{Err, ap, arith, refl, subst, sym, take, ◌*◌, ◌∙◌, ◌≡◌}
use Rattle.std.specs.Prelude.{Result}
use Rattle.records.specs.Refusals.{of_call}
use Rattle.records.specs.declared.refusals.Refusal.{Refusal}
use Rattle.records.specs.declared.refusals.Refused.{Refused}
use Rattle.text.specs.declared.Counts.{Counts}
use Rattle.text.specs.Sections.{Threads}
use Rattle.text.specs.Records.{set_bytes, statements}
use Rattle.text.specs.Readings.{ThreadsStand, RecordsWritten}
use Rattle.text.specs.Answers.{checkpoints_fit, map_fits}
use Rattle.text.proofs.Fitting.{checked-early, checked_seven, checked_eight, checked-read, assembled, fits_eight, fits_read}
use Rattle.text.proofs.judge.Goals as goal

pub returns-in_err-threads_fit : goal.returns-in_err-threads_fit
returns-in_err-threads_fit c =
    let e = c.in_err-threads_fit.field-0.0 in
    let from : c.from_residual.result ≡ Err (of_call e) = grind arith in
    record {
      answer = λ T cs ts st. from ∙ checked-early T cs e (sym (c.in_err-threads_fit.ensures.judged T ts));
      written = λ T cs ts st. subst (λ (a : Result Counts Refused). RecordsWritten a T cs c.args.set.now c.args.map.now) (sym from) tt;
    }

pub returns-then-not-checkpoints_fit : goal.returns-then-not-checkpoints_fit
returns-then-not-checkpoints_fit c =
    let fit = c.in_ok-threads_fit.ensures.fit in
    let put = c.assemble-statements.ensures in
    let one : (T : Threads) → ThreadsStand c.args.r c.args.draft.now T → (checkpoints_fit (set_bytes T) ≡ c.checkpoints_fit.result) × (take (8 * c.assemble-statements.result) c.assemble-statements.new.set ≡ set_bytes T) × (c.assemble-statements.result ≡ statements T)
    = λ T ts. assembled c.args.r c.args.draft.now T c.assemble-statements.new.set c.assemble-statements.result c.checkpoints_fit.result ts fit.0 (put.0 fit.1 c.requires.0.0 (omega (arith, c.requires.2))) (put.1 ∙ c.requires.2) c.checkpoints_fit.ensures in
    record {
      answer = λ T cs ts st. ap (λ (e : Refused). Err e) c.into.ensures ∙ checked_seven T cs _ (sym (c.in_ok-threads_fit.ensures.judged T ts)) ((one T ts).0 ∙ c.if-not-checkpoints_fit.true);
      written = λ T cs ts st. tt;
    }

pub returns-in_err-map_fits : goal.returns-in_err-map_fits
returns-in_err-map_fits c =
    let fit = c.in_ok-threads_fit.ensures.fit in
    let put = c.assemble-statements.ensures in
    let one : (T : Threads) → ThreadsStand c.args.r c.args.draft.now T → (checkpoints_fit (set_bytes T) ≡ c.checkpoints_fit.result) × (take (8 * c.assemble-statements.result) c.assemble-statements.new.set ≡ set_bytes T) × (c.assemble-statements.result ≡ statements T)
    = λ T ts. assembled c.args.r c.args.draft.now T c.assemble-statements.new.set c.assemble-statements.result c.checkpoints_fit.result ts fit.0 (put.0 fit.1 c.requires.0.0 (omega (arith, c.requires.2))) (put.1 ∙ c.requires.2) c.checkpoints_fit.ensures in
    let e = c.in_err-map_fits.field-0.0 in
    let from : c.from_residual-in_err-map_fits.result ≡ Err (of_call e) = grind arith in
    record {
      answer = λ T cs ts st.
          let eight = fits_eight (map_fits cs) (Err e) e (c.in_err-map_fits.ensures.judged cs st) refl in
          from ∙ ap (λ (r : Refusal). Err (of_call r)) eight.0
          ∙ checked_eight T cs _ (sym (c.in_ok-threads_fit.ensures.judged T ts)) ((one T ts).0 ∙ c.if-not-checkpoints_fit.false) eight.1;
      written = λ T cs ts st. subst (λ (a : Result Counts Refused). RecordsWritten a T cs c.assemble-statements.new.set c.map_fits.new.map) (sym from) tt;
    }

pub returns : goal.returns
returns c =
    let fit = c.in_ok-threads_fit.ensures.fit in
    let put = c.assemble-statements.ensures in
    let one : (T : Threads) → ThreadsStand c.args.r c.args.draft.now T → (checkpoints_fit (set_bytes T) ≡ c.checkpoints_fit.result) × (take (8 * c.assemble-statements.result) c.assemble-statements.new.set ≡ set_bytes T) × (c.assemble-statements.result ≡ statements T)
    = λ T ts. assembled c.args.r c.args.draft.now T c.assemble-statements.new.set c.assemble-statements.result c.checkpoints_fit.result ts fit.0 (put.0 fit.1 c.requires.0.0 (omega (arith, c.requires.2))) (put.1 ∙ c.requires.2) c.checkpoints_fit.ensures in
    let few = put.0 fit.1 c.requires.0.0 (omega (arith, c.requires.2)) in
    record {
      answer = λ T cs ts st.
          let w = c.in_ok-map_fits.ensures.written cs st in
          checked-read T cs _ (sym (c.in_ok-threads_fit.ensures.judged T ts)) ((one T ts).0 ∙ c.if-not-checkpoints_fit.false)
          (fits_read (map_fits cs) _ _ (c.in_ok-map_fits.ensures.judged cs st) refl) _ (one T ts).2 (sym w.2);
      written = λ T cs ts st. let w = c.in_ok-map_fits.ensures.written cs st in ((one T ts).1, w.0, few.1, w.1);
    }
