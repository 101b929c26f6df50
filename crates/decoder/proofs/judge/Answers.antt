-- `decoder::judge` meets its contract. Assumes nothing.
use Rattle.std.proofs.Common.{Err, le-ltb, length, lt-ltb, refl, rules, sym, ◌∙◌, ◌≡◌, ◌≤◌}
use mathlib.Core.Path.{subst⁻¹}
use Rattle.records.specs.declared.refusals.Refused.{Refused}
use Rattle.decoder.specs.Answers.{model_answer, work_after}
use Rattle.decoder.proofs.Judged.{unfit, short, decided}
use Rattle.decoder.proofs.Sized.{sized}
use Rattle.base.proofs.Choice.{chosen, passed}
use Rattle.decoder.proofs.judge.Goals as goal

pub overflow_cast-bound : goal.overflow_cast-bound
overflow_cast-bound c = let a = c.args in let p : a.bound ≤ 64 = (sized a.set.now a.map.now a.bound a.n c.requires.0).few_steps in search rules

pub returns-then-not-model_fits : goal.returns-then-not-model_fits
returns-then-not-model_fits c = let a = c.args in
    subst⁻¹ (λ (r : Refused). (Err r ≡ model_answer a.set.now a.map.now a.bound a.model.now (length a.work.now)) × (a.work.now ≡ work_after {A = Unit {0}} (Err r) a.work.now)) c.into.ensures
    (unfit a.set.now a.map.now a.bound a.n c.requires.0 a.model.now a.threads c.requires.1 (length a.work.now) (sym c.model_fits.ensures ∙ c.if-not-model_fits.true), refl)

pub returns-then-work-n : goal.returns-then-work-n
returns-then-work-n c = let a = c.args in
    subst⁻¹ (λ (r : Refused). (Err r ≡ model_answer a.set.now a.map.now a.bound a.model.now (length a.work.now)) × (a.work.now ≡ work_after {A = Unit {0}} (Err r) a.work.now)) c.into-then-work-n.ensures
    (short a.set.now a.map.now a.bound a.n c.requires.0 a.model.now a.threads c.requires.1 (length a.work.now) (sym c.model_fits.ensures ∙ c.if-not-model_fits.false) c.if-work-n.true, refl)

pub false_record-index-requires : goal.false_record-index-requires
false_record-index-requires c = let a = c.args in
    (c.requires.0, c.requires.1, sym c.model_fits.ensures ∙ c.if-not-model_fits.false, c.if-work-n.false)

pub returns-then-index-n : goal.returns-then-index-n
returns-then-index-n c = let a = c.args in let k = c.false_record-index.result in
    (sym (chosen _ _ (lt-ltb _ _ c.if-index-n.true)) ∙ decided a.set.now a.map.now a.bound a.n c.requires.0 a.model.now a.threads c.requires.1 (length a.work.now) (sym c.model_fits.ensures ∙ c.if-not-model_fits.false) c.if-work-n.false k c.false_record-index.ensures.0, c.false_record-index.ensures.1)

pub returns : goal.returns
returns c = let a = c.args in let k = c.false_record-index.result in
    (sym (passed _ _ (le-ltb _ _ c.if-index-n.false)) ∙ decided a.set.now a.map.now a.bound a.n c.requires.0 a.model.now a.threads c.requires.1 (length a.work.now) (sym c.model_fits.ensures ∙ c.if-not-model_fits.false) c.if-work-n.false k c.false_record-index.ensures.0, c.false_record-index.ensures.1)
