-- `decoder::judge_run` meets its contract. Assumes nothing.
use Rattle.std.proofs.Common.{Err, Ok, ap, arith, length, refl, rules, sym, ◌∙◌, ◌≡◌, ◌≤◌}
use Rattle.decoder.proofs.Sized.{sized}
use Rattle.decoder.proofs.Judged.{run-unfit, run_short, run-refused, run-accepted, work-room, trace-room, map-room}
use Rattle.records.specs.declared.refusals.Refused.{Refused}
use Rattle.decoding.specs.declared.Decoded.{Decoded}
use mathlib.Core.Path.{subst⁻¹}
use Rattle.decoder.specs.Answers.{model_decoding, work_after, trace_left, map_left}
use Rattle.records.proofs.Layouts.{set-read}
use Rattle.records.specs.Sets.{Set, set_of}
use Rattle.decoder.proofs.judge_run.Goals as goal

pub overflow_cast-steps : goal.overflow_cast-steps
overflow_cast-steps c = let a = c.args in let p : a.bound ≤ 64 = (sized a.set.now a.map.now a.bound a.n c.requires.0).few_steps in search rules

pub returns-then-not-model_fits : goal.returns-then-not-model_fits
returns-then-not-model_fits c =
    let threads_of_lem : c.args.layout.threads ≡ (set_of c.args.set.now).threads = let a = c.args in
    ap (λ (S : Set). S.threads) (set-read a.set.now a.layout c.requires.1 (sized a.set.now a.map.now a.bound a.n c.requires.0).accepted) in
    let a = c.args in
    subst⁻¹ (λ (r : Refused). (Err r ≡ model_decoding a.set.now a.map.now a.bound a.model.now (length a.work.now) (length a.trace.now) (length a.found.now)) × (a.work.now ≡ work_after {A = Decoded} (Err r) a.work.now)
    × (a.trace.now ≡ trace_left (Err r) a.set.now a.bound a.model.now a.trace.now) × (a.found.now ≡ map_left (Err r) a.set.now a.map.now a.bound a.model.now a.found.now)) c.into.ensures
    (run-unfit a.set.now a.map.now a.bound a.n c.requires.0 a.model.now a.layout.threads threads_of_lem (length a.work.now) (length a.trace.now) (length a.found.now) (sym c.model_fits.ensures ∙ c.if-not-model_fits.true), refl, refl, refl)

pub returns-then-is_short : goal.returns-then-is_short
returns-then-is_short c =
    let threads_of_lem : c.args.layout.threads ≡ (set_of c.args.set.now).threads = let a = c.args in
    ap (λ (S : Set). S.threads) (set-read a.set.now a.layout c.requires.1 (sized a.set.now a.map.now a.bound a.n c.requires.0).accepted) in
    let a = c.args in
    subst⁻¹ (λ (r : Refused). (Err r ≡ model_decoding a.set.now a.map.now a.bound a.model.now (length a.work.now) (length a.trace.now) (length a.found.now)) × (a.work.now ≡ work_after {A = Decoded} (Err r) a.work.now)
    × (a.trace.now ≡ trace_left (Err r) a.set.now a.bound a.model.now a.trace.now) × (a.found.now ≡ map_left (Err r) a.set.now a.map.now a.bound a.model.now a.found.now)) c.into-then-is_short.ensures
    (run_short a.set.now a.map.now a.bound a.n c.requires.0 a.model.now a.layout.threads threads_of_lem (length a.work.now) (length a.trace.now) (length a.found.now) (sym c.model_fits.ensures ∙ c.if-not-model_fits.false) (sym c.is_short.ensures ∙ c.if-is_short.true), refl, refl, refl)

pub false_record-index-requires : goal.false_record-index-requires
false_record-index-requires c =
    let threads_of_lem : c.args.layout.threads ≡ (set_of c.args.set.now).threads = let a = c.args in
    ap (λ (S : Set). S.threads) (set-read a.set.now a.layout c.requires.1 (sized a.set.now a.map.now a.bound a.n c.requires.0).accepted) in
    let a = c.args in
    (c.requires.0, threads_of_lem, sym c.model_fits.ensures ∙ c.if-not-model_fits.false, work-room a.n a.bound (length a.work.now) (length a.trace.now) (length a.found.now) (sym c.is_short.ensures ∙ c.if-is_short.false))

pub returns-then-index-n : goal.returns-then-index-n
returns-then-index-n c =
    let threads_of_lem : c.args.layout.threads ≡ (set_of c.args.set.now).threads = let a = c.args in
    ap (λ (S : Set). S.threads) (set-read a.set.now a.layout c.requires.1 (sized a.set.now a.map.now a.bound a.n c.requires.0).accepted) in
    let a = c.args in
    (run-refused a.set.now a.map.now a.bound a.n c.requires.0 a.model.now a.layout.threads threads_of_lem (length a.work.now) (length a.trace.now) (length a.found.now) (sym c.model_fits.ensures ∙ c.if-not-model_fits.false) (sym c.is_short.ensures ∙ c.if-is_short.false) c.false_record-index.result c.false_record-index.ensures.0 c.if-index-n.true, c.false_record-index.ensures.1, refl, refl)

pub show-requires : goal.show-requires
show-requires c = let a = c.args in
    let l = (sym c.is_short.ensures ∙ c.if-is_short.false) in
    (c.requires.0, c.requires.1, sym c.model_fits.ensures ∙ c.if-not-model_fits.false, omega (arith, c.if-index-n.false, c.false_record-index.ensures.0), trace-room a.n a.bound (length a.work.now) (length a.trace.now) (length a.found.now) l, map-room a.n a.bound (length a.work.now) (length a.trace.now) (length a.found.now) l)

pub returns : goal.returns
returns c =
    let threads_of_lem : c.args.layout.threads ≡ (set_of c.args.set.now).threads = let a = c.args in
    ap (λ (S : Set). S.threads) (set-read a.set.now a.layout c.requires.1 (sized a.set.now a.map.now a.bound a.n c.requires.0).accepted) in
    let a = c.args in
    let e = ap Ok c.show.ensures.0 in
    let answer = run-accepted a.set.now a.map.now a.bound a.n c.requires.0 a.model.now a.layout.threads threads_of_lem (length a.work.now) (length a.trace.now) (length a.found.now) (sym c.model_fits.ensures ∙ c.if-not-model_fits.false) (sym c.is_short.ensures ∙ c.if-is_short.false) c.false_record-index.result c.false_record-index.ensures.0 c.if-index-n.false in
    (e ∙ answer, c.false_record-index.ensures.1, c.show.ensures.1, c.show.ensures.2)
