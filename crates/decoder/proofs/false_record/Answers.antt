-- `decoder::false_record` meets its contract. Assumes nothing.
use Rattle.std.proofs.Common.{List, ap, arith, drop, length, length-drop, replicate, rules, take, take_all, ℕ, ◌*◌, ◌-◌, ◌∙◌, ◌≡◌, ◌≤◌}
use mathlib.Core.Path.{subst⁻¹}
use Rattle.encoding.specs.Encodings.{table_of}
use Rattle.table.specs.Formulas.{table_bytes}
use Rattle.base.specs.Bytes.{over}
use Rattle.decoder.proofs.Judged.{model-bits, encodes, found}
use Rattle.decoder.proofs.Sized.{sized}
use Rattle.evaluation.specs.Evaluations.{given_by, false_in}
use Rattle.decoding.specs.Models.{bits}
use Rattle.std.specs.Prelude.{Result}
use Rattle.records.specs.declared.refusals.Refused.{Refused}
use Rattle.encoder.specs.Answers.{table_output}
use Rattle.decoder.proofs.false_record.Goals as goal

pub overflow_cast-steps : goal.overflow_cast-steps
overflow_cast-steps c = let a = c.args in let p : a.bound ≤ 64 = (sized a.set.now a.map.now a.bound a.n c.requires.0).few_steps in search rules

pub slice_bounds-evaluate-count : goal.slice_bounds-evaluate-count
slice_bounds-evaluate-count c = let a = c.args in subst⁻¹ (λ (n : ℕ). n ≤ length a.model.now) c.bits-bits.ensures (model-bits a.threads a.bound a.model.now c.requires.2)

pub slice_bounds-evaluate-start : goal.slice_bounds-evaluate-start
slice_bounds-evaluate-start c = let a = c.args in let p = subst⁻¹ (λ (n : ℕ). n ≤ length a.model.now) c.bits-bits.ensures (model-bits a.threads a.bound a.model.now c.requires.2) in search rules

pub returns : goal.returns
returns c = let a = c.args in
    let set = a.set.now in let map = a.map.now in let model = a.model.now in let work = a.work.now in
    let count = c.bits-bits.result in
    let encoded : List ℕ = c.encode.new.table in
    let values : List ℕ = c.evaluate-index.new.work in
    let kept : length encoded ≡ length work = c.encode.auto.table in
    let still : length values ≡ length encoded = c.evaluate-index.auto.work in
    let room : 32 * a.n ≤ length work = c.requires.3 in
    let there : take (length model - count) (drop count model) ≡ drop (bits a.threads a.bound) model
    = take_all (length model - count) (drop count model) (let e = length-drop count model in omega arith) ∙ ap (λ (n : ℕ). drop n model) c.bits-bits.ensures in
    let written : encoded ≡ over (table_bytes (table_of set map a.bound)) work =
    c.encode.ensures.1 ∙ ap (λ (r : Result ℕ Refused). table_output r set map a.bound work) (c.encode.ensures.0 ∙ encodes set map a.bound a.n c.requires.0 (length work) (omega arith)) in (
      c.evaluate-index.ensures
          ∙ ((λ z. false_in (given_by a.threads a.bound model (there z)) a.n (written z))
          ∙ found set map a.bound a.n c.requires.0 model a.threads (λ i. omega (arith, c.shared_slice_known-1.given i)) (λ i. omega (arith, c.shared_slice_known-2-1.given i)) c.requires.1 (search rules) (search rules) work room),
      c.fill.ensures.after (λ y e. search rules) ∙ ap (λ (k : ℕ). replicate k 0) (still ∙ kept),
    )
