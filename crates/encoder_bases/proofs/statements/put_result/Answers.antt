-- `encoder_bases::statements::put_result` meets its contract. Assumes nothing.
use Rattle.std.proofs.Common.{ap, refl, sym, ◌∙◌}
use Rattle.encoder_slots.specs.Places.{place_of}
use Rattle.encoding.specs.Slots.{slot, accu, loaded, argument, swaps, word_one, word_zero}
use Rattle.records.specs.Numbers.{number}
use Rattle.table.specs.Programs.{plus2, minus2, times2, if3}
use Rattle.encoder_bases.proofs.Given.{gives_ternary, puts_as, puts_result, result_loads, result-past}
use Rattle.encoder_bases.proofs.statements.put_result.Goals as goal

pub returns-in-Add : goal.returns-in-Add
returns-in-Add c =
    let a = c.args in
    let is = sym c.in-Ok.ensures ∙ ap number c.in-Add.is in
    let at = place_of a.slots.now in
    (λ S cs k e h. puts_result S cs k a.t a.i _ _ (sym e) is (c.put_binary.ensures.0 at plus2 (slot accu a.t 0) (slot loaded a.t a.i) refl refl c.place-accu.ensures c.place-loaded.ensures), c.put_binary.ensures.1)

pub returns-in-Addi : goal.returns-in-Addi
returns-in-Addi c =
    let a = c.args in
    let is = sym c.in-Ok.ensures ∙ ap number c.in-Addi.is in
    let at = place_of a.slots.now in
    (λ S cs k e h. puts_result S cs k a.t a.i _ _ (sym e) is (c.put_binary-in-Addi.ensures.0 at plus2 (slot accu a.t 0) (slot argument a.t a.i) refl refl c.place-accu.ensures c.place-argument.ensures), c.put_binary-in-Addi.ensures.1)

pub returns-in-Sub : goal.returns-in-Sub
returns-in-Sub c =
    let a = c.args in
    let is = sym c.in-Ok.ensures ∙ ap number c.in-Sub.is in
    let at = place_of a.slots.now in
    (λ S cs k e h. puts_result S cs k a.t a.i _ _ (sym e) is (c.put_binary-in-Sub.ensures.0 at minus2 (slot accu a.t 0) (slot loaded a.t a.i) refl refl c.place-accu.ensures c.place-loaded.ensures), c.put_binary-in-Sub.ensures.1)

pub returns-in-Subi : goal.returns-in-Subi
returns-in-Subi c =
    let a = c.args in
    let is = sym c.in-Ok.ensures ∙ ap number c.in-Subi.is in
    let at = place_of a.slots.now in
    (λ S cs k e h. puts_result S cs k a.t a.i _ _ (sym e) is (c.put_binary-in-Subi.ensures.0 at minus2 (slot accu a.t 0) (slot argument a.t a.i) refl refl c.place-accu.ensures c.place-argument.ensures), c.put_binary-in-Subi.ensures.1)

pub returns-in-Mul : goal.returns-in-Mul
returns-in-Mul c =
    let a = c.args in
    let is = sym c.in-Ok.ensures ∙ ap number c.in-Mul.is in
    let at = place_of a.slots.now in
    (λ S cs k e h. puts_result S cs k a.t a.i _ _ (sym e) is (c.put_binary-in-Mul.ensures.0 at times2 (slot accu a.t 0) (slot loaded a.t a.i) refl refl c.place-accu.ensures c.place-loaded.ensures), c.put_binary-in-Mul.ensures.1)

pub returns-in-Muli : goal.returns-in-Muli
returns-in-Muli c =
    let a = c.args in
    let is = sym c.in-Ok.ensures ∙ ap number c.in-Muli.is in
    let at = place_of a.slots.now in
    (λ S cs k e h. puts_result S cs k a.t a.i _ _ (sym e) is (c.put_binary-in-Muli.ensures.0 at times2 (slot accu a.t 0) (slot argument a.t a.i) refl refl c.place-accu.ensures c.place-argument.ensures), c.put_binary-in-Muli.ensures.1)

pub returns-in-Cas : goal.returns-in-Cas
returns-in-Cas c =
    let a = c.args in
    let is = sym c.in-Ok.ensures ∙ ap number c.in-Cas.is in (
      λ S cs k e h. puts_result S cs k a.t a.i _ _ (sym e) is
          (c.put_one.ensures.0 (place_of a.slots.now) _
          (gives_ternary (place_of a.slots.now) a.n _ (if3 2) (slot swaps a.t a.i) (slot word_one 0 0) (slot word_zero 0 0) (refl, (refl, refl)) c.place-swaps.ensures c.place-word_one.ensures c.place-zero.ensures)),
      c.put_one.ensures.1,
    )

pub returns-in_default : goal.returns-in_default
returns-in_default c =
    let a = c.args in (
      λ S cs k e h. puts_result S cs k a.t a.i _ _ (sym e) refl
          (puts_as (result-past S cs k a.statement.number a.t a.i c.in_default.ensures) (c.put_at.ensures.0 (place_of a.slots.now) a.n (slot loaded a.t a.i) a.out.now c.place-loaded.ensures)),
      c.put_at.ensures.1,
    )

pub returns-in_default-instruction : goal.returns-in_default-instruction
returns-in_default-instruction c =
    let a = c.args in
    let o = c.in_default-instruction in
    let put = c.put_at-in_default-instruction in (
      λ S cs k e h. puts_result S cs k a.t a.i _ _ (sym e) (sym c.in-Ok.ensures)
          (puts_as (result_loads S cs k a.t a.i c.in-Ok.instruction o.not-Add o.not-Addi o.not-Sub o.not-Subi o.not-Mul o.not-Muli o.not-Cas)
          (put.ensures.0 (place_of a.slots.now) a.n (slot loaded a.t a.i) a.out.now c.place-loaded.ensures)),
      put.ensures.1,
    )
