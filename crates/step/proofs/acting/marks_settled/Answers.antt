-- `step::acting::marks_settled` meets its contract. Assumes nothing.
use Rattle.std.proofs.Common.{Option, Some, ap, arith, cond, eqb, get_or, length, rules, set, sym, ℕ, ◌∙◌, ◌≡◌}
use Rattle.records.specs.Sets.{set_by}
use Rattle.machine.specs.Machine.{unmarked}
use Rattle.machine.proofs.Four.{stored}
use Rattle.step.proofs.Settled.{marks-left, marks-cleared}
use Rattle.step.proofs.acting.marks_settled.Goals as goal

pub returns-then-is : goal.returns-then-is
returns-then-is c =
    let a = c.args in
    let marks : ℕ → Option ℕ = λ v. get_or a.marks v unmarked in
    let n : length c.clear-after.result ≡ 4 = search rules in
    let v : Option ℕ = Some a.i.argument in
    ap {B = ℕ → Option ℕ} (λ (k : ℕ) (u : ℕ). get_or (set c.clear-after.result k v) u unmarked) c.from.ensures
    ∙ stored c.clear-after.result a.t v unmarked (omega (arith, n, c.requires))
    ∙ ap {B = ℕ → Option ℕ} (λ (f : ℕ → Option ℕ) (u : ℕ). cond (eqb u a.t) v (f u)) c.clear-after.ensures
    ∙ marks-left (set_by a.set.now a.layout) marks a.t a.i (sym c.is.ensures ∙ c.if-is.true)

pub returns-else-is : goal.returns-else-is
returns-else-is c =
    let a = c.args in
    let marks : ℕ → Option ℕ = λ v. get_or a.marks v unmarked in
    c.clear-after.ensures ∙ marks-cleared (set_by a.set.now a.layout) marks a.t a.i (sym c.is.ensures ∙ c.if-is.false)
