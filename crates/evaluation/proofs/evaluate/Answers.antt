-- `evaluation::evaluate` meets its contract. Assumes nothing.
use Rattle.std.proofs.Common.{ap, arith, le-ltb, length, length-set, refl, set, sym, ℕ, ◌%◌, ◌*◌, ◌+◌, ◌-◌, ◌/◌, ◌∙◌, ◌≡◌}
use Rattle.evaluation.proofs.Turns.{false-here, false-later, turned-next}
use Rattle.evaluation.specs.Evaluations.{formula_in, given_by, turned, false_from, false_in}
use Rattle.base.proofs.Choice.{passed}
use Rattle.evaluation.proofs.evaluate.Goals as goal

pub loop-i-init : goal.loop-i-init
unfolding turned
loop-i-init c =
    let a = c.args in
    let all : a.n ≡ a.n - 0 = omega arith in
    record {
      long = refl;
      found = ap (λ (k : ℕ). false_from (given_by a.threads a.bound a.model.now a.cells.now) a.n 0 k a.work.now) all;
      turn = refl;
    }

pub returns-then-is_false : goal.returns-then-is_false
unfolding false_in
returns-then-is_false c =
    let a = c.args in
    let l = c.loop-i in
    let here = c.formula-f.ensures ∙ ap (formula_in l.work a.n) c.from.ensures in
    sym (passed _ _ (le-ltb _ _ c.if-work-n.false) ∙ l.invariant.found
    ∙ false-here (given_by a.threads a.bound a.model.now a.cells.now) a.n l.i l.work c.formula-f.result here c.loop-i-test.true (sym c.is_false.ensures ∙ c.if-is_false.true))

pub loop-i-preserved : goal.loop-i-preserved
loop-i-preserved c =
    let a = c.args in
    let l = c.loop-i in
    let g = given_by a.threads a.bound a.model.now a.cells.now in
    let at = 16 * a.n + 2 * l.i in
    let w = c.word_of-word.result in
    let k = c.store.ensures in
    let here = c.formula-f.ensures ∙ ap (formula_in l.work a.n) c.from.ensures in
    record {
      long = ap length k ∙ length-set (set l.work at (w % 256)) (at + 1) (w / 256) ∙ length-set l.work at (w % 256) ∙ l.invariant.long;
      found = l.invariant.found ∙ false-later g a.n l.i l.work c.formula-f.result here c.loop-i-test.true w _ (sym c.is_false.ensures ∙ c.if-is_false.false) c.word_of-word.ensures k;
      turn = turned-next g a.n l.i a.work.now l.work c.formula-f.result w _ l.invariant.turn here c.word_of-word.ensures k;
    }

pub returns : goal.returns
unfolding false_in false_from
returns c =
    let a = c.args in
    let l = c.loop-i in
    let e : a.n - l.i ≡ 0 = omega arith in
    let d : l.i ≡ a.n = omega arith in
    sym (passed _ _ (le-ltb _ _ c.if-work-n.false) ∙ l.invariant.found ∙ ap (λ (k : ℕ). false_from (given_by a.threads a.bound a.model.now a.cells.now) a.n l.i k l.work) e ∙ d)
