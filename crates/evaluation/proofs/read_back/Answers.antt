-- `evaluation::read_back` meets its contract. Assumes nothing.
use Rattle.std.proofs.Common.{Bool, ◌&&◌, ◌||◌, eqb, ap, ap₂, arith, drop, drop-drop, sym, ℕ, ◌+◌, ◌-◌, ◌∙◌, ◌≡◌, ◌<◌}
use Rattle.evaluation.proofs.Backwards.{back-hit, back-first, back_on, visits_on}
use Rattle.evaluation.specs.Evaluations.{formula_in, value_in, cell_back, memories_back}
use Rattle.records.specs.Maps.{map_value}
use Rattle.evaluation.proofs.read_back.Goals as goal

pub loop-init : goal.loop-init
loop-init c =
    let a = c.args in
    let s = a.work.now in
    let all : a.n ≡ a.n - 0 = omega arith in
    record {
      cell = ap (λ (k : ℕ). cell_back (map_value a.given.cells.now) (formula_in s a.n) (value_in s a.n) k a.m a.x) all;
      memories = ap (λ (k : ℕ). memories_back (formula_in s a.n) (value_in s a.n) k a.m a.x) all;
    }

pub returns-then-writes-x : goal.returns-then-writes-x
returns-then-writes-x c =
    let a = c.args in
    let s = a.work.now in
    let l = c.loop in
    c.value-then-writes-x.ensures
    ∙ sym (l.invariant.cell ∙ back-hit (map_value a.given.cells.now) (formula_in s a.n) (value_in s a.n) l.memory a.x c.formula-f.result c.formula-f.ensures (a.n - l.counter) c.value.result (omega arith) c.value.ensures (ap (λ (b : Bool). b && eqb a.x c.value.result) (sym c.is-writes.ensures) ∙ c.if-writes-x.true))

pub returns-then-not-writes-is : goal.returns-then-not-writes-is
returns-then-not-writes-is c =
    let a = c.args in
    let s = a.work.now in
    let l = c.loop in
    c.first.ensures
    ∙ sym (l.invariant.cell ∙ back-first (map_value a.given.cells.now) (formula_in s a.n) (value_in s a.n) l.memory a.x c.formula-f.result c.formula-f.ensures (a.n - l.counter) c.value.result (omega arith) c.value.ensures (ap (λ (b : Bool). b && eqb a.x c.value.result) (sym c.is-writes.ensures) ∙ c.if-writes-x.false) ((λ z. sym c.is-writes.ensures z || sym c.is.ensures z) ∙ c.if-not-writes-is.true))

pub loop-preserved : goal.loop-preserved
loop-preserved c =
    let a = c.args in
    let s = a.work.now in
    let l = c.loop in
    let all = memories_back (formula_in s a.n) (value_in s a.n) a.n a.m a.x in
    let less : a.n - l.counter - 1 ≡ a.n - (l.counter + 1) = omega arith in
    let some : 0 < a.n - l.counter = omega arith in
    record {
      cell =
          l.invariant.cell
          ∙ back_on (map_value a.given.cells.now) (formula_in s a.n) (value_in s a.n) l.memory a.x c.formula-f.result c.formula-f.ensures (a.n - l.counter) c.value.result some c.value.ensures (ap (λ (b : Bool). b && eqb a.x c.value.result) (sym c.is-writes.ensures) ∙ c.if-writes-x.false) ((λ z. sym c.is-writes.ensures z || sym c.is.ensures z) ∙ c.if-not-writes-is.false)
          ∙ ap₂ (λ (k m : ℕ). cell_back (map_value a.given.cells.now) (formula_in s a.n) (value_in s a.n) k m a.x) less (sym c.behind-memory.ensures);
      memories =
          sym (drop-drop 1 l.counter all)
          ∙ ap (drop 1) (l.invariant.memories ∙ visits_on (map_value a.given.cells.now) (formula_in s a.n) (value_in s a.n) l.memory a.x c.formula-f.result c.formula-f.ensures (a.n - l.counter) c.value.result some c.value.ensures (ap (λ (b : Bool). b && eqb a.x c.value.result) (sym c.is-writes.ensures) ∙ c.if-writes-x.false) ((λ z. sym c.is-writes.ensures z || sym c.is.ensures z) ∙ c.if-not-writes-is.false))
          ∙ ap₂ (λ (k m : ℕ). memories_back (formula_in s a.n) (value_in s a.n) k m a.x) less (sym c.behind-memory.ensures);
    }

pub returns : goal.returns
unfolding cell_back
returns c =
    let a = c.args in
    let s = a.work.now in
    let e : a.n - c.loop.counter ≡ 0 = omega arith in
    sym (c.loop.invariant.cell ∙ ap (λ (k : ℕ). cell_back (map_value a.given.cells.now) (formula_in s a.n) (value_in s a.n) k c.loop.memory a.x) e)
