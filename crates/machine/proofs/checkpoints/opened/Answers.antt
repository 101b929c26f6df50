-- `machine::checkpoints::opened` meets its contract. Assumes nothing.
use Rattle.std.proofs.Common.{refl, ap, arith, not, rules, sym, ℕ, ◌||◌, ◌∙◌, ◌≡◌, Option}
use Rattle.records.specs.Sets.{set_by}
use Rattle.machine.specs.Machine.{contains, marked_at, opened}
use Rattle.base.proofs.Below.{every_more, every-not}
use Rattle.base.specs.Below.{every}
use Rattle.machine.proofs.checkpoints.opened.Invariants.{passes}
use Rattle.machine.proofs.checkpoints.opened.Goals as goal

pub returns-then-shuts : goal.returns-then-shuts
unfolding opened
returns-then-shuts c =
    let judged : let a = c.args in passes (set_by a.set.now a.layout) a.marks a.c c.loop-t.t ≡ not c.shuts.result = let a = c.args in
    sym (c.shuts.ensures ∙ ap (λ (m : Option ℕ). not (contains (set_by a.set.now a.layout) c.loop-t.t a.c) || marked_at m a.c) c.mark_of.ensures) in
    let l = c.loop-t in
    let a = c.args in
    sym (every-not (passes (set_by a.set.now a.layout) a.marks a.c) _ l.t (search rules) (judged ∙ ap not c.if-shuts.true))

pub loop-t-preserved : goal.loop-t-preserved
loop-t-preserved c =
    let judged : let a = c.args in passes (set_by a.set.now a.layout) a.marks a.c c.loop-t.t ≡ not c.shuts.result = let a = c.args in
    sym (c.shuts.ensures ∙ ap (λ (m : Option ℕ). not (contains (set_by a.set.now a.layout) c.loop-t.t a.c) || marked_at m a.c) c.mark_of.ensures) in
    let l = c.loop-t in
    let a = c.args in
    every_more (passes (set_by a.set.now a.layout) a.marks a.c) l.t l.invariant (judged ∙ ap not c.if-shuts.false)

pub returns : goal.returns
unfolding opened
returns c =
    let l = c.loop-t in
    let a = c.args in
    let e : l.t ≡ a.layout.threads = omega (arith, c.loop-t-test.false, l.auto.t-end) in
    sym (ap (λ (n : ℕ). every n (passes (set_by a.set.now a.layout) a.marks a.c)) (sym e) ∙ l.invariant)

pub loop-t-init : goal.loop-t-init
unfolding every
loop-t-init c = refl
