-- `step::walks::end_of` meets its contract. Assumes nothing.
use Rattle.std.proofs.Common.{ap, arith, leb, rules, sym, ℕ, ◌&&◌, ◌∙◌, ◌≡◌}
use Rattle.machine.specs.Runs.{can_act, some_permitted}
use Rattle.machine.specs.Held.{state_of}
use Rattle.records.specs.Sets.{set_by}
use Rattle.base.proofs.Choice.{chosen, passed}
use Rattle.base.specs.Below.{some}
use Rattle.step.proofs.Tests.{guarded_none, guarded_more, guarded_at}
use Rattle.step.proofs.walks.end_of.Goals as goal

pub returns-then-m : goal.returns-then-m
returns-then-m c = λ memory. sym (chosen _ _ c.if-m.true)

pub loop-t-init : goal.loop-t-init
loop-t-init c =
    let a = c.args in
    (search rules, c.if-m.false, λ memory. guarded_none (leb a.layout.threads 4) (can_act (set_by a.set.now a.layout) (state_of a.m memory)))

pub returns-then-acts : goal.returns-then-acts
unfolding some_permitted
returns-then-acts c =
    let l = c.loop-t in
    let a = c.args in
    λ memory. sym (passed _ _ l.invariant.1 ∙ chosen _ _ (guarded_at (leb a.layout.threads 4) (can_act (set_by a.set.now a.layout) (state_of a.m memory)) _ l.t (search rules) (sym (c.acts.ensures memory) ∙ c.if-acts.true)))

pub loop-t-preserved : goal.loop-t-preserved
loop-t-preserved c =
    let l = c.loop-t in
    let a = c.args in
    (search rules, l.invariant.1, λ memory. guarded_more (leb a.layout.threads 4) (can_act (set_by a.set.now a.layout) (state_of a.m memory)) l.t (l.invariant.2 memory) (sym (c.acts.ensures memory) ∙ c.if-acts.false))

pub returns : goal.returns
unfolding some_permitted
returns c =
    let l = c.loop-t in
    let a = c.args in
    let e : l.t ≡ a.layout.threads = omega arith in
    λ memory. sym (passed _ _ l.invariant.1 ∙ passed _ _ (ap (λ (n : ℕ). leb a.layout.threads 4 && some n (can_act (set_by a.set.now a.layout) (state_of a.m memory))) (sym e) ∙ l.invariant.2 memory))
