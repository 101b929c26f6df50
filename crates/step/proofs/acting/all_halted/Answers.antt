-- `step::acting::all_halted` meets its contract. Assumes nothing.
use Rattle.std.proofs.Common.{ap, arith, get_or, length, refl, rules, subst, sym, true, ℕ, ◌∙◌, ◌≡◌, ◌≤◌}
use lib.ListN.{get_or-eq_default}
use Rattle.base.specs.Below.{every}
use Rattle.base.proofs.Below.{every_more, every-not}
use Rattle.machine.specs.Machine.{fresh}
use Rattle.machine.specs.declared.Thread.{Thread}
use Rattle.step.proofs.acting.all_halted.Goals as goal

pub loop-t-init : goal.loop-t-init
unfolding every
loop-t-init c = refl

pub returns-then-thread-ge-THREADS : goal.returns-then-thread-ge-THREADS
returns-then-thread-ge-THREADS c =
    let a = c.args in
    let four : length a.threads ≡ 4 = search rules in
    let far : length a.threads ≤ c.loop-t.t = omega (arith, four, c.from-thread.ensures, c.if-thread-ge-THREADS.true) in
    sym (every-not (λ u. (get_or a.threads u fresh).halted) a.n c.loop-t.t c.loop-t-test.true (ap (λ (x : Thread). x.halted) (get_or-eq_default a.threads fresh far)))

pub returns-then-not-threads-thread : goal.returns-then-not-threads-thread
returns-then-not-threads-thread c =
    let a = c.args in
    sym (every-not (λ u. (get_or a.threads u fresh).halted) a.n c.loop-t.t c.loop-t-test.true
    (ap (λ (u : ℕ). (get_or a.threads u fresh).halted) (sym c.from-thread.ensures) ∙ c.if-not-threads-thread.true))

pub loop-t-preserved : goal.loop-t-preserved
loop-t-preserved c = every_more (λ u. (get_or c.args.threads u fresh).halted) c.loop-t.t c.loop-t.invariant
    (ap (λ (u : ℕ). (get_or c.args.threads u fresh).halted) (sym c.from-thread.ensures) ∙ c.if-not-threads-thread.false)

pub returns : goal.returns
returns c =
    let e : c.loop-t.t ≡ c.args.n = omega (arith, c.loop-t-test.false, c.loop-t.auto.t-end) in
    sym (subst (λ (k : ℕ). every k (λ u. (get_or c.args.threads u fresh).halted) ≡ true) e c.loop-t.invariant)
