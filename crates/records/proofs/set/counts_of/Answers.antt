-- `records::set::counts_of` meets its contract. Each counter is the number of its thread's records below k. Assumes nothing.
use Rattle.base.specs.Below.{number}
use Rattle.std.proofs.Common.{refl, [], arith, ◌∷◌, ◌≡◌}
use Rattle.records.specs.Sets.{records, thread_at, count_of}
use Rattle.records.proofs.Counts.{counted, counted-below}
use Rattle.records.proofs.set.counts_of.Goals as goal

pub overflow_add-first : goal.overflow_add-first
overflow_add-first c =
    let at = c.loop-k in
    omega (arith, counted-below (thread_at c.args.set.now) 0 at.k at.first at.invariant.0)

pub overflow_add-second : goal.overflow_add-second
overflow_add-second c =
    let at = c.loop-k in
    omega (arith, counted-below (thread_at c.args.set.now) 1 at.k at.second at.invariant.1)

pub overflow_add-third : goal.overflow_add-third
overflow_add-third c =
    let at = c.loop-k in
    omega (arith, counted-below (thread_at c.args.set.now) 2 at.k at.third at.invariant.2)

pub overflow_add-fourth : goal.overflow_add-fourth
overflow_add-fourth c =
    let at = c.loop-k in
    omega (arith, counted-below (thread_at c.args.set.now) 3 at.k at.fourth at.invariant.3)

pub loop-k-preserved : goal.loop-k-preserved
loop-k-preserved c =
    let at = c.loop-k in
    let thread = thread_at c.args.set.now in
    (counted thread 0 at.k at.first at.invariant.0, counted thread 1 at.k at.second at.invariant.1, counted thread 2 at.k at.third at.invariant.2, counted thread 3 at.k at.fourth at.invariant.3)

pub returns : goal.returns
unfolding count_of
returns c =
    let e : c.loop-k.k ≡ records c.args.set.now = omega arith in
    let all = rw e at c.loop-k.invariant in
    λ z. all.0 z ∷ all.1 z ∷ all.2 z ∷ all.3 z ∷ []

pub loop-k-init : goal.loop-k-init
unfolding number
loop-k-init c = (refl, refl, refl, refl)
