-- `records::set::layout` meets its contract. An accepted set has at most 128 records, so no sum wraps. Assumes nothing.
use Rattle.std.proofs.Common.{[], arith, sym, ◌+◌, ◌∙◌, ◌∷◌, ◌≡◌}
use Rattle.base.proofs.Choice.{passed, refuted}
use Rattle.records.specs.Sets.{set_accepted, threads_of, start_of, count_of, counts_of, layout_of}
use Rattle.records.proofs.Sets.{accepted, few-records, count-below, last-thread, accepted-parts}
use Rattle.records.proofs.set.layout.Goals as goal

pub overflow_add-third : goal.overflow_add-third
overflow_add-third c =
    let s = c.args.set.now in
    rw c.counts_of-counts.ensures (omega (arith, count-below s 0, count-below s 1))

pub overflow_add-fourth : goal.overflow_add-fourth
overflow_add-fourth c =
    let s = c.args.set.now in
    rw c.counts_of-counts.ensures (omega (arith, count-below s 0, count-below s 1, count-below s 2))

pub overflow_sub-result : goal.overflow_sub-result
overflow_sub-result c =
    let s = c.args.set.now in
    omega (arith, (accepted s (sym c.accepted.ensures ∙ c.if-accepted.true)).some)

pub bounds-set-n : goal.bounds-set-n
bounds-set-n c =
    let s = c.args.set.now in
    omega (arith, (accepted s (sym c.accepted.ensures ∙ c.if-accepted.true)).some)

pub overflow_add-result : goal.overflow_add-result
overflow_add-result c =
    let s = c.args.set.now in
    omega (arith, last-thread s (sym c.accepted.ensures ∙ c.if-accepted.true))

pub returns-then-accepted : goal.returns-then-accepted
unfolding threads_of start_of
returns-then-accepted c =
    let s = c.args.set.now in
    let counts = c.counts_of-counts.ensures in
    let second : count_of s 0 ≡ start_of s 1 = omega arith in
    let third : count_of s 0 + count_of s 1 ≡ start_of s 2 = omega arith in
    let fourth : count_of s 0 + count_of s 1 + count_of s 2 ≡ start_of s 3 = omega arith in
    rw counts (λ z. record { threads = threads_of s; starts = 0 ∷ second z ∷ third z ∷ fourth z ∷ []; counts = counts_of s })
    ∙ sym (accepted-parts s (sym c.accepted.ensures ∙ c.if-accepted.true))

pub returns-else-accepted : goal.returns-else-accepted
unfolding layout_of
returns-else-accepted c = sym (passed _ _ (sym c.accepted.ensures ∙ c.if-accepted.false))

pub returns-else-n-le-RECORDS : goal.returns-else-n-le-RECORDS
unfolding layout_of
returns-else-n-le-RECORDS c =
    let s = c.args.set.now in
    sym (passed _ _ (refuted (set_accepted s) (λ e. omega (arith, few-records s e))))
