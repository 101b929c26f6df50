-- `records::set::argument_fits` meets its contract. Assumes nothing.
use Rattle.std.proofs.Common.{ap, arith, eqb, le-ltb, lt-ltb, sym, ◌<◌, ◌∙◌, ◌≤◌}
use Rattle.base.proofs.Choice.{chosen, passed}
use Rattle.records.specs.Sets.{thread_at, argument_at, count_of, argument_fits}
use Rattle.records.proofs.set.argument_fits.Goals as goal

pub returns-then-is_bare : goal.returns-then-is_bare
unfolding argument_fits
returns-then-is_bare c = ap (λ x. eqb x 0) c.word-argument.ensures ∙ sym (chosen _ _ (sym c.is_bare.ensures ∙ c.if-is_bare.true))

pub returns-then-count-argument : goal.returns-then-count-argument
unfolding argument_fits
returns-then-count-argument c =
    let s = c.args.set.now in
    let k = c.args.k in
    let bare = sym c.is_bare.ensures ∙ c.if-is_bare.false in
    let jump = sym c.is_jump.ensures ∙ c.if-is_jump.true in
    let h : count_of s (thread_at s k) ≤ argument_at s k = omega (arith, c.requires.1, c.word-argument.ensures) in
    sym (passed _ _ bare ∙ chosen _ _ jump ∙ le-ltb _ _ h)

pub returns-else-count-argument : goal.returns-else-count-argument
unfolding argument_fits
returns-else-count-argument c =
    let s = c.args.set.now in
    let k = c.args.k in
    let bare = sym c.is_bare.ensures ∙ c.if-is_bare.false in
    let jump = sym c.is_jump.ensures ∙ c.if-is_jump.true in
    let h : argument_at s k < count_of s (thread_at s k) = omega (arith, c.requires.1, c.word-argument.ensures) in
    sym (passed _ _ bare ∙ chosen _ _ jump ∙ lt-ltb _ _ h)

pub returns-else-is_jump : goal.returns-else-is_jump
unfolding argument_fits
returns-else-is_jump c =
    let bare = sym c.is_bare.ensures ∙ c.if-is_bare.false in
    let jump = sym c.is_jump.ensures ∙ c.if-is_jump.false in
    sym (passed _ _ bare ∙ passed _ _ jump)
