-- `records::set::record_fits` meets its contract. Assumes nothing.
use Rattle.std.proofs.Common.{ap, arith, cond, eqb, get_or, le-ltb, leb, lt-ltb, ltb, rules, sym, ◌&&◌, ◌<◌, ◌∙◌, ◌≤◌}
use Rattle.base.proofs.Choice.{and_true, and_false, and_right_false, cast_test}
use Rattle.records.specs.Sets.{thread_at, number_at, mode_at, spare_at, pc_at, argument_fits, record_fits}
use Rattle.records.specs.Instructions.{is_memory, instructions}
use Rattle.records.proofs.Sets.{counts-at}
use Rattle.records.proofs.set.record_fits.Goals as goal

pub returns-then-thread-ge-THREADS : goal.returns-then-thread-ge-THREADS
unfolding record_fits
returns-then-thread-ge-THREADS c = sym (and_false _ (and_false _ (and_false _ (and_false _ (and_false _ (le-ltb _ _ c.if-thread-ge-THREADS.true))))))

pub returns-then-word-ge-STATEMENTS : goal.returns-then-word-ge-STATEMENTS
unfolding record_fits
returns-then-word-ge-STATEMENTS c =
    let a = c.args in
    let s = a.set.now in
    let h : 32 ≤ pc_at s a.k = omega (arith, c.word.ensures) in
    sym (and_false _ (and_false _ (and_false _ (and_false _ (and_right_false (ltb (thread_at s a.k) 4) (le-ltb (pc_at s a.k) 32 h))))))

pub argument_fits-requires : goal.argument_fits-requires
argument_fits-requires c =
    let s = c.args.set.now in
    (search rules, ap (λ l. get_or l (thread_at s c.args.k) 0) c.requires.1 ∙ counts-at s (thread_at s c.args.k) (omega arith))

pub returns : goal.returns
unfolding record_fits
returns c =
    let a = c.args in
    let s = a.set.now in
    let k = a.k in
    let thread : thread_at s k < 4 = omega arith in
    let pc : pc_at s k < 32 = omega (arith, c.word.ensures) in
    let memory = c.is_memory-most in
    let most = cast_test memory.result ∙ ap (λ b. cond b 1 0) memory.ensures in
    (λ z. ltb (number_at s k) instructions && leb (mode_at s k) (most z) && eqb (spare_at s k) 0 && c.argument_fits.ensures z)
    ∙ sym (ap (λ b. b && ltb (number_at s k) instructions && leb (mode_at s k) (cond (is_memory (number_at s k)) 1 0) && eqb (spare_at s k) 0 && argument_fits s k) (and_true (lt-ltb _ _ thread) (lt-ltb _ _ pc)))
