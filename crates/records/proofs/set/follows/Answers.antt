-- `records::set::follows` meets its contract. Assumes nothing.
use Rattle.std.proofs.Common.{ap, ap₂, arith, eq-eqb, eqb, ne_eqb, sym, ◌&&◌, ◌*◌, ◌+◌, ◌-◌, ◌∙◌}
use Rattle.base.proofs.Choice.{chosen, passed}
use Rattle.records.specs.Sets.{thread_at, follows}
use Rattle.records.proofs.set.follows.Goals as goal

pub returns-then-k-eq0 : goal.returns-then-k-eq0
unfolding follows
returns-then-k-eq0 c =
    let a = c.args in
    ap (λ p. eqb (thread_at a.set.now a.k) 0 && eqb p 0) c.word-pc.ensures ∙ sym (chosen _ _ (eq-eqb _ _ c.if-k-eq0.true))

pub returns-then-thread-before : goal.returns-then-thread-before
unfolding follows
returns-then-thread-before c = ap₂ (λ x y. eqb x (y + 1)) c.word-pc.ensures c.word.ensures ∙ sym (passed _ _ (ne_eqb _ _ c.if-k-eq0.false) ∙ chosen _ _ (eq-eqb _ _ c.if-thread-before.true))

pub overflow_cast-result-2 : goal.overflow_cast-result-2
overflow_cast-result-2 c = omega (arith, c.shared_slice_known-1.given (8 * c.args.k))

pub overflow_cast-result-3 : goal.overflow_cast-result-3
overflow_cast-result-3 c = omega (arith, c.shared_slice_known-1.given (8 * (c.args.k - 1)))

pub overflow_add-result-2 : goal.overflow_add-result-2
overflow_add-result-2 c = omega (arith, c.shared_slice_known-1.given (8 * (c.args.k - 1)))

pub returns : goal.returns
unfolding follows
returns c =
    let a = c.args in
    let s = a.set.now in
    ap₂ (λ p l. eqb (thread_at s a.k) (thread_at s (a.k - 1) + 1) && eqb p 0 && l) c.word-pc.ensures c.is_last.ensures
    ∙ sym (passed _ _ (ne_eqb _ _ c.if-k-eq0.false) ∙ passed _ _ (ne_eqb _ _ c.if-thread-before.false))
