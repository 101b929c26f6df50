-- `text::threads::labels_fit` meets its contract. Assumes nothing.
use Rattle.base.specs.Below.{every}
use Rattle.std.proofs.Common.{refl, ap, arith, get_or, sym, ℕ, ◌∙◌, ◌≡◌}
use Rattle.text.specs.Drafts.{drafted}
use Rattle.text.specs.Answers.{thread_fits, labels_fit}
use Rattle.base.proofs.Below.{every_more, every-not}
use Rattle.text.proofs.threads.labels_fit.Goals as goal

pub returns-then-not-fits : goal.returns-then-not-fits
unfolding labels_fit
returns-then-not-fits c = let a = c.args in let l = c.loop-t in
    let e = ap (λ (n : ℕ). thread_fits n (drafted a.draft.now l.t n)) (sym c.count.ensures) ∙ sym c.fits.ensures ∙ c.if-not-fits.true in
    sym (every-not (λ u. thread_fits (get_or a.counts u 0) (drafted a.draft.now u (get_or a.counts u 0))) a.ended l.t c.loop-t-test.true e)

pub loop-t-preserved : goal.loop-t-preserved
loop-t-preserved c = let a = c.args in let l = c.loop-t in
    let e = ap (λ (n : ℕ). thread_fits n (drafted a.draft.now l.t n)) (sym c.count.ensures) ∙ sym c.fits.ensures ∙ c.if-not-fits.false in
    (every_more (λ u. thread_fits (get_or a.counts u 0) (drafted a.draft.now u (get_or a.counts u 0))) l.t l.invariant e)

pub returns : goal.returns
unfolding labels_fit
returns c = let e : c.loop-t.t ≡ c.args.ended = omega arith in
    sym (rw e at c.loop-t.invariant)

pub loop-t-init : goal.loop-t-init
unfolding every
loop-t-init c = refl
