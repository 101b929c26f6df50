-- `text::threads::fits` meets its contract. Assumes nothing.
use Rattle.base.specs.Below.{every}
use Rattle.std.proofs.Common.{ℕ, Bool, refl, ap, arith, not, sym, ◌&&◌, ◌∙◌, ◌≡◌}
use Rattle.text.specs.Answers.{doubled_at, target_fits, thread_fits}
use Rattle.text.specs.Drafts.{drafted}
use Rattle.base.proofs.Choice.{and_true, and_false, and_right_false}
use Rattle.base.proofs.Below.{every_more, every-not}
use Rattle.text.proofs.threads.fits.Goals.{then-is_doubled-via-then-is_doubled, then-is_doubled-via-else-is_doubled+then-not-target_fits}
use Rattle.text.proofs.threads.fits.Goals as goal

pub returns-then-is_doubled : goal.returns-then-is_doubled
unfolding thread_fits
returns-then-is_doubled c = let a = c.args in let l = c.loop-p in
    let test : ℕ → Bool = λ q. not (doubled_at (drafted a.draft.now a.t a.n) q) && target_fits a.n (drafted a.draft.now a.t a.n) q in
    sym (every-not test a.n l.p c.loop-p-test.true (elim c.then-is_doubled.branch [
      | then-is_doubled-via-then-is_doubled w ↦ and_false _ (ap not (sym c.is_doubled.ensures ∙ w.if-is_doubled.true))
      | then-is_doubled-via-else-is_doubled+then-not-target_fits w ↦ and_right_false (not (doubled_at (drafted a.draft.now a.t a.n) l.p)) (sym w.target_fits.ensures ∙ w.if-not-target_fits.true)
    ]))

pub loop-p-preserved : goal.loop-p-preserved
loop-p-preserved c = let a = c.args in let l = c.loop-p in
    (every_more (λ q. not (doubled_at (drafted a.draft.now a.t a.n) q) && target_fits a.n (drafted a.draft.now a.t a.n) q) l.p l.invariant (and_true (ap not (sym c.is_doubled.ensures ∙ c.if-is_doubled.false)) (sym c.target_fits.ensures ∙ c.if-not-target_fits.false)))

pub returns : goal.returns
unfolding thread_fits
returns c = let e : c.loop-p.p ≡ c.args.n = omega arith in
    sym (rw e at c.loop-p.invariant)

pub loop-p-init : goal.loop-p-init
unfolding every
loop-p-init c = refl
