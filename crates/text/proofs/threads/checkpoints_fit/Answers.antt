-- `text::threads::checkpoints_fit` meets its contract. Assumes nothing.
use Rattle.std.proofs.Common.{ap, arith, take, ℕ, ◌-◌, ◌*◌, ◌∙◌, ◌≡◌}
use Rattle.text.specs.Answers.{checkpoints_fit}
use Rattle.text.proofs.threads.checkpoints_fit.Goals as goal

pub returns-in-Some : goal.returns-in-Some
unfolding checkpoints_fit
returns-in-Some c = λ h.
    let n : 8 * c.from.result - 0 ≡ 8 * c.args.n = omega (arith, c.from.ensures) in
    c.few_checkpoints.ensures ∙ ap checkpoints_fit (c.in-Some.ensures.lookup.0.2 ∙ ap (λ (k : ℕ). take k c.args.set.now) n)
