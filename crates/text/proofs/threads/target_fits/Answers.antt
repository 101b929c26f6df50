-- `text::threads::target_fits` meets its contract. Assumes nothing.
use Rattle.std.proofs.Common.{ap, get_or, ltb, rules, sym, ℕ, ◌*◌, ◌∙◌}
use Rattle.text.proofs.Labels.{target-jump, target-plain}
use Rattle.text.proofs.threads.target_fits.Goals as goal

pub returns-then-is_jump : goal.returns-then-is_jump
returns-then-is_jump c = let a = c.args in
    let e = c.number-number.ensures ∙ ap (λ (k : ℕ). get_or a.draft.now (36 * k) 0) c.block.ensures in
    ap (λ (k : ℕ). ltb k a.n) c.argument.ensures ∙ target-jump a.draft.now a.t a.n a.p (search rules) _ e (sym c.is_jump.ensures ∙ c.if-is_jump.true)

pub returns : goal.returns
returns c = let a = c.args in
    let e = c.number-number.ensures ∙ ap (λ (k : ℕ). get_or a.draft.now (36 * k) 0) c.block.ensures in
    target-plain a.draft.now a.t a.n a.p (search rules) _ e (sym c.is_jump.ensures ∙ c.if-is_jump.false)
