-- `text::threads::argument` meets its contract. Assumes nothing.
use Rattle.std.proofs.Common.{ap, drop, rules, sym, take, ℕ, ◌*◌, ◌+◌, ◌∙◌}
use Rattle.text.proofs.Labels.{argument-named, argument-plain}
use Rattle.base.specs.Bytes.{word_at}
use Rattle.text.proofs.threads.argument.Goals as goal

pub returns-then-is_named : goal.returns-then-is_named
returns-then-is_named c = let a = c.args in
    let e = c.target-target.ensures ∙ ap (λ (k : ℕ). take 16 (drop (36 * k + 20) a.draft.now)) c.block-k.ensures in
    c.find.ensures ∙ argument-named a.draft.now a.t a.n a.p (search rules) _ e (sym c.is_named.ensures ∙ c.if-is_named.true)

pub returns : goal.returns
returns c = let a = c.args in
    let e = c.target-target.ensures ∙ ap (λ (k : ℕ). take 16 (drop (36 * k + 20) a.draft.now)) c.block-k.ensures in
    c.argument.ensures ∙ ap (λ (k : ℕ). word_at a.draft.now (36 * k + 2)) c.block-k.ensures ∙ argument-plain a.draft.now a.t a.n a.p (search rules) _ e (sym c.is_named.ensures ∙ c.if-is_named.false)
