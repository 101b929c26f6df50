-- `text::threads::is_doubled` meets its contract. Assumes nothing.
use Rattle.std.proofs.Common.{ap, drop, ltb, rules, sym, take, ℕ, ◌*◌, ◌+◌, ◌∙◌}
use Rattle.text.proofs.Labels.{doubled_named, doubled_plain}
use Rattle.text.proofs.threads.is_doubled.Goals as goal

pub returns-then-is_named : goal.returns-then-is_named
returns-then-is_named c = let a = c.args in
    let e = c.label-label.ensures ∙ ap (λ (k : ℕ). take 16 (drop (36 * k + 4) a.draft.now)) c.block.ensures in
    ap (λ (k : ℕ). ltb k a.p) c.find.ensures ∙ doubled_named a.draft.now a.t a.n a.p (search rules) _ e (sym c.is_named.ensures ∙ c.if-is_named.true)

pub returns : goal.returns
returns c = let a = c.args in
    let e = c.label-label.ensures ∙ ap (λ (k : ℕ). take 16 (drop (36 * k + 4) a.draft.now)) c.block.ensures in
    doubled_plain a.draft.now a.t a.n a.p (search rules) _ e (sym c.is_named.ensures ∙ c.if-is_named.false)
