-- `text::threads::bytes_of` meets its contract. Assumes nothing.
use Rattle.std.proofs.Common.{arith, ap, get_or, rules, sym, ℕ, ◌*◌, ◌+◌, ◌∙◌}
use Rattle.text.specs.Records.{statement_bytes}
use Rattle.text.proofs.Labels.{drafted-at}
use Rattle.text.proofs.threads.bytes_of.Goals as goal

pub returns : goal.returns
unfolding statement_bytes
returns c = let a = c.args in
    let d = a.draft.now in
    let k = c.block-k.ensures in
    let x = drafted-at d a.t a.n a.p (search rules) in
    let number = c.number.ensures ∙ ap (λ (i : ℕ). get_or d (36 * i) 0) k ∙ sym (ap (λ y. y.number) x) in
    let mode = c.mode.ensures ∙ ap (λ (i : ℕ). get_or d (36 * i + 1) 0) k ∙ sym (ap (λ y. y.mode) x) in
    let argument = c.argument.ensures in
    grind (arith, number, mode, argument)
