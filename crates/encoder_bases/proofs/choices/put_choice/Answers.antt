-- `encoder_bases::choices::put_choice` meets its contract. Assumes nothing.
use Rattle.std.proofs.Common.{le-ltb, lt-ltb, refl, ◌-◌}
use Rattle.base.proofs.Choice.{chosen, passed}
use Rattle.table.specs.Programs.{choice_bit}
use Rattle.encoder_bases.proofs.Given.{gives_leaf}
use Rattle.encoder_bases.proofs.choices.put_choice.Goals as goal

pub returns-then-j-t : goal.returns-then-j-t
returns-then-j-t c =
    let a = c.args in
    (λ at. (rw (c.from.ensures, c.from-then-j-t.ensures) at c.put_one.ensures.0) at _ (gives_leaf at a.n _ (choice_bit a.step 0 a.j) _ (chosen _ _ (lt-ltb _ _ (rw c.from-t.ensures at c.if-j-t.true))) (refl, (refl, refl))), c.put_one.ensures.1)

pub returns : goal.returns
returns c =
    let a = c.args in
    (λ at. (rw (c.from-2.ensures, c.from-3.ensures, c.from-t.ensures) at c.put_one-2.ensures.0) at _ (gives_leaf at a.n _ (choice_bit a.step 1 (a.j - a.threads)) _ (passed _ _ (le-ltb _ _ (rw c.from-t.ensures at c.if-j-t.false))) (refl, (refl, refl))), c.put_one-2.ensures.1)
