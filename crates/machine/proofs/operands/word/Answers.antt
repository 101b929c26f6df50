-- `machine::operands::word` meets its contract. Assumes nothing.
use Rattle.std.proofs.Common.{eqb-true, sym, ◌∙◌}
use Rattle.std.proofs.lemmas.Bool.{eqb-false}
use Rattle.machine.specs.Held.{memory_in, known_in}
use Rattle.machine.proofs.Loads.{word-cas, word-load}
use Rattle.machine.proofs.operands.word.Goals as goal

pub returns-then-is : goal.returns-then-is
returns-then-is c =
    let a = c.args in
    let e = c.requires.1 in
    let w = word-cas a.i a.x (memory_in a.addresses.now a.values.now) (known_in a.addresses.now) c.requires.0 (eqb-true _ _ (sym c.is.ensures ∙ c.if-is.true)) in
    (rw e ((rw e at c.look.ensures.0) ∙ w.0), (rw e at c.look.ensures.1) ∙ w.1, rw e (c.look.ensures.2 ∙ w.2))

pub returns : goal.returns
returns c =
    let a = c.args in
    let e = c.requires.1 in
    let w = word-load a.i a.x (memory_in a.addresses.now a.values.now) (known_in a.addresses.now) c.requires.0 (eqb-false _ _ (sym c.is.ensures ∙ c.if-is.false)) in
    (rw e ((rw e at c.load.ensures.0) ∙ w.0), (rw e at c.load.ensures.1) ∙ w.1, rw e ((rw e at c.load.ensures.2) ∙ w.2))
