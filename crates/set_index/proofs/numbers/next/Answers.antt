-- `set_index::numbers::next` meets its contract. Assumes nothing.
use Rattle.std.proofs.Common.{ap, le-ltb, lt-ltb, sym, ◌∙◌}
use Rattle.base.proofs.Choice.{chosen, passed}
use Rattle.set_index.specs.ListTables.{onward}
use Rattle.set_index.proofs.numbers.next.Goals as goal

pub returns-then-i-it : goal.returns-then-i-it
returns-then-i-it c =
    let a = c.args in
    let it = c.number-it in
    sym (chosen it.result 32 (lt-ltb a.i it.result c.if-i-it.true)) ∙ ap (onward a.i) it.ensures

pub returns : goal.returns
returns c =
    let a = c.args in
    let it = c.number-it in
    sym (passed it.result 32 (le-ltb a.i it.result c.if-i-it.false)) ∙ ap (onward a.i) it.ensures
