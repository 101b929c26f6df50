-- `records::map::ascends` meets its contract. Assumes nothing.
use Rattle.std.proofs.Common.{arith, eq-eqb, le-ltb, lt-ltb, ne_eqb, sym, ◌-◌, ◌<◌, ◌∙◌, ◌≤◌}
use Rattle.base.proofs.Choice.{chosen, passed}
use Rattle.records.specs.Maps.{address_at, ascends_at}
use Rattle.records.proofs.map.ascends.Goals as goal

pub returns-then-k-eq0 : goal.returns-then-k-eq0
unfolding ascends_at
returns-then-k-eq0 c = sym (chosen _ _ (eq-eqb _ _ c.if-k-eq0.true))

pub returns-then-word : goal.returns-then-word
unfolding ascends_at
returns-then-word c =
    let a = c.args in
    let m = a.map.now in
    let h : address_at m a.k ≤ address_at m (a.k - 1) = omega (arith, c.word.ensures, c.word-2.ensures) in
    sym (passed _ _ (ne_eqb _ _ c.if-k-eq0.false) ∙ le-ltb _ _ h)

pub returns : goal.returns
unfolding ascends_at
returns c =
    let a = c.args in
    let m = a.map.now in
    let h : address_at m (a.k - 1) < address_at m a.k = omega (arith, c.word.ensures, c.word-2.ensures) in
    sym (passed _ _ (ne_eqb _ _ c.if-k-eq0.false) ∙ lt-ltb _ _ h)
