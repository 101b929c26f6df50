-- `records::map::map_accepted` meets its contract. Every cell below k ascends. Assumes nothing.
use Rattle.std.proofs.Common.{refl, arith, eq-eqb, eqb, le-leb, leb, length, ne_eqb, sym, ◌%◌, ◌&&◌, ◌/◌, ◌∙◌, ◌≡◌}
use borrow.Author.Tests.{lt-leb}
use Rattle.base.proofs.Choice.{and_true, and_false, and_right_false}
use Rattle.base.proofs.Below.{every_more, every-not}
use Rattle.base.specs.Below.{every}
use Rattle.records.specs.Maps.{cells, ascends_at, map_accepted}
use Rattle.records.proofs.map.map_accepted.Goals as goal

pub returns-then-map-ne0 : goal.returns-then-map-ne0
unfolding map_accepted
returns-then-map-ne0 c = sym (and_false _ (and_false _ (ne_eqb _ _ c.if-map-ne0.true)))

pub returns-then-limit-n : goal.returns-then-limit-n
unfolding map_accepted
returns-then-limit-n c =
    let m = c.args.map.now in
    sym (and_false (every (cells m) (ascends_at m)) (and_right_false (eqb (length m % 4) 0) (lt-leb _ _ c.if-limit-n.true)))

pub returns-then-not-ascends : goal.returns-then-not-ascends
unfolding map_accepted
returns-then-not-ascends c =
    let a = c.args in
    let m = a.map.now in
    let e = sym c.ascends.ensures ∙ c.if-not-ascends.true in
    sym (and_right_false (eqb (length m % 4) 0 && leb (cells m) a.limit) (every-not (ascends_at m) (cells m) _ c.loop-k-test.true e))

pub loop-k-preserved : goal.loop-k-preserved
loop-k-preserved c = every_more (ascends_at c.args.map.now) _ c.loop-k.invariant (sym c.ascends.ensures ∙ c.if-not-ascends.false)

pub returns : goal.returns
unfolding map_accepted
returns c =
    let e : c.loop-k.k ≡ length c.args.map.now / 4 = omega arith in
    sym (and_true (and_true (eq-eqb _ _ c.if-map-ne0.false) (le-leb _ _ c.if-limit-n.false)) (rw e at c.loop-k.invariant))

pub loop-k-init : goal.loop-k-init
unfolding every
loop-k-init c = refl
