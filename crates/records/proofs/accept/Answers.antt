-- `records::accept` meets its contract. No threads in a layout means that the set is refused. Assumes nothing.
use Rattle.std.proofs.Common.{sym, ◌∙◌, refl}
use Rattle.base.proofs.Choice.{and_true, and_false, and_right_false}
use Rattle.records.specs.Maps.{map_accepted}
use Rattle.records.specs.Sets.{set_accepted}
use Rattle.records.proofs.Layouts.{no_threads_lem, some-threads}
use Rattle.records.proofs.accept.Goals as goal

pub returns-then-layout-eq0 : goal.returns-then-layout-eq0
returns-then-layout-eq0 c =
    let a = c.args in
    (and_false (map_accepted a.cells a.map.now) (no_threads_lem a.set.now c.layout-layout.result c.layout-layout.ensures c.if-layout-eq0.true), refl)

pub returns-then-not-map_accepted : goal.returns-then-not-map_accepted
returns-then-not-map_accepted c = (and_right_false (set_accepted c.args.set.now) (sym c.map_accepted.ensures ∙ c.if-not-map_accepted.true), refl)

pub returns : goal.returns
returns c =
    let a = c.args in
    (and_true (some-threads a.set.now c.layout-layout.result c.layout-layout.ensures c.if-layout-eq0.false) (sym c.map_accepted.ensures ∙ c.if-not-map_accepted.false), c.layout-layout.ensures)
