-- `encoder::accept` meets its contract. Assumes nothing.
use Rattle.std.proofs.Common.{refl}
use Rattle.base.proofs.Choice.{and_left, and_right}
use Rattle.records.specs.Maps.{map_accepted, set_cells}
use Rattle.records.specs.Sets.{set_accepted}
use Rattle.encoder.proofs.Accepted.{bound-fits}
use Rattle.encoder.proofs.accept.Goals as goal

pub returns : goal.returns
returns c =
    let a = c.args in
    let e = c.in_ok-layout.ensures in
    record {
      accepted_set = and_left (set_accepted a.set.now) (map_accepted set_cells a.map.now) e.0;
      accepted_map = and_right (set_accepted a.set.now) (map_accepted set_cells a.map.now) e.0;
      accepted_bound = bound-fits a.bound c.if-bound-eq0.false c.if-bound-gt-STEPS.false;
      layout_is = e.1;
      steps_are = refl;
    }
