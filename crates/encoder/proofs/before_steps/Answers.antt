-- `encoder::before_steps` meets its contract. Assumes nothing.
use Rattle.std.proofs.Common.{arith}
use Rattle.records.specs.Maps.{cells}
use Rattle.records.specs.Sets.{set_by}
use Rattle.table.specs.Programs.{upto}
use Rattle.encoding.specs.Encodings.{starting, map_demand}
use Rattle.set_index.specs.Points.{listed}
use Rattle.encoder_slots.proofs.Pieces.{writes-++}
use Rattle.encoder.proofs.before_steps.Goals as goal

pub returns : goal.returns
returns c =
    let a = c.args in
    let most = c.requires in
    let r1 = c.shared-all in
    let r2 = c.demands in
    let m1 = r1.ensures.1 in
    let m2 = r2.ensures.1 in
    let S = set_by a.set.now a.layout in (
      λ lists ready.
          writes-++ (starting S (listed a.points)) (upto (map_demand a.map.now) (cells a.map.now)) a.out.now a.slots.now 4 _ _ _ _ _ _
          (r1.ensures.0 (listed a.points) lists ready (omega arith)) r2.ensures.0,
      omega arith,
    )
