-- `encoder::demands` meets its contract. Assumes nothing.
use Rattle.std.proofs.Common.{arith, refl, rules}
use Rattle.encoding.specs.Encodings.{map_demand}
use Rattle.encoder_slots.proofs.Pieces.{writes-row, writes_more}
use Rattle.encoder.proofs.demands.Goals as goal

pub loop-j-init : goal.loop-j-init
loop-j-init c =
    let a = c.args in
    (c.requires.1, omega arith, refl, writes-row (map_demand a.map.now) a.out.now a.slots.now a.n)

pub loop-j-preserved : goal.loop-j-preserved
loop-j-preserved c =
    let a = c.args in
    let l = c.loop-j in
    let r = c.demand-next in (
      l.invariant.0,
      omega arith,
      search rules,
      writes_more (map_demand a.map.now) l.j a.out.now a.slots.now a.n _ _ _ _ _ _ l.invariant.3 r.ensures.0,
    )
