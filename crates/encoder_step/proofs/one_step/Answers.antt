-- `encoder_step::one_step` meets its contract. Assumes nothing.
use Rattle.std.proofs.Common.{[], arith, ◌∷◌}
use Rattle.records.specs.Sets.{set_by}
use Rattle.table.specs.Programs.{needs as demanded}
use Rattle.encoding.specs.Steps.{blocks, ruled, step}
use Rattle.set_index.specs.Points.{listed}
use Rattle.encoder_slots.proofs.Pieces.{writes-++}
use Rattle.encoder_slots.proofs.Idle.{idle-none, idle-needs}
use Rattle.encoder_slots.proofs.Ready.{ready-after, ready-blocks}
use Rattle.encoder_step.proofs.one_step.Goals as goal

pub returns : goal.returns
unfolding step
returns c =
    let a = c.args in
    let r1 = c.deciding_kinds-decided in
    let r2 = c.rule-next in
    let r3 = c.acting_kinds in
    let m1 = r1.ensures.1 in
    let m2 = r2.ensures.1 in
    let m3 = r3.ensures.1 in
    let S = set_by a.set.now a.layout in
    let cs = listed a.points in
    let k = a.step in
    let rules = demanded (ruled S cs k) ∷ [] in (
      λ ready room.
          let w1 = r1.ensures.0 ready in
          let s1 = ready-blocks k 0 11 w1 ready in
          let w2 = r2.ensures.0 a.set.now cs k in
          let w3 = r3.ensures.0 (ready-after rules (idle-needs S (ruled S cs k) [] (idle-none S)) w2 s1) in
          writes-++ (blocks S cs k 0 11) (demanded (ruled S cs k) ∷ blocks S cs k 11 25) a.out.now a.slots.now a.n _ _ _ _ _ _ w1
          (writes-++ rules (blocks S cs k 11 25) _ _ _ _ _ _ _ _ _ w2 w3),
      omega arith,
    )
