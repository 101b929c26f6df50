-- `encoder_step::deciding_kinds` meets its contract. Assumes nothing.
use Rattle.std.proofs.Common.{arith, refl}
use Rattle.records.specs.Sets.{set_by}
use Rattle.encoding.specs.Slots.{kinds}
use Rattle.set_index.specs.Points.{listed}
use Rattle.encoder_slots.proofs.Ready.{ready-blocks}
use Rattle.encoder_step.proofs.Sequence.{block_more, blocks_more}
use Rattle.encoder_step.proofs.deciding_kinds.Goals as goal

pub returns : goal.returns
unfolding kinds
returns c =
    let a = c.args in
    let r1 = c.choice_kinds-chosen in
    let r2 = c.permit_kinds-permitted in
    let r3 = c.single_block in
    let m1 = r1.ensures.1 in
    let m2 = r2.ensures.1 in
    let m3 = r3.ensures.1 in
    let S = set_by a.set.now a.layout in
    let cs = listed a.points in
    let k = a.step in (
      λ s0.
          let w1 = r1.ensures.0 s0 in
          let s1 = ready-blocks k 0 5 w1 s0 in
          let w2 = blocks_more S cs k 0 5 5 w1 (r2.ensures.0 a.set.now _ s1) in
          let s2 = ready-blocks k 0 10 w2 s0 in
          block_more S cs k 0 10 w2 (r3.ensures.0 S cs _ _ refl refl refl s2),
      omega arith,
    )
