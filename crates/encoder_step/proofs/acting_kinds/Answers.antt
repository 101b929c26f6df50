-- `encoder_step::acting_kinds` meets its contract. Assumes nothing.
use Rattle.std.proofs.Common.{arith, refl}
use Rattle.encoder_slots.proofs.Ready.{ready-blocks}
use Rattle.encoder_step.proofs.Sequence.{blocks_more}
use Rattle.records.specs.Sets.{set_by}
use Rattle.set_index.specs.Points.{listed}
use Rattle.encoder_step.proofs.acting_kinds.Goals as goal

pub returns : goal.returns
returns c =
    let a = c.args in
    let r1 = c.statement_kinds-statements in
    let r2 = c.write_kinds-written in
    let r3 = c.exit_kinds-exits in
    let r4 = c.register_kinds-registers in
    let r5 = c.end_kinds in
    let m1 = r1.ensures.1 in
    let m2 = r2.ensures.1 in
    let m3 = r3.ensures.1 in
    let m4 = r4.ensures.1 in
    let m5 = r5.ensures.1 in
    let S = set_by a.set.now a.layout in
    let cs = listed a.points in
    let k = a.step in (
      λ s0.
          let w1 = r1.ensures.0 cs _ k s0 in
          let s1 = ready-blocks k 11 5 w1 s0 in
          let w2 = blocks_more S cs k 11 5 5 w1 (r2.ensures.0 cs _ s1) in
          let s2 = ready-blocks k 11 10 w2 s0 in
          let w3 = blocks_more S cs k 11 10 5 w2 (r3.ensures.0 a.set.now s2) in
          let s3 = ready-blocks k 11 15 w3 s0 in
          let w4 = blocks_more S cs k 11 15 5 w3 (r4.ensures.0 S cs _ refl s3) in
          let s4 = ready-blocks k 11 20 w4 s0 in
          blocks_more S cs k 11 20 5 w4 (r5.ensures.0 _ s4),
      omega arith,
    )
