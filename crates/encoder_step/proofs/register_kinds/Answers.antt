-- `encoder_step::register_kinds` meets its contract. Assumes nothing.
use Rattle.std.proofs.Common.{arith}
use Rattle.encoding.specs.Slots.{kinds, adr, mem, accu, full}
use Rattle.encoder_step.proofs.Given.{of_accu, of_adr, of_full, of_halted, of_mem}
use Rattle.encoder_slots.proofs.Ready.{ready-block}
use Rattle.encoder_step.proofs.Sequence.{five}
use Rattle.encoder_step.proofs.register_kinds.Goals as goal

pub returns : goal.returns
unfolding kinds
returns c =
    let a = c.args in
    let q = c.requires in
    let p0 = q.0 in
    let p1 = q.1 in
    let r1 = c.register_block-adr in
    let r2 = c.register_block-mem in
    let r3 = c.register_block-accu in
    let r4 = c.register_block-full in
    let r5 = c.register_block in
    let m1 = r1.ensures.1 in
    let m2 = r2.ensures.1 in
    let m3 = r3.ensures.1 in
    let m4 = r4.ensures.1 in
    let m5 = r5.ensures.1 in (
      λ S cs lists threads s0.
          let w1 = r1.ensures.0 S cs _ threads (of_adr S cs) s0 in
          let s1 = ready-block a.step adr w1 s0 in
          let w2 = r2.ensures.0 S cs _ threads (of_mem S cs) s1 in
          let s2 = ready-block a.step mem w2 s1 in
          let w3 = r3.ensures.0 S cs _ threads (of_accu S cs) s2 in
          let s3 = ready-block a.step accu w3 s2 in
          let w4 = r4.ensures.0 S cs _ threads (of_full S cs) s3 in
          let s4 = ready-block a.step full w4 s3 in
          let w5 = r5.ensures.0 S cs _ threads (of_halted S cs) s4 in
          five S cs a.step 26 w1 w2 w3 w4 w5,
      omega arith,
    )
