-- `encoder_step::write_kinds` meets its contract. Assumes nothing.
use Rattle.std.proofs.Common.{arith, refl}
use Rattle.records.specs.Sets.{set_by}
use Rattle.encoding.specs.Slots.{kinds, not_test, flush_to, write_to, flush_value}
use Rattle.encoder_step.proofs.Given.{of_write_to, of_write_value}
use Rattle.encoder_slots.proofs.Ready.{ready-block}
use Rattle.encoder_step.proofs.Sequence.{five}
use Rattle.encoder_step.proofs.write_kinds.Goals as goal

pub returns : goal.returns
unfolding kinds
returns c =
    let a = c.args in
    let q = c.requires in
    let p0 = q.0 in
    let p1 = q.1 in
    let r1 = c.statement_block-not_tests in
    let r2 = c.single_block-flush_to in
    let r3 = c.running_block-write_to in
    let r4 = c.single_block-flush_value in
    let r5 = c.running_block in
    let m1 = r1.ensures.1 in
    let m2 = r2.ensures.1 in
    let m3 = r3.ensures.1 in
    let m4 = r4.ensures.1 in
    let m5 = r5.ensures.1 in (
      λ cs lists s0.
          let S = set_by a.set.now a.layout in
          let w1 = r1.ensures.0 cs _ a.step s0 in
          let s1 = ready-block a.step not_test w1 s0 in
          let w2 = r2.ensures.0 S cs _ _ refl refl refl s1 in
          let s2 = ready-block a.step flush_to w2 s1 in
          let w3 = r3.ensures.0 S cs _ refl (of_write_to S cs) s2 in
          let s3 = ready-block a.step write_to w3 s2 in
          let w4 = r4.ensures.0 S cs _ _ refl refl refl s3 in
          let s4 = ready-block a.step flush_value w4 s3 in
          let w5 = r5.ensures.0 S cs _ refl (of_write_value S cs) s4 in
          five S cs a.step 16 w1 w2 w3 w4 w5,
      omega arith,
    )
