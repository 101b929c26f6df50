-- `encoder_step::statement_kinds` meets its contract. Assumes nothing.
use Rattle.std.proofs.Common.{arith}
use Rattle.records.specs.Sets.{set_by}
use Rattle.encoding.specs.Slots.{kinds, address, loaded, swaps, result}
use Rattle.encoder_slots.proofs.Ready.{ready-block}
use Rattle.encoder_step.proofs.Sequence.{five}
use Rattle.encoder_step.proofs.statement_kinds.Goals as goal

pub returns : goal.returns
unfolding kinds
returns c =
    let a = c.args in
    let q = c.requires in
    let p0 = q.0 in
    let p1 = q.1 in
    let r1 = c.statement_block-addresses in
    let r2 = c.statement_block-loaded in
    let r3 = c.statement_block-swaps in
    let r4 = c.statement_block-results in
    let r5 = c.statement_block in
    let m1 = r1.ensures.1 in
    let m2 = r2.ensures.1 in
    let m3 = r3.ensures.1 in
    let m4 = r4.ensures.1 in
    let m5 = r5.ensures.1 in (
      λ cs lists step s0.
          let S = set_by a.set.now a.layout in
          let w1 = r1.ensures.0 cs _ step s0 in
          let s1 = ready-block step address w1 s0 in
          let w2 = r2.ensures.0 cs _ step s1 in
          let s2 = ready-block step loaded w2 s1 in
          let w3 = r3.ensures.0 cs _ step s2 in
          let s3 = ready-block step swaps w3 s2 in
          let w4 = r4.ensures.0 cs _ step s3 in
          let s4 = ready-block step result w4 s3 in
          let w5 = r5.ensures.0 cs _ step s4 in
          five S cs step 11 w1 w2 w3 w4 w5,
      omega arith,
    )
