-- `encoder_step::choice_kinds` meets its contract. Assumes nothing.
use Rattle.std.proofs.Common.{arith, refl, sym, ℕ, ◌+◌, ◌≤◌}
use Rattle.records.specs.Sets.{set_by}
use Rattle.encoding.specs.Slots.{kinds, kind_number, choice, active, opening, shut}
use Rattle.set_index.specs.Points.{listed}
use Rattle.encoder_step.proofs.Given.{of_barred}
use Rattle.encoder_step.proofs.Loops.{lone-at}
use Rattle.encoder_slots.proofs.Ready.{ready-block}
use Rattle.encoder_step.proofs.Sequence.{five}
use Rattle.encoder_slots.specs.Pieces.{block_room}
use Rattle.table.specs.Repeats.{last_index}
use Rattle.encoder_step.proofs.choice_kinds.Goals as goal

pub returns : goal.returns
unfolding kinds
returns c =
    let a = c.args in
    let q = c.requires in
    let p0 = q.0 in
    let p1 = q.1 in
    let r1 = c.bare_line-taken in
    let r2 = c.statement_block-active in
    let r3 = c.openings-open in
    let r4 = c.bare_line-shut in
    let r5 = c.register_block in
    let m1 = r1.ensures.1 in
    let m2 = r2.ensures.1 in
    let room3 : r2.result + block_room ≤ last_index = omega arith in
    let m3 = r3.ensures.1 in
    let m4 = r4.ensures.1 in
    let m5 = r5.ensures.1 in
    let many = c.points_count-checkpoints.ensures in (
      λ s0.
          let S = set_by a.set.now a.layout in
          let cs = listed a.points in
          let w1 = r1.ensures.0 S cs _ _ refl (λ (b : ℕ). lone-at S cs 0 b (kind_number choice) (omega arith) refl) refl (omega arith) s0 in
          let s1 = ready-block a.step choice w1 s0 in
          let w2 = r2.ensures.0 cs _ a.step s1 in
          let s2 = ready-block a.step active w2 s1 in
          let w3 = r3.ensures.0 S cs _ refl (sym many) s2 room3 in
          let s3 = ready-block a.step opening w3 s2 in
          let w4 = r4.ensures.0 S cs _ _ refl (λ (b : ℕ). lone-at S cs 0 b (kind_number shut) (omega arith) refl) refl (many) s3 in
          let s4 = ready-block a.step shut w4 s3 in
          let w5 = r5.ensures.0 S cs _ refl (of_barred S cs) s4 in
          five S cs a.step 0 w1 w2 w3 w4 w5,
      omega arith,
    )
