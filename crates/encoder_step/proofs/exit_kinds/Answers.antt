-- `encoder_step::exit_kinds` meets its contract. Assumes nothing.
use Rattle.std.proofs.Common.{arith, refl, sym, ◌+◌, ◌≤◌}
use Rattle.records.specs.Sets.{set_by}
use Rattle.encoding.specs.Slots.{kinds, kind_number, raised, exits, codes, shared_memory}
use Rattle.set_index.specs.Points.{listed}
use Rattle.encoder_step.proofs.Given.{of_codes, of_exits, of_val}
use Rattle.encoder_step.proofs.Loops.{lone-at, one_value}
use Rattle.encoder_slots.proofs.Ready.{ready-block}
use Rattle.encoder_step.proofs.Sequence.{five}
use Rattle.encoder_slots.specs.Pieces.{block_room}
use Rattle.table.specs.Repeats.{last_index}
use Rattle.encoder_step.proofs.exit_kinds.Goals as goal

pub returns : goal.returns
unfolding kinds
returns c =
    let a = c.args in
    let q = c.requires in
    let p0 = q.0 in
    let p1 = q.1 in
    let r1 = c.marks-raised in
    let r2 = c.running_block-exits in
    let r3 = c.running_block-codes in
    let r4 = c.bare_entry-memory in
    let r5 = c.register_block in
    let room1 : a.n + block_room ≤ last_index = omega arith in
    let m1 = r1.ensures.1 in
    let m2 = r2.ensures.1 in
    let m3 = r3.ensures.1 in
    let m4 = r4.ensures.1 in
    let m5 = r5.ensures.1 in
    let many = c.points_count-checkpoints.ensures in (
      λ bytes s0.
          let S = set_by bytes a.layout in
          let cs = listed a.points in
          let w1 = r1.ensures.0 S cs _ refl (sym many) refl s0 room1 in
          let s1 = ready-block a.step raised w1 s0 in
          let w2 = r2.ensures.0 S cs _ refl (of_exits S cs) s1 in
          let s2 = ready-block a.step exits w2 s1 in
          let w3 = r3.ensures.0 S cs _ refl (of_codes S cs) s2 in
          let s3 = ready-block a.step codes w3 s2 in
          let w4 = one_value S cs a.step (kind_number shared_memory) _ _ _ _ _ _ refl refl (r4.ensures.0 S cs _ _ refl (lone-at S cs 0 0 (kind_number shared_memory) (omega arith) refl) s3) in
          let s4 = ready-block a.step shared_memory w4 s3 in
          let w5 = r5.ensures.0 S cs _ refl (of_val S cs) s4 in
          five S cs a.step 21 w1 w2 w3 w4 w5,
      omega arith,
    )
