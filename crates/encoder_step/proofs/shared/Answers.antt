-- `encoder_step::shared` meets its contract. Assumes nothing.
use Rattle.std.proofs.Common.{arith, refl}
use Rattle.records.specs.Sets.{set_by}
use Rattle.encoding.specs.Slots.{kinds, word_one, argument, kind_number}
use Rattle.encoding.specs.Steps.{block}
use Rattle.encoder_slots.proofs.Pieces.{writes-++}
use Rattle.encoder_step.proofs.Loops.{lone-at, one_value}
use Rattle.encoder_slots.proofs.Ready.{ready-block}
use Rattle.encoder_step.proofs.shared.Goals as goal

pub returns : goal.returns
unfolding kinds
returns c =
    let a = c.args in
    let r1 = c.bare_entry-one in
    let r2 = c.statement_block in
    let m1 = r1.ensures.1 in
    let m2 = r2.ensures.1 in
    let S = set_by a.set.now a.layout in (
      λ cs lists ready room.
          let w1 = one_value S cs 0 (kind_number word_one) _ _ _ _ _ _ refl refl (r1.ensures.0 S cs _ _ refl (lone-at S cs 0 0 (kind_number word_one) (omega arith) refl) ready) in
          let s1 = ready-block 0 word_one w1 ready in
          writes-++ (block S cs 0 word_one) (block S cs 0 argument) a.out.now a.slots.now a.n _ _ _ _ _ _ w1 (r2.ensures.0 cs _ 0 s1),
      omega arith,
    )
