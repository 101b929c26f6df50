-- `text::sections::add` meets its contract. Assumes nothing.
use Rattle.std.proofs.Common.{length, rules, slice_set, ◌≡◌, ◌+◌, ap, cond, eqb, arith, ltb, ltb-true, refl, sym, ℕ, ◌&&◌, ◌∙◌}
use Rattle.text_drafts.specs.Blocks.{block_at}
use Rattle.text_drafts.proofs.Blocks.{stored-length, stored-block}
use Rattle.text.specs.Drafts.{threads_in}
use Rattle.text.proofs.Kept.{added-kept, bounded-more}
use Rattle.base.proofs.Choice.{and_left, and_right, clash}
use Rattle.text.proofs.sections.add.Goals as goal

pub overflow_add-counts : goal.overflow_add-counts
overflow_add-counts c = let r = c.args.r in
    let n = c.count-n.result in
    let h = ltb-true n 32 (and_right (r.fits && ltb r.ended 4) (ltb n 32) c.if-room.true) in omega (arith, h)

pub returns-then-room : goal.returns-then-room
returns-then-room c = let r = c.args.r in
    let n = c.count-n in
    let test = c.if-room.true in
    let yes₁ = and_left (r.fits && ltb r.ended 4) (ltb n.result 32) test in
    let few = ltb-true _ _ (and_right (r.fits && ltb r.ended 4) (ltb n.result 32) test) in
    let four = ltb-true _ _ (and_right r.fits (ltb r.ended 4) yes₁) in
    let k = c.block.result in
    let put = c.put in
    let block = stored-block c.args.x k c.args.draft.now put.new.draft put.ensures.0 put.ensures.1 put.ensures.2 in
    let long : length r.counts ≡ 4 = search rules in
    let counts : slice_set r.counts c.from.result (n.result + 1) ≡ slice_set r.counts r.ended (n.result + 1) = ap (λ (i : ℕ). slice_set r.counts i (n.result + 1)) c.from.ensures in
    record {
      fits = and_left r.fits (ltb r.ended 4) yes₁ ∙ sym (ap (λ (m : ℕ). r.fits && ltb r.ended 4 && ltb m 32) (sym n.ensures) ∙ test);
      ended = refl;
      cells = refl;
      line = refl;
      sound = λ sound. ((λ t. rw counts (bounded-more c.args.draft.now put.new.draft r.counts r.ended n.result c.args.x (omega (arith, long, four)) n.ensures few sound.0 (λ j. block (omega (arith, four, few, sound.1, c.block.ensures)) j ∙ ap (λ (i : ℕ). cond (eqb j i) c.args.x (block_at c.args.draft.now j)) c.block.ensures) t)), stored-length c.args.x k c.args.draft.now put.new.draft put.ensures.0 ∙ sound.1);
      threads = λ sound fits. ap (threads_in put.new.draft r.ended) counts ∙ added-kept c.args.draft.now put.new.draft r.counts r.ended n.result c.args.x (omega (arith, long, four)) n.ensures few sound.0 (λ j. block (omega (arith, four, few, sound.1, c.block.ensures)) j ∙ ap (λ (i : ℕ). cond (eqb j i) c.args.x (block_at c.args.draft.now j)) c.block.ensures);
    }

pub returns : goal.returns
returns c = let r = c.args.r in
    let n = c.count-n in
    record {
      fits = sym (ap (λ (m : ℕ). r.fits && ltb r.ended 4 && ltb m 32) (sym n.ensures) ∙ c.if-room.false);
      ended = refl;
      cells = refl;
      line = refl;
      sound = λ sound. sound;
      threads = λ sound fits. clash fits refl;
    }
