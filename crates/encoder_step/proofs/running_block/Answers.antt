-- `encoder_step::running_block` meets its contract. Assumes nothing.
use Rattle.std.proofs.Common.{List, ap, arith, rules, sym, ℕ, ◌+◌, ◌<◌, ◌∙◌, ◌≡◌}
use Rattle.records.specs.Sets.{Set}
use Rattle.encoding.specs.Slots.{kind_at}
use Rattle.encoding.specs.Steps.{entry}
use Rattle.encoder_slots.specs.Kinds.{number_of}
use Rattle.encoder_slots.proofs.Ready.{ready-entry}
use Rattle.encoder_slots.proofs.Pieces.{writes-row, writes_more}
use Rattle.encoder_step.proofs.Loops.{running}
use Rattle.encoder_step.proofs.running_block.Goals as goal

pub loop-t-preserved : goal.loop-t-preserved
loop-t-preserved c =
    let a = c.args in
    let l = c.loop-t in
    let r = c.given_entry-next in
    let more = r.ensures.1 in
    let so_far = l.invariant.0 in (
      omega arith,
      search rules,
      search rules,
      λ (S : Set) (cs lists begun begun_slots : List ℕ) (m : ℕ) (threads : S.threads ≡ a.threads) after ready first.
          let f = entry S cs a.step (kind_at (number_of a.kind)) 0 in
          let done = l.invariant.3 S cs lists begun begun_slots m threads after ready first in
          let row : l.t < S.threads = omega arith in
          let w = rw c.from-b.ensures at (r.ensures.0 S cs lists threads row (after.next _ l.t (ap (λ (t : ℕ). t + 1) c.from-b.ensures)) done.1) in
          (writes_more f (l.t + 1) begun begun_slots m _ _ _ _ _ _ done.0 w, ready-entry a.step (kind_at (number_of a.kind)) 0 (l.t + 1) w done.1),
    )

pub returns : goal.returns
returns c =
    let a = c.args in
    let q = c.requires in
    let l = c.loop-t in
    let r = c.bare_entry-next in
    let four = q.1 in
    let so_far = l.invariant.0 in
    let first = r.ensures.1 in
    let t-is : l.t ≡ a.threads = omega arith in (
      λ (S : Set) (cs lists : List ℕ) threads after ready.
          let f = entry S cs a.step (kind_at (number_of a.kind)) 0 in
          let w = r.ensures.0 S cs a.members.now lists threads after.first ready in
          let begins = writes_more f 0 a.out.now a.slots.now a.n _ _ _ _ _ _ (writes-row f a.out.now a.slots.now a.n) w in
          running S cs a.step (number_of a.kind) _ _ _ _ _ _ after.before l.t (t-is ∙ sym threads)
          (l.invariant.3 S cs lists a.out.now a.slots.now a.n threads after (ready-entry a.step (kind_at (number_of a.kind)) 0 0 w ready) begins).0,
      omega arith,
    )
