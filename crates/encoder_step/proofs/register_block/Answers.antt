-- `encoder_step::register_block` meets its contract. Assumes nothing.
use Rattle.std.proofs.Common.{List, arith, refl, rules, sym, ℕ, ◌<◌, ◌∙◌, ◌≡◌}
use Rattle.records.specs.Sets.{Set}
use Rattle.encoding.specs.Slots.{kind_at}
use Rattle.encoding.specs.Steps.{line}
use Rattle.encoder_slots.specs.Kinds.{number_of}
use Rattle.encoder_slots.proofs.Ready.{ready-line}
use Rattle.encoder_slots.proofs.Pieces.{writes-row, writes_more}
use Rattle.encoder_step.proofs.Loops.{line-one, registers}
use Rattle.encoder_step.proofs.register_block.Goals as goal

pub loop-t-init : goal.loop-t-init
loop-t-init c =
    let a = c.args in (
      omega arith,
      refl,
      refl,
      λ (S : Set) (cs lists : List ℕ) threads by ready. (writes-row (line S cs a.step (kind_at (number_of a.kind))) a.out.now a.slots.now a.n, ready),
    )

pub loop-t-preserved : goal.loop-t-preserved
loop-t-preserved c =
    let a = c.args in
    let l = c.loop-t in
    let r = c.given_entry-next in
    let more = r.ensures.1 in
    let so_far = l.invariant.0 in (
      omega arith,
      search rules,
      search rules,
      λ (S : Set) (cs lists : List ℕ) (threads : S.threads ≡ a.threads) by ready.
          let f = line S cs a.step (kind_at (number_of a.kind)) in
          let done = l.invariant.3 S cs lists threads by ready in
          let row : l.t < S.threads = omega arith in
          let w = line-one S cs a.step (number_of a.kind) _ _ _ _ _ _ by.each l.t (r.ensures.0 S cs lists threads row (by.own l.t) done.1) in
          (writes_more f l.t a.out.now a.slots.now a.n _ _ _ _ _ _ done.0 w, ready-line a.step (kind_at (number_of a.kind)) l.t w done.1),
    )

pub returns : goal.returns
returns c =
    let a = c.args in
    let q = c.requires in
    let l = c.loop-t in
    let four = q.1 in
    let so_far = l.invariant.0 in
    let t-is : l.t ≡ a.threads = omega arith in (
      λ (S : Set) (cs lists : List ℕ) threads by ready.
          registers S cs a.step (number_of a.kind) _ _ _ _ _ _ by.each l.t (t-is ∙ sym threads) (l.invariant.3 S cs lists threads by ready).0,
      omega arith,
    )
