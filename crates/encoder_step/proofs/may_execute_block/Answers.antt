-- `encoder_step::may_execute_block` meets its contract. Assumes nothing.
use Rattle.std.proofs.Common.{List, arith, refl, rules, sym, ℕ, ◌∙◌, ◌≡◌}
use Rattle.records.specs.Sets.{Set}
use Rattle.encoding.specs.Slots.{kinds, kind_number, may_execute}
use Rattle.encoding.specs.Steps.{line}
use Rattle.encoder_slots.proofs.Ready.{ready-line}
use Rattle.encoder_slots.proofs.Pieces.{writes-row, writes_more}
use Rattle.encoder_step.proofs.Loops.{line-one, registers, lone-at}
use Rattle.encoder_step.proofs.may_execute_block.Goals as goal

pub loop-t-init : goal.loop-t-init
loop-t-init c =
    let a = c.args in (
      omega arith,
      refl,
      refl,
      λ (S : Set) (cs members lists : List ℕ) threads ready. (writes-row (line S cs a.step may_execute) a.out.now a.slots.now a.n, ready),
    )

pub loop-t-preserved : goal.loop-t-preserved
unfolding kinds
loop-t-preserved c =
    let a = c.args in
    let l = c.loop-t in
    let r = c.bare_entry-next in
    let more = r.ensures.1 in
    let so_far = l.invariant.0 in (
      omega arith,
      search rules,
      search rules,
      λ (S : Set) (cs members lists : List ℕ) threads ready.
          let f = line S cs a.step may_execute in
          let done = l.invariant.3 S cs members lists threads ready in
          let w = line-one S cs a.step (kind_number may_execute) _ _ _ _ _ _ refl l.t (r.ensures.0 S cs members lists threads (lone-at S cs l.t 0 (kind_number may_execute) (omega arith) refl) done.1) in
          (writes_more f l.t a.out.now a.slots.now a.n _ _ _ _ _ _ done.0 w, ready-line a.step may_execute l.t w done.1),
    )

pub returns : goal.returns
unfolding kinds
returns c =
    let a = c.args in
    let q = c.requires in
    let l = c.loop-t in
    let four = q.1 in
    let so_far = l.invariant.0 in
    let t-is : l.t ≡ a.threads = omega arith in (
      λ (S : Set) (cs members lists : List ℕ) threads ready.
          registers S cs a.step (kind_number may_execute) _ _ _ _ _ _ refl l.t (t-is ∙ sym threads) (l.invariant.3 S cs members lists threads ready).0,
      omega arith,
    )
