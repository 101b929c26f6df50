-- `encoder_step::flag_block` meets its contract. Assumes nothing.
use Rattle.std.proofs.Common.{List, arith, refl, rules, subst, ℕ, ◌+◌, ◌≡◌, ◌≤◌}
use Rattle.encoding.specs.Steps.{line}
use Rattle.encoding.specs.Slots.{kinds, flag}
use Rattle.table.specs.Programs.{upto}
use Rattle.records.specs.Sets.{set_by}
use Rattle.encoder_slots.proofs.Ready.{ready-line}
use Rattle.encoder_slots.proofs.Pieces.{writes-row, writes_more}
use Rattle.encoder_slots.specs.Pieces.{Writes, line_room}
use Rattle.table.specs.Repeats.{last_index}
use Rattle.encoder_step.proofs.flag_block.Goals as goal

pub loop-t-init : goal.loop-t-init
loop-t-init c =
    let a = c.args in
    let most = c.requires.1 in (
      omega arith,
      omega arith,
      refl,
      refl,
      λ (cs members : List ℕ) (step : ℕ) ready. (writes-row (line (set_by a.set.now a.layout) cs step flag) a.out.now a.slots.now a.n, ready),
    )

pub loop-t-preserved : goal.loop-t-preserved
loop-t-preserved c =
    let a = c.args in
    let q = c.requires in
    let l = c.loop-t in
    let r = c.flags-next in
    let S = set_by a.set.now a.layout in
    let little = q.0 in
    let few : l.next + line_room ≤ last_index = omega arith in
    let last = r.ensures.1 in (
      l.invariant.0,
      omega arith,
      search rules,
      search rules,
      λ (cs members : List ℕ) (step : ℕ) ready.
          let f = line S cs step flag in
          let done = l.invariant.4 cs members step ready in
          let w = r.ensures.0 cs members step (omega arith) few done.1 in
          (writes_more f l.t a.out.now a.slots.now a.n _ _ _ _ _ _ done.0 w, ready-line step flag l.t w done.1),
    )

pub returns : goal.returns
unfolding kinds
returns c =
    let a = c.args in
    let l = c.loop-t in
    let S = set_by a.set.now a.layout in
    let t-is : l.t ≡ a.layout.threads = omega arith in (
      λ (cs members : List ℕ) (step : ℕ) ready.
          subst (λ (j : ℕ). Writes (upto (line S cs step flag) j) a.out.now a.slots.now a.n l.out l.slots l.next)
          t-is (l.invariant.4 cs members step ready).0,
      omega arith,
    )
