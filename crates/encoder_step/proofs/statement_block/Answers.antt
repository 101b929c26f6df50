-- `encoder_step::statement_block` meets its contract. Assumes nothing.
use Rattle.std.proofs.Common.{List, arith, refl, rules, subst, ℕ, ◌+◌, ◌∙◌, ◌≡◌, ◌≤◌}
use Rattle.encoding.specs.Steps.{line}
use Rattle.encoding.specs.Slots.{kind_at}
use Rattle.table.specs.Programs.{upto}
use Rattle.records.specs.Sets.{set_by}
use Rattle.encoder_slots.specs.Kinds.{number_of}
use Rattle.encoder_slots.proofs.Ready.{ready-line}
use Rattle.encoder_slots.proofs.Pieces.{writes-row, writes_more}
use Rattle.encoder_slots.specs.Pieces.{Writes, line_room}
use Rattle.encoder_step.proofs.Loops.{statement-rows}
use Rattle.table.specs.Repeats.{last_index}
use Rattle.encoder_step.proofs.statement_block.Goals as goal

pub loop-t-init : goal.loop-t-init
loop-t-init c =
    let a = c.args in
    let most = c.requires.1 in (
      omega arith,
      omega arith,
      refl,
      refl,
      λ (cs lists : List ℕ) (step : ℕ) ready.
          (writes-row (line (set_by a.set.now a.layout) cs step (kind_at (number_of a.kind))) a.out.now a.slots.now a.n, ready),
    )

pub loop-t-preserved : goal.loop-t-preserved
loop-t-preserved c =
    let a = c.args in
    let q = c.requires in
    let l = c.loop-t in
    let r = c.statement_line-next in
    let S = set_by a.set.now a.layout in
    let little = q.0 in
    let few : l.next + line_room ≤ last_index = omega arith in
    let last = r.ensures.1 in (
      l.invariant.0,
      omega arith,
      search rules,
      search rules,
      λ (cs lists : List ℕ) (step : ℕ) ready.
          let f = line S cs step (kind_at (number_of a.kind)) in
          let done = l.invariant.4 cs lists step ready in
          let w = r.ensures.0 cs lists step q.3 (omega arith) few done.1 in (
            writes_more f l.t a.out.now a.slots.now a.n _ _ _ _ _ _ done.0 w,
            ready-line step (kind_at (number_of a.kind)) l.t w done.1,
          ),
    )

pub returns : goal.returns
returns c =
    let a = c.args in
    let q = c.requires in
    let l = c.loop-t in
    let S = set_by a.set.now a.layout in
    let t-is : l.t ≡ a.layout.threads = omega arith in (
      λ (cs lists : List ℕ) (step : ℕ) ready.
          subst (λ (j : ℕ). Writes (upto (line S cs step (kind_at (number_of a.kind))) j) a.out.now a.slots.now a.n l.out l.slots l.next)
          (t-is ∙ statement-rows S cs step (number_of a.kind) q.2 q.3) (l.invariant.4 cs lists step ready).0,
      omega arith,
    )
