-- `encoder_step::bare_line` meets its contract. Assumes nothing.
use Rattle.std.proofs.Common.{List, arith, refl, rules, ℕ, ◌∙◌, ◌≡◌}
use Rattle.records.specs.Sets.{Set}
use Rattle.encoding.specs.Slots.{kind_at}
use Rattle.encoding.specs.Steps.{entry}
use Rattle.encoder_slots.specs.Kinds.{number_of}
use Rattle.encoder_slots.proofs.Ready.{ready-entry}
use Rattle.encoder_slots.proofs.Pieces.{writes-row, writes_more}
use Rattle.encoder_step.proofs.Loops.{one_line}
use Rattle.encoder_step.proofs.bare_line.Goals as goal

pub loop-b-init : goal.loop-b-init
loop-b-init c =
    let a = c.args in (
      omega arith,
      refl,
      refl,
      λ (S : Set) (cs members lists : List ℕ) threads bare ready. (writes-row (entry S cs a.step (kind_at (number_of a.kind)) 0) a.out.now a.slots.now a.n, ready),
    )

pub loop-b-preserved : goal.loop-b-preserved
loop-b-preserved c =
    let a = c.args in
    let l = c.loop-b in
    let r = c.bare_entry-next in
    let more = r.ensures.1 in
    let so_far = l.invariant.0 in (
      omega arith,
      search rules,
      search rules,
      λ (S : Set) (cs members lists : List ℕ) threads bare ready.
          let f = entry S cs a.step (kind_at (number_of a.kind)) 0 in
          let done = l.invariant.3 S cs members lists threads bare ready in
          let w = r.ensures.0 S cs members lists threads (bare l.b) done.1 in
          (writes_more f l.b a.out.now a.slots.now a.n _ _ _ _ _ _ done.0 w, ready-entry a.step (kind_at (number_of a.kind)) 0 l.b w done.1),
    )

pub returns : goal.returns
returns c =
    let a = c.args in
    let q = c.requires in
    let l = c.loop-b in
    let few = q.1 in
    let so_far = l.invariant.0 in
    let b-is : l.b ≡ a.columns = omega arith in (
      λ (S : Set) (cs members lists : List ℕ) threads bare row columns ready.
          one_line S cs a.step (number_of a.kind) _ _ _ _ _ _ row l.b (b-is ∙ columns) (l.invariant.3 S cs members lists threads bare ready).0,
      omega arith,
    )
