-- `encoder_marks::line` meets its contract. Assumes nothing.
use Rattle.std.proofs.Common.{List, arith, length, refl, rules, subst, sym, ℕ, ◌<◌, ◌∙◌, ◌≡◌}
use Rattle.encoder_slots.specs.Kinds.{number_of}
use Rattle.encoder_slots.specs.Pieces.{Writes, Ready}
use Rattle.encoder_slots.proofs.Ready.{ready-entry}
use Rattle.encoder_slots.proofs.Pieces.{writes-row, writes_more}
use Rattle.encoder_marks.proofs.Marked.{marked-columns}
use Rattle.encoding.specs.Steps.{entry}
use Rattle.encoding.specs.Slots.{kind_at}
use Rattle.table.specs.Programs.{upto}
use Rattle.records.specs.Sets.{Set}
use Rattle.encoder_marks.proofs.line.Goals as goal

pub loop-p-init : goal.loop-p-init
loop-p-init c =
    let a = c.args in (
      omega arith,
      refl,
      refl,
      λ (S : Set) (cs members : List ℕ) threads columns is row ready. (ready, writes-row (entry S cs a.step (kind_at (number_of a.kind)) a.t) a.out.now a.slots.now a.n),
    )

pub loop-p-preserved : goal.loop-p-preserved
loop-p-preserved c =
    let a = c.args in
    let l = c.loop-p in
    let r = c.entry-next in
    let going = c.loop-p-test.true in
    let added = r.ensures.1 in (
      omega arith,
      search rules,
      search rules,
      λ (S : Set) (cs members : List ℕ) threads (columns : length cs ≡ a.count) is row (ready : Ready S cs members a.table.now a.slots.now a.n).
          let f = entry S cs a.step (kind_at (number_of a.kind)) a.t in
          let before = l.invariant.3 S cs members threads columns is row ready in
          let here : l.p < length cs = omega arith in
          let w = r.ensures.0 S cs members threads is row here before.0 in
          (ready-entry a.step (kind_at (number_of a.kind)) a.t l.p w before.0, writes_more f l.p a.out.now a.slots.now a.n _ _ _ _ _ _ before.1 w),
    )

pub returns : goal.returns
returns c =
    let a = c.args in
    let few = c.requires.1 in
    let l = c.loop-p in (
      (λ (S : Set) (cs members : List ℕ) threads (columns : length cs ≡ a.count) is row ready.
          let end : l.p ≡ length cs = omega arith in
          subst (λ (j : ℕ). Writes (upto (entry S cs a.step (kind_at (number_of a.kind)) a.t) j) a.out.now a.slots.now a.n l.out l.slots l.next)
          (end ∙ sym (marked-columns S cs a.step a.t (number_of a.kind) is)) (l.invariant.3 S cs members threads columns is row ready).1),
      omega arith,
    )
