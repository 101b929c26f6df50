-- `encoder_marks::marks` meets its contract. Assumes nothing.
use Rattle.std.proofs.Common.{List, arith, length, refl, rules, subst, sym, ℕ, ◌<◌, ◌∙◌, ◌≡◌}
use Rattle.encoder_slots.specs.Kinds.{number_of}
use Rattle.encoder_slots.specs.Pieces.{Writes, Ready}
use Rattle.encoder_slots.proofs.Ready.{ready-line}
use Rattle.encoder_slots.proofs.Pieces.{writes-row, writes_more}
use Rattle.encoder_marks.proofs.Marked.{marked-known, marked-rows}
use Rattle.encoding.specs.Steps.{line}
use Rattle.encoding.specs.Slots.{kind_at}
use Rattle.table.specs.Programs.{upto}
use Rattle.records.specs.Sets.{Set}
use Rattle.encoder_marks.proofs.marks.Goals as goal

pub returns-in_default : goal.returns-in_default
returns-in_default g c = (
  λ S cs members row column is ready room. let known = marked-known (g.K.NamesKind.number c.args.kind) is in let past = c.in_default.ensures.1 in absurd (omega arith),
  omega arith,
)

pub loop-t-init : goal.loop-t-init
loop-t-init g c =
    let a = c.args in (
      omega arith,
      refl,
      refl,
      λ (S : Set) (cs members : List ℕ) row column is ready. (ready, writes-row (line S cs a.step (kind_at (number_of c.in-Ok.kind))) a.out.now a.slots.now a.n),
    )

pub loop-t-preserved : goal.loop-t-preserved
loop-t-preserved g c =
    let a = c.args in
    let l = c.loop-t in
    let r = c.line-next in
    let going = c.loop-t-test.true in
    let f = c.fits.ensures.0 c.if-not-fits.false in
    let added = r.ensures.1 in (
      omega arith,
      search rules,
      search rules,
      λ (S : Set) (cs members : List ℕ) (row : S.threads ≡ a.threads) (column : length cs ≡ a.count) is (ready : Ready S cs members a.table.now a.slots.now a.n).
          let rows = line S cs a.step (kind_at (number_of c.in-Ok.kind)) in
          let before = l.invariant.3 S cs members row column is ready in
          let here : l.t < S.threads = omega arith in
          let w = r.ensures.0 S cs members row column is here before.0 in
          (ready-line a.step (kind_at (number_of c.in-Ok.kind)) l.t w before.0, writes_more rows l.t a.out.now a.slots.now a.n _ _ _ _ _ _ before.1 w),
    )

pub returns : goal.returns
returns g c =
    let a = c.args in
    let l = c.loop-t in
    let f = c.fits.ensures.0 c.if-not-fits.false in
    rw (sym c.in-Ok.ensures) (
      (λ (S : Set) (cs members : List ℕ) (row : S.threads ≡ a.threads) (column : length cs ≡ a.count) is ready room.
          let end : l.t ≡ S.threads = omega arith in
          subst (λ (j : ℕ). Writes (upto (line S cs a.step (kind_at (number_of c.in-Ok.kind))) j) a.out.now a.slots.now a.n l.out l.slots l.next) (end ∙ sym (marked-rows S cs a.step (number_of c.in-Ok.kind) is)) (l.invariant.3 S cs members row column is ready).1),
      omega arith,
    )
