-- `encoder_marks::waits` meets its contract. Assumes nothing.
use Rattle.std.proofs.Common.{List, arith, length, refl, rules, subst, ℕ, ◌<◌, ◌≡◌}
use Rattle.encoder_slots.specs.Pieces.{Writes, Ready}
use Rattle.encoder_slots.proofs.Ready.{ready-line}
use Rattle.encoder_slots.proofs.Pieces.{writes-row, writes_more}
use Rattle.encoder_marks.proofs.Blocks.{waits-line}
use Rattle.encoding.specs.Steps.{line}
use Rattle.encoding.specs.Slots.{waits}
use Rattle.table.specs.Programs.{upto}
use Rattle.records.specs.Sets.{Set}
use Rattle.encoder_marks.proofs.waits.Goals as goal

pub loop-t-init : goal.loop-t-init
loop-t-init c =
    let a = c.args in (
      omega arith,
      refl,
      refl,
      λ (S : Set) (cs members : List ℕ) row column ready. (ready, writes-row (line S cs a.step waits) a.out.now a.slots.now a.n),
    )

pub loop-t-preserved : goal.loop-t-preserved
loop-t-preserved c =
    let a = c.args in
    let l = c.loop-t in
    let r = c.waiting-next in
    let going = c.loop-t-test.true in
    let f = c.fits.ensures.0 c.if-not-fits.false in
    let added = r.ensures.1 in (
      omega arith,
      search rules,
      search rules,
      λ (S : Set) (cs members : List ℕ) (row : S.threads ≡ a.threads) (column : length cs ≡ a.count) (ready : Ready S cs members a.table.now a.slots.now a.n).
          let g = line S cs a.step waits in
          let before = l.invariant.3 S cs members row column ready in
          let here : l.t < S.threads = omega arith in
          let w = waits-line S cs a.step _ _ _ _ _ _ l.t (r.ensures.0 S cs members row column here before.0) in
          (ready-line a.step waits l.t w before.0, writes_more g l.t a.out.now a.slots.now a.n _ _ _ _ _ _ before.1 w),
    )

pub returns : goal.returns
returns c =
    let a = c.args in
    let l = c.loop-t in
    let f = c.fits.ensures.0 c.if-not-fits.false in (
      (λ (S : Set) (cs members : List ℕ) (row : S.threads ≡ a.threads) (column : length cs ≡ a.count) ready room.
          let end : l.t ≡ S.threads = omega arith in
          subst (λ (j : ℕ). Writes (upto (line S cs a.step waits) j) a.out.now a.slots.now a.n l.out l.slots l.next) end (l.invariant.3 S cs members row column ready).1),
      omega arith,
    )
