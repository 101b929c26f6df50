-- `encoder_marks::openings` meets its contract. Assumes nothing.
use Rattle.std.proofs.Common.{List, arith, length, refl, rules, ℕ, ◌<◌, ◌≡◌}
use Rattle.encoder_slots.specs.Pieces.{Ready}
use Rattle.encoder_slots.proofs.Ready.{ready-entry}
use Rattle.encoder_slots.proofs.Pieces.{writes-row, writes_more}
use Rattle.encoder_marks.proofs.Blocks.{openings_written}
use Rattle.encoding.specs.Steps.{entry}
use Rattle.encoding.specs.Slots.{opening}
use Rattle.records.specs.Sets.{Set}
use Rattle.encoder_marks.proofs.openings.Goals as goal

pub loop-p-init : goal.loop-p-init
loop-p-init c =
    let a = c.args in (
      omega arith,
      refl,
      refl,
      λ (S : Set) (cs members : List ℕ) row column ready. (ready, writes-row (entry S cs a.step opening 0) a.out.now a.slots.now a.n),
    )

pub loop-p-preserved : goal.loop-p-preserved
loop-p-preserved c =
    let a = c.args in
    let l = c.loop-p in
    let r = c.opening-next in
    let going = c.loop-p-test.true in
    let f = c.fits.ensures.0 c.if-not-fits.false in
    let added = r.ensures.1 in (
      omega arith,
      search rules,
      search rules,
      λ (S : Set) (cs members : List ℕ) (row : S.threads ≡ a.threads) (column : length cs ≡ a.count) (ready : Ready S cs members a.table.now a.slots.now a.n).
          let g = entry S cs a.step opening 0 in
          let before = l.invariant.3 S cs members row column ready in
          let here : l.p < length cs = omega arith in
          let w = r.ensures.0 S cs members row here before.0 in
          (ready-entry a.step opening 0 l.p w before.0, writes_more g l.p a.out.now a.slots.now a.n _ _ _ _ _ _ before.1 w),
    )

pub returns : goal.returns
returns c =
    let a = c.args in
    let l = c.loop-p in
    let f = c.fits.ensures.0 c.if-not-fits.false in (
      (λ (S : Set) (cs members : List ℕ) (row : S.threads ≡ a.threads) (column : length cs ≡ a.count) ready room.
          let end : l.p ≡ length cs = omega arith in
          openings_written S cs a.step a.out.now a.slots.now a.n _ _ _ l.p end (l.invariant.3 S cs members row column ready).1),
      omega arith,
    )
