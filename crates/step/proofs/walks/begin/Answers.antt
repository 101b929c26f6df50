-- `step::walks::begin` meets its contract. Assumes nothing.
use Rattle.std.proofs.Common.{arith, get_or, le-leb, leb, length, length-set, refl, rules, sym, ◌≡◌}
use borrow.Author.Tests.{lt-leb}
use Rattle.records.specs.Maps.{cells, address_at, value_at}
use Rattle.base.proofs.Choice.{chosen, passed, and_true, and_false, and_right_false}
use Rattle.base.specs.Below.{least}
use Rattle.step.proofs.MapCells.{all_held, all-content, stored_more}
use Rattle.step.proofs.walks.begin.Goals as goal

pub returns-then-addresses-n : goal.returns-then-addresses-n
unfolding least
returns-then-addresses-n c =
    let a = c.args in
    (sym (passed _ _ (and_false (leb (cells a.map.now) (length a.values.now)) (lt-leb _ _ c.if-addresses-n.true))), refl, refl)

pub returns-then-values-n : goal.returns-then-values-n
unfolding least
returns-then-values-n c =
    let a = c.args in
    (sym (passed _ _ (and_right_false (leb (cells a.map.now) (length a.addresses.now)) (lt-leb _ _ c.if-values-n.true))), refl, refl)

pub loop-k-init : goal.loop-k-init
loop-k-init c = (search rules, search rules, search rules, search rules, refl, refl, (λ j h. absurd (omega arith)), (λ j h. absurd (omega arith)))

pub loop-k-preserved : goal.loop-k-preserved
loop-k-preserved c =
    let l = c.loop-k in
    let a = c.args in (
      search rules,
      l.invariant.1,
      l.invariant.2,
      l.invariant.3,
      simp length-set l.invariant.4,
      simp length-set l.invariant.5,
      stored_more l.addresses l.k c.word_at.result (address_at a.map.now) (omega arith) l.invariant.6 c.word_at.ensures,
      stored_more l.values l.k c.word_at-in-loop-k.result (value_at a.map.now) (omega arith) l.invariant.7 c.word_at-in-loop-k.ensures,
    )

pub returns : goal.returns
returns c =
    let l = c.loop-k in
    let a = c.args in
    let e : l.k ≡ cells a.map.now = omega arith in (
      sym (chosen _ _ (and_true (le-leb (cells a.map.now) (length a.addresses.now) (omega arith)) (le-leb (cells a.map.now) (length a.values.now) (omega arith)))),
      all-content (λ k. get_or l.addresses k 0) (address_at a.map.now) (cells a.map.now) (λ k h. l.invariant.6 k (omega arith)) (λ k. get_or l.values k 0) (value_at a.map.now) (λ k h. l.invariant.7 k (omega arith)),
      all_held (λ k. get_or l.addresses k 0) (address_at a.map.now) (cells a.map.now) (λ k h. l.invariant.6 k (omega arith)),
    )
