-- `records::set::few_checkpoints` meets its contract. The records below k open `found` checkpoints, at most 8. Assumes nothing.
use Rattle.std.proofs.Common.{refl, arith, le-leb, rules, sym, ◌+◌, ◌∙◌, ◌≡◌}
use borrow.Author.Tests.{lt-leb}
use Rattle.base.proofs.Below.{number_more, number_same, number-grows}
use Rattle.base.specs.Below.{number}
use Rattle.records.specs.Sets.{records, opens_at}
use Rattle.records.proofs.set.few_checkpoints.Goals as goal
use Rattle.records.proofs.set.few_checkpoints.Goals.{then-opens+else-found-eq-CHECKPOINTS, else-opens}

pub returns-then-found-eq-CHECKPOINTS : goal.returns-then-found-eq-CHECKPOINTS
returns-then-found-eq-CHECKPOINTS c =
    let s = c.args.set.now in
    let k = c.loop-k.k in
    let more = number_more (opens_at s) k (sym c.opens.ensures ∙ c.if-opens.true) in
    sym (lt-leb (number (records s) (opens_at s)) 8 (omega (arith, more, number-grows (opens_at s) (k + 1) (records s) (omega arith))))

pub loop-k-preserved : goal.loop-k-preserved
loop-k-preserved c =
    let s = c.args.set.now in
    let k = c.loop-k.k in
    let e = sym c.opens.ensures in
    elim c.if-opens.branch [
      | then-opens+else-found-eq-CHECKPOINTS w ↦ (omega arith, omega (arith, number_more (opens_at s) k (e ∙ w.if-opens.true), w.found-is))
      | else-opens w ↦ (omega arith, omega (arith, number_same (opens_at s) k (e ∙ w.if-opens.false), w.found-is))
    ]

pub returns : goal.returns
returns c =
    let s = c.args.set.now in
    let e : c.loop-k.k ≡ records s = omega arith in
    let h = rw e at c.loop-k.invariant.1 in
    sym (le-leb (number (records s) (opens_at s)) 8 (omega arith))

pub loop-k-init : goal.loop-k-init
unfolding number
loop-k-init c = (search rules, refl)
