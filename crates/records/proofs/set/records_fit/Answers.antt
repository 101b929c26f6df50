-- `records::set::records_fit` meets its contract. Every record below k follows and fits. Assumes nothing.
use Rattle.base.specs.Below.{every}
use Rattle.std.proofs.Common.{refl, ap₂, arith, rules, sym, ◌&&◌, ◌∙◌, ◌≡◌}
use Rattle.base.proofs.Below.{every_more, every-not}
use Rattle.records.specs.Sets.{records, follows, record_fits}
use Rattle.records.proofs.set.records_fit.Goals as goal

pub record_fits-requires : goal.record_fits-requires
record_fits-requires c = (search rules, c.requires)

pub returns-then-not-follows-record_fits : goal.returns-then-not-follows-record_fits
returns-then-not-follows-record_fits c =
    let s = c.args.set.now in
    let e = sym (ap₂ ◌&&◌ c.follows.ensures c.record_fits.ensures) ∙ c.if-not-follows-record_fits.true in
    sym (every-not (λ k. follows s k && record_fits s k) (records s) _ c.loop-k-test.true e)

pub loop-k-preserved : goal.loop-k-preserved
loop-k-preserved c =
    let s = c.args.set.now in
    let e = sym (ap₂ ◌&&◌ c.follows.ensures c.record_fits.ensures) ∙ c.if-not-follows-record_fits.false in
    every_more (λ k. follows s k && record_fits s k) _ c.loop-k.invariant e

pub returns : goal.returns
returns c =
    let e : c.loop-k.k ≡ records c.args.set.now = omega arith in
    sym (rw e at c.loop-k.invariant)

pub loop-k-init : goal.loop-k-init
unfolding every
loop-k-init c = refl
