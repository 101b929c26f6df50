-- `records::set::accepted` meets its contract. A test that fails refutes acceptance. Assumes nothing.
use Rattle.std.proofs.Common.{ap, arith, eq-eqb, leb, lt-ltb, sym, ◌&&◌, ◌∙◌}
use Rattle.base.proofs.Choice.{and_true, refuted, clash}
use Rattle.base.proofs.Below.{every-all}
use Rattle.base.specs.Below.{number}
use Rattle.records.specs.Sets.{records, follows, record_fits, opens_at, set_accepted}
use Rattle.records.proofs.Sets.{accepted}
use Rattle.records.proofs.set.accepted.Goals as goal

pub returns-then-set-ne0 : goal.returns-then-set-ne0
returns-then-set-ne0 c =
    let s = c.args.set.now in
    sym (refuted _ (λ e. c.if-set-ne0.true (accepted s e).whole))

pub returns-then-n-eq0 : goal.returns-then-n-eq0
returns-then-n-eq0 c =
    let s = c.args.set.now in
    sym (refuted _ (λ e. omega (arith, (accepted s e).some)))

pub returns-then-not-records_fit : goal.returns-then-not-records_fit
returns-then-not-records_fit c =
    let s = c.args.set.now in
    sym (refuted _ (λ e. clash (every-all (λ k. follows s k && record_fits s k) (records s) (λ k b. and_true ((accepted s e).follow k b) ((accepted s e).fit k b))) (sym c.records_fit.ensures ∙ c.if-not-records_fit.true)))

pub returns-then-not-is_last : goal.returns-then-not-is_last
returns-then-not-is_last c =
    let s = c.args.set.now in
    sym (refuted _ (λ e. clash (accepted s e).last (sym c.is_last.ensures ∙ c.if-not-is_last.true)))

pub returns : goal.returns
unfolding set_accepted
returns c =
    let s = c.args.set.now in
    let whole = eq-eqb _ _ c.if-set-ne0.false in
    let some = lt-ltb 0 (records s) (omega arith) in
    let fit = sym c.records_fit.ensures ∙ c.if-not-records_fit.false in
    let last = sym c.is_last.ensures ∙ c.if-not-is_last.false in
    c.few_checkpoints.ensures ∙ sym (ap (λ b. b && leb (number (records s) (opens_at s)) 8) (and_true (and_true (and_true whole some) fit) last))
