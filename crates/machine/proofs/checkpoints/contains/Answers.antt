-- `machine::checkpoints::contains` meets its contract. Assumes nothing.
use Rattle.std.proofs.Common.{List, ap, arith, eqb, get_or, refl, sym, ℕ, ◌&&◌, ◌<◌, ◌∙◌, ◌≡◌}
use Rattle.machine.proofs.Groups.{some_same}
use Rattle.base.specs.Below.{some}
use Rattle.base.proofs.Below.{some_more, some_at}
use Rattle.records.specs.Sets.{set_by}
use Rattle.records.specs.Instructions.{CHECK}
use Rattle.records.specs.declared.Statement.{Statement}
use Rattle.records.specs.declared.Layout.{Layout}
use Rattle.records.proofs.StatementRecords.{stands_by}
use Rattle.machine.specs.Machine.{is_check, contains}
use Rattle.machine.proofs.checkpoints.contains.Invariants.{checked}
use Rattle.machine.proofs.checkpoints.contains.Goals as goal

-- it is thread t's statement q
checked-is : (set : List ℕ) (layout : Layout) (t c first q : ℕ) → first ≡ get_or layout.starts t 0 → q < get_or layout.counts t 0 →
    checked set first c q ≡ is_check (set_by set layout) t c q
checked-is set layout t c first q e l =
    ap (λ (i : Statement). eqb i.number CHECK && eqb i.argument c) (sym ((stands_by set layout t first e).statement_is q l))

pub loop-p-init : goal.loop-p-init
unfolding some
loop-p-init c = refl

pub returns-then-checks : goal.returns-then-checks
unfolding contains
returns-then-checks c =
    let found : let a = c.args in c.checks.result ≡ checked a.set.now c.first-first.result a.c c.loop-p.p = let a = c.args in
    c.checks.ensures ∙ ap (λ (i : Statement). eqb i.number CHECK && eqb i.argument a.c) c.statement_at-i.ensures ∙ ap (checked a.set.now c.first-first.result a.c) c.from.ensures in
    let l = c.loop-p in
    let a = c.args in
    let n = c.count-n.ensures in
    sym (some_at (is_check (set_by a.set.now a.layout) a.t a.c) _ l.p (omega (arith, n, c.loop-p-test.true))
    (sym (checked-is a.set.now a.layout a.t a.c _ l.p c.first-first.ensures.0 (omega (arith, n, c.loop-p-test.true))) ∙ sym found ∙ c.if-checks.true))

pub loop-p-preserved : goal.loop-p-preserved
loop-p-preserved c =
    let found : let a = c.args in c.checks.result ≡ checked a.set.now c.first-first.result a.c c.loop-p.p = let a = c.args in
    c.checks.ensures ∙ ap (λ (i : Statement). eqb i.number CHECK && eqb i.argument a.c) c.statement_at-i.ensures ∙ ap (checked a.set.now c.first-first.result a.c) c.from.ensures in
    let l = c.loop-p in
    let a = c.args in
    some_more (λ q. checked a.set.now _ a.c q) l.p l.invariant (sym found ∙ c.if-checks.false)

pub returns : goal.returns
unfolding contains
returns c =
    let l = c.loop-p in
    let a = c.args in
    let n = c.count-n.ensures in
    let e : l.p ≡ get_or a.layout.counts a.t 0 = omega (arith, n, c.loop-p-test.false, l.auto.p-end) in
    sym l.invariant ∙ some_same _ (is_check (set_by a.set.now a.layout) a.t a.c) l.p
    (λ k h. checked-is a.set.now a.layout a.t a.c _ k c.first-first.ensures.0 (omega (arith, e, h)))
    ∙ ap (λ (k : ℕ). some k (is_check (set_by a.set.now a.layout) a.t a.c)) e
