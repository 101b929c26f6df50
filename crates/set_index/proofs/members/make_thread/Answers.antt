-- `set_index::members::make_thread` meets its contract. Assumes nothing.
use Rattle.std.proofs.Common.{ap, arith, refl, sym, ◌<◌, ◌∙◌}
use Rattle.records.specs.declared.Statement.{Statement}
use Rattle.records.specs.Sets.{Set, set_by}
use Rattle.set_index.specs.Members.{Filled}
use Rattle.records.specs.StatementRecords.{StandsFrom}
use Rattle.records.proofs.StatementRecords.{stands_from}
use Rattle.set_index.proofs.Filling.{filled_next, filled-thread}
use Rattle.set_index.proofs.members.make_thread.Goals as goal

pub returns-then-t-ge-THREADS : goal.returns-then-t-ge-THREADS
returns-then-t-ge-THREADS c = (refl, λ q f. absurd (omega arith))

pub returns-then-members-ne-LENGTH : goal.returns-then-members-ne-LENGTH
returns-then-members-ne-LENGTH c = (refl, λ q f. absurd (c.if-members-ne-LENGTH.true f.whole))

pub loop-i-init : goal.loop-i-init
loop-i-init c = (omega arith, c.listed_count-end.ensures.0, c.first-start.ensures.1, refl, λ (S : Set) h q f. f)

pub loop-i-preserved : goal.loop-i-preserved
loop-i-preserved c =
    let a = c.args in
    let l = c.loop-i in
    let start = c.first-start in
    let end = c.listed_count-end in
    let read = c.statement_at-s in
    let first = c.visit_first.ensures in
    let next = c.visit_next.ensures in
    let last = c.visit_last.ensures in
    let inside : l.i < 32 = omega arith in (
      omega arith,
      l.invariant.1,
      l.invariant.2,
      last.0 ∙ (next.0 ∙ (first.0 ∙ l.invariant.3)),
      λ (S : Set) (h : StandsFrom S a.set.now a.t start.result end.result) q f.
          let n = ap (λ (s : Statement). s.number) ((rw c.from.ensures at read.ensures) ∙ sym (h l.i (omega arith))) in
          filled_next S a.t l.i _ (last.1 S q inside n (next.1 S q inside n (first.1 S q inside n (l.invariant.4 S h q f)))),
    )

pub returns : goal.returns
returns c =
    let a = c.args in
    let l = c.loop-i in
    let end = c.listed_count-end in
    let count = c.count in
    let start = c.first-start in
    let S = set_by a.set.now a.layout in (
      l.invariant.3,
      λ q (f : Filled S a.t 0 0 a.members.now).
          let most = f.few a.t q in
          let all = count.ensures in
          let is = end.ensures.1 (omega arith) in
          filled-thread S a.t l.i l.members (omega arith)
          (l.invariant.4 S (stands_from a.set.now a.layout a.t start.result end.result start.ensures.0 (omega arith)) q f),
    )
