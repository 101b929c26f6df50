-- `encoder_size::statements` meets its contract. Assumes nothing.
use Rattle.std.proofs.Common.{ap, arith, get_or, length, refl, sym, ℕ, ◌+◌, ◌∙◌, ◌≡◌}
use Rattle.encoder_size.proofs.Sums.{total-none, total-next, total_ext}
use Rattle.encoder_size.proofs.Seen.{notes_nothing, notes_ext, notes_next}
use Rattle.encoder_size.specs.Sizes.{total, statement_records}
use Rattle.machine.specs.Machine.{is_check, contains}
use Rattle.machine.proofs.Groups.{some_same}
use Rattle.base.specs.Below.{some}
use Rattle.set_index.specs.Points.{listed}
use Rattle.records.proofs.StatementRecords.{stands_by}
use Rattle.records.specs.declared.Statement.{Statement}
use Rattle.records.specs.Sets.{set_by, statement_at}
use Rattle.encoder_size.proofs.statements.Invariants.{checks_in}
use Rattle.encoder_size.proofs.statements.Goals as goal

pub loop-i-init : goal.loop-i-init
unfolding some
loop-i-init c = (c.first-first.ensures.1, sym (total-none _), omega arith, refl, c.requires.1, notes_nothing _ _ _ (λ p. refl))

pub loop-i-preserved : goal.loop-i-preserved
loop-i-preserved c =
    let a = c.args in
    let l = c.loop-i in
    let first = c.first-first.result in
    let read = c.statement_at-s.ensures ∙ ap (λ (i : ℕ). statement_at a.set.now (first + i)) c.from.ensures in
    let w = c.statement-n.ensures in
    let cs = listed a.points in
    let going = c.loop-i-test.true in
    let most = w.1 in
    let e = w.0 ∙ ap (λ (s : Statement). statement_records cs a.count l.i s) read in
    let f = total-next (λ j. statement_records cs a.count j (statement_at a.set.now (first + j))) l.i in (
      l.invariant.0,
      omega arith,
      omega arith,
      w.2 ∙ l.invariant.3,
      w.2 ∙ l.invariant.4,
      notes_next (length cs) l.i (λ j. checks_in cs (statement_at a.set.now (first + j))) a.seen.now l.seen _ l.invariant.5
          (notes_ext (length cs) _ (checks_in cs (statement_at a.set.now (first + l.i))) l.seen _ (λ p. ap (λ (s : Statement). checks_in cs s p) read) w.3),
    )

pub returns : goal.returns
unfolding contains
returns c =
    let a = c.args in
    let l = c.loop-i in
    let read = c.first-first in
    let S = set_by a.set.now a.layout in
    let cs = listed a.points in
    let i-is : l.i ≡ a.count = omega arith in
    let all : a.count ≡ get_or a.layout.counts a.t 0 = c.requires.0 in (
      l.invariant.1 ∙ ap (total (λ j. statement_records cs a.count j (statement_at a.set.now (read.result + j)))) i-is
          ∙ total_ext _ (λ j. statement_records cs a.count j (S.statement a.t j)) a.count
          (λ j h. ap (λ (s : Statement). statement_records cs a.count j s) (sym ((stands_by a.set.now a.layout a.t read.result read.ensures.0).statement_is j (omega arith)))),
      omega arith,
      l.invariant.3,
      notes_ext (length cs) (λ p. some l.i (λ j. checks_in cs (statement_at a.set.now (read.result + j)) p)) (λ p. contains S a.t (get_or cs p 0)) a.seen.now l.seen
          (λ p. some_same (λ j. checks_in cs (statement_at a.set.now (read.result + j)) p) (is_check S a.t (get_or cs p 0)) l.i
          (λ j h. ap (λ (s : Statement). checks_in cs s p) (sym ((stands_by a.set.now a.layout a.t read.result read.ensures.0).statement_is j (omega arith))))
          ∙ ap (λ (k : ℕ). some k (is_check S a.t (get_or cs p 0))) (i-is ∙ all)) l.invariant.5,
    )
