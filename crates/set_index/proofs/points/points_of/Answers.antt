-- `set_index::points::points_of` meets its contract. Assumes nothing.
use Rattle.std.proofs.Common.{List, ap, arith, sym, take, ℕ, ◌∙◌, ◌≡◌}
use Rattle.set_index.specs.Points.{listed}
use Rattle.encoding.specs.Checkpoints.{noted, noted_in}
use Rattle.records.specs.declared.Statement.{Statement}
use Rattle.records.specs.Sets.{Set, set_by}
use Rattle.set_index.proofs.Noted.{noted-start, noted_more}
use Rattle.records.specs.StatementRecords.{StandsFrom}
use Rattle.records.proofs.StatementRecords.{stands_from}
use Rattle.set_index.proofs.points.points_of.Goals as goal

pub loop-i-init : goal.loop-i-init
loop-i-init c =
    let a = c.args in (
      omega arith,
      c.first-first.ensures.1,
      λ (S : Set) stands (before : List ℕ) (e : listed a.seen ≡ take 8 before). e ∙ ap (take 8) (sym (noted-start S a.t before)),
    )

pub loop-i-preserved : goal.loop-i-preserved
loop-i-preserved c =
    let a = c.args in
    let l = c.loop-i in
    let n = c.count-n.result in
    let first = c.first-first.result in (
      omega arith,
      l.invariant.1,
      λ (S : Set) (stands : StandsFrom S a.set.now a.t first n) (before : List ℕ) (e : listed a.seen ≡ take 8 before).
          noted_more S a.t before (listed l.points) _ l.i (l.invariant.2 S stands before e)
          (c.note-points.ensures ∙ ap (λ (s : Statement). take 8 (noted (listed l.points) s)) ((rw c.from.ensures at c.statement_at.ensures) ∙ sym (stands l.i (omega arith)))),
    )

pub returns : goal.returns
returns c =
    let a = c.args in
    let l = c.loop-i in
    let n = c.count-n in
    let first = c.first-first in
    let S = set_by a.set.now a.layout in
    let i-is : l.i ≡ n.result = omega arith in
    λ (before : List ℕ) (e : listed a.seen ≡ take 8 before).
    l.invariant.2 S (stands_from a.set.now a.layout a.t first.result n.result first.ensures.0 (let e = n.ensures in omega arith)) before e
    ∙ ap (λ (n : ℕ). take 8 (noted_in S a.t before n)) (i-is ∙ n.ensures)
