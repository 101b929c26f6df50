-- `set_index::lists::make` meets its contract. Assumes nothing.
use Rattle.std.proofs.Common.{arith, length, refl, rules, ◌∙◌, ◌≡◌, ◌≤◌}
use Rattle.records.specs.Sets.{set_by}
use Rattle.set_index.specs.Points.{listed}
use Rattle.set_index.specs.Members.{Members}
use Rattle.set_index.proofs.Making.{made_none, made_all}
use Rattle.set_index.proofs.Counted.{listed-most}
use Rattle.set_index.proofs.lists.make.Goals as goal

pub returns-then-threads-gt-THREADS : goal.returns-then-threads-gt-THREADS
returns-then-threads-gt-THREADS c =
    let a = c.args in
    (refl, λ empty (four : a.layout.threads ≤ 4) members distinct. absurd (omega arith))

pub loop-t-init : goal.loop-t-init
loop-t-init c =
    let a = c.args in
    let S = set_by a.set.now a.layout in
    let four = c.if-threads-gt-THREADS.false in
    let eight : length a.points.numbers ≡ 8 = search rules in
    let most = listed-most a.points eight in (
      omega arith,
      omega arith,
      most,
      refl,
      λ empty (members : Members S a.members.now) distinct. made_none S (listed a.points) most members.few a.table.now empty,
    )

pub loop-t-preserved : goal.loop-t-preserved
loop-t-preserved c =
    let a = c.args in
    let l = c.loop-t in
    let w = c.make_thread in
    let going = c.loop-t-test.true in
    let four = l.invariant.1 in (
      omega arith,
      l.invariant.1,
      l.invariant.2,
      w.ensures.0 ∙ l.invariant.3,
      λ empty members distinct. w.ensures.1 (omega arith) members distinct (l.invariant.4 empty members distinct),
    )

pub returns : goal.returns
returns c =
    let a = c.args in
    let S = set_by a.set.now a.layout in
    let l = c.loop-t in (
      l.invariant.3,
      λ empty four (members : Members S a.members.now) distinct.
          made_all S (listed a.points) l.invariant.2 members.few l.t (omega arith) (omega arith) l.table (l.invariant.4 empty members distinct),
    )
