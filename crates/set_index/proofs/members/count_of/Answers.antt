-- `set_index::members::count_of` meets its contract. Assumes nothing.
use Rattle.std.proofs.Common.{arith, ◌<◌}
use Rattle.records.specs.Sets.{Set}
use Rattle.set_index.specs.Members.{Members, class_count}
use Rattle.set_index.proofs.Listed.{members-few}
use Rattle.set_index.proofs.members.count_of.Goals as goal

pub returns : goal.returns
returns g c =
    let a = c.args in
    let k = g.C.NamesClass.number a.class in (
      (λ (S : Set) (m : Members S a.members.now) (p : k < class_count) (q : a.t < 4).
          let e = (m.row k a.t p q).many in
          let read = rw c.begin.ensures.row at c.byte_at-many.ensures in
          let most = m.few a.t q in
          let l = members-few S k a.t (S.count a.t) in
          omega arith),
      omega arith,
    )
