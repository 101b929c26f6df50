-- `encoder_statements::not_tests` meets its contract. Assumes nothing.
use Rattle.std.proofs.Common.{arith, refl, rules, ◌∙◌, ◌≤◌}
use Rattle.base.proofs.Choice.{chosen}
use Rattle.encoder_bases.proofs.Given.{puts_as}
use Rattle.encoding.specs.Slots.{kinds, kind_number, not_test}
use Rattle.encoder_statements.proofs.Listed.{some-none, some_more, some-line, rests-not-test}
use Rattle.set_index.specs.Members.{conditional_class}
use Rattle.table.specs.Repeats.{last_index}
use Rattle.encoder_statements.proofs.not_tests.Goals as goal

pub loop-j-init : goal.loop-j-init
loop-j-init c =
    let a = c.args in
    let q = c.requires in
    (omega arith, refl, refl, λ set first. some-none (kind_number not_test) conditional_class rests-not-test set a.members.now first a.t q.0 a.out.now a.slots.now a.n)

pub loop-j-preserved : goal.loop-j-preserved
unfolding kinds
loop-j-preserved c =
    let a = c.args in
    let q = c.requires in
    let counted = c.count_of-not_tested.ensures in
    let l = c.loop-j in
    let named = c.member-i.ensures in
    let put = c.put_not_test-tree in
    let settled = c.settle-next in
    let room : l.next ≤ last_index = let few = counted.1 in let h = q.1 in let m = l.invariant.0 in omega arith in (
      (let m = settled.ensures.2 in let h = l.invariant.0 in omega arith),
      search rules,
      search rules,
      λ set first. some_more (kind_number not_test) conditional_class rests-not-test set a.members.now first a.t q.0 a.out.now a.slots.now a.n l.j _ l.out l.slots l.next _ _ _
          (λ S listed. let e = counted.0 S listed (omega arith) q.0 in omega arith)
          (λ S listed. named S listed (omega arith) q.0 (let e = counted.0 S listed (omega arith) q.0 in omega arith))
          (l.invariant.3 set first)
          (λ S cs k count stands less small mine below others. settled.ensures.0 S cs k l.out _ (omega arith) refl q.0 small (l.invariant.2 ∙ q.2) below
          (puts_as (chosen _ _ mine) (put.ensures.0 room))),
    )

pub returns : goal.returns
unfolding kinds
returns c =
    let a = c.args in
    let q = c.requires in
    let counted = c.count_of-not_tested.ensures in
    let l = c.loop-j in (
      (λ set first. some-line (kind_number not_test) conditional_class rests-not-test set a.members.now first a.t q.0 a.out.now a.slots.now a.n (omega arith) refl l.j
          (λ S listed. let e = counted.0 S listed (omega arith) q.0 in omega arith) l.out l.slots l.next (l.invariant.3 set first)),
      (let few = counted.1 in let m = l.invariant.0 in omega arith),
    )
