-- `encoder_statements::tests` meets its contract. Assumes nothing.
use Rattle.std.proofs.Common.{arith, refl, rules, sym, ◌∙◌, ◌≤◌}
use Rattle.encoding.specs.Slots.{kinds, accu, bit_zero, word_zero, kind_number, test}
use Rattle.encoder_statements.proofs.Values.{read_as}
use Rattle.encoder_statements.proofs.Listed.{some-none, some_more, some-line, rests-test}
use Rattle.set_index.specs.Members.{conditional_class}
use Rattle.table.specs.Repeats.{last_index}
use Rattle.encoder_statements.proofs.tests.Goals as goal

pub loop-j-init : goal.loop-j-init
loop-j-init c =
    let a = c.args in
    let q = c.requires in
    (omega arith, refl, refl, some-none (kind_number test) conditional_class rests-test a.set.now a.members.now a.first a.t q.0 a.out.now a.slots.now a.n)

pub loop-j-preserved : goal.loop-j-preserved
unfolding kinds
loop-j-preserved c =
    let a = c.args in
    let q = c.requires in
    let stored = c.place-accu.ensures in
    let zero = c.place-zero.ensures in
    let lies = c.place-nothing.ensures in
    let counted = c.count_of-tested.ensures in
    let l = c.loop-j in
    let named = c.member-i.ensures in
    let read = read_as a.set.now c.statement_at-statement.ensures c.from.ensures c.from-in-loop-j.ensures in
    let put = c.put_test-tree in
    let settled = c.settle-next in
    let room : l.next ≤ last_index = let few = counted.1 in let h = q.1 in let m = l.invariant.0 in omega arith in (
      (let m = settled.ensures.2 in let h = l.invariant.0 in omega arith),
      search rules,
      search rules,
      some_more (kind_number test) conditional_class rests-test a.set.now a.members.now a.first a.t q.0 a.out.now a.slots.now a.n l.j _ l.out l.slots l.next _ _ _
          (λ S listed. let e = counted.0 S listed (omega arith) q.0 in omega arith)
          (λ S listed. named S listed (omega arith) q.0 (let e = counted.0 S listed (omega arith) q.0 in omega arith))
          l.invariant.3
          (λ S cs k count stands less small mine below others. settled.ensures.0 S cs k l.out _ (omega arith) refl q.0 small (l.invariant.2 ∙ q.2) below
          (put.ensures.0 S cs k a.t _ _ (read ∙ sym (stands.statement_is _ less)) (stored ∙ others accu a.t 0 refl) (zero ∙ others word_zero 0 0 refl) (lies ∙ others bit_zero 0 0 refl) room)),
    )

pub returns : goal.returns
unfolding kinds
returns c =
    let a = c.args in
    let q = c.requires in
    let counted = c.count_of-tested.ensures in
    let l = c.loop-j in (
      some-line (kind_number test) conditional_class rests-test a.set.now a.members.now a.first a.t q.0 a.out.now a.slots.now a.n (omega arith) refl l.j
          (λ S listed. let e = counted.0 S listed (omega arith) q.0 in omega arith) l.out l.slots l.next l.invariant.3,
      (let few = counted.1 in let m = l.invariant.0 in omega arith),
    )
