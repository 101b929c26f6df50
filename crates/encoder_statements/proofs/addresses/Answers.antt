-- `encoder_statements::addresses` meets its contract. Assumes nothing.
use Rattle.std.proofs.Common.{arith, refl, rules, sym, ◌<◌, ◌∙◌, ◌≡◌, ◌≤◌}
use Rattle.encoding.specs.Slots.{kinds, full, adr, val, shared_memory, kind_number, address}
use Rattle.encoder_statements.proofs.Values.{read_as, row-none, row_more, row_line}
use Rattle.table.specs.Repeats.{last_index}
use Rattle.encoder_statements.proofs.addresses.Goals as goal

pub loop-i-init : goal.loop-i-init
loop-i-init c =
    let a = c.args in
    (omega arith, refl, refl, row-none (kind_number address) a.set.now a.first a.count a.t a.out.now a.slots.now a.n)

pub loop-i-preserved : goal.loop-i-preserved
unfolding kinds
loop-i-preserved c =
    let a = c.args in
    let q = c.requires in
    let l = c.loop-i in
    let found = c.load_of-load.ensures in
    let put = c.put_address-tree in
    let settled = c.settle-next in
    let less : l.i < a.count = omega arith in
    let small : l.i < 32 = let few = q.0 in omega arith in
    let room : l.next ≤ last_index = let few = q.0 in let h = q.2 in let m = l.invariant.0 in omega arith in (
      (let m = settled.ensures.2 in let h = l.invariant.0 in omega arith),
      search rules,
      search rules,
      row_more (kind_number address) a.set.now a.first a.count a.t a.out.now a.slots.now a.n l.i l.out l.slots l.next _ _ _ l.invariant.3
          (λ S cs k stands below others. settled.ensures.0 S cs k l.out _ (omega arith) refl q.1 small (l.invariant.2 ∙ q.3) below
          (put.ensures.0 S cs k (read_as a.set.now c.statement_at-statement.ensures c.from.ensures c.from-in-loop-i.ensures ∙ sym (stands.statement_is l.i less))
          (found ∙ (λ z. record { full = others full a.t 0 refl z; adr = others adr a.t 0 refl z; val = others val a.t 0 refl z; memory = others shared_memory 0 0 refl z })) room)),
    )

pub returns : goal.returns
unfolding kinds
returns c =
    let a = c.args in
    let few = c.requires.0 in
    let l = c.loop-i in
    let all : l.i ≡ a.count = omega arith in (
      row_line (kind_number address) a.set.now a.first a.count a.t a.out.now a.slots.now a.n (omega arith) refl l.i all l.out l.slots l.next l.invariant.3,
      (let m = l.invariant.0 in omega arith),
    )
