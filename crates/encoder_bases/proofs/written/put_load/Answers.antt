-- `encoder_bases::written::put_load` meets its contract. Assumes nothing.
use Rattle.std.proofs.Common.{ap, arith, ◌+◌, ◌∙◌, ◌≤◌}
use Rattle.encoding.specs.Slots.{slot, full, adr, val, shared_memory}
use Rattle.encoder_bases.specs.declared.written.Load.{Load}
use Rattle.encoder_bases.proofs.Records.{record_at}
use Rattle.encoder_bases.proofs.Given.{gives_load, puts_four}
use Rattle.encoder_bases.proofs.written.put_load.Goals as goal

pub returns : goal.returns
returns c =
    let a = c.args in
    let one : 1 ≤ 4 = omega arith in
    let two : 2 ≤ 4 = omega arith in
    let three : 3 ≤ 4 = omega arith in
    let f = c.new-first.result in
    let g = c.new-second.result in
    let k = c.new-third.result in
    let l = c.new-fourth.result in (
      λ at t s e p h. rw c.from-k.ensures (puts_four at a.n _ a.out.now _ f g k l
          (gives_load at a.n (slot full t 0) (slot adr t 0) s (slot val t 0) (slot shared_memory 0 0)
          c.new-first.ensures
          (rw c.from-k.ensures at c.new-second.ensures)
          c.new-third.ensures
          (rw c.from-k.ensures at c.new-fourth.ensures)
          (ap (λ (x : Load). x.full) e) (ap (λ (x : Load). x.adr) e) p (ap (λ (x : Load). x.val) e) (ap (λ (x : Load). x.memory) e))
          (c.put-4.ensures
          ∙ ((λ z. record_at (c.after-3.ensures h three z) l (c.put-3.ensures z))
          ∙ ((λ z. record_at (a.n + 3) l (record_at (c.after-2.ensures h two z) k (c.put-2.ensures z)))
          ∙ (λ z. record_at (a.n + 3) l (record_at (a.n + 2) k (record_at (c.after.ensures h one z) g (c.put.ensures z)))))))),
      omega arith,
    )
