-- `encoder_bases::written::put_three` meets its contract. Assumes nothing.
use Rattle.std.proofs.Common.{arith, ◌+◌, ◌∙◌, ◌≤◌}
use Rattle.encoder_bases.proofs.Records.{record_at}
use Rattle.encoder_bases.proofs.Given.{puts_three}
use Rattle.encoder_bases.proofs.written.put_three.Goals as goal

pub returns : goal.returns
returns c =
    let a = c.args in
    let one : 1 ≤ 4 = omega arith in
    let two : 2 ≤ 4 = omega arith in (
      λ at t h g. rw c.from.ensures (puts_three at a.n t a.out.now _ a.first a.second a.third g
          (c.put-3.ensures
          ∙ ((λ z. record_at (c.after-2.ensures h two z) a.third (c.put-2.ensures z))
          ∙ (λ z. record_at (a.n + 2) a.third (record_at (c.after.ensures h one z) a.second (c.put.ensures z)))))),
      omega arith,
    )
