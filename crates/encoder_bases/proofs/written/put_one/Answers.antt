-- `encoder_bases::written::put_one` meets its contract. Assumes nothing.
use Rattle.std.proofs.Common.{ap, arith, ◌∙◌}
use Rattle.table.specs.declared.Formula.{Formula}
use Rattle.table.specs.Operations.{operation_number, sort_number}
use Rattle.encoder_bases.specs.SmallTrees.{plain}
use Rattle.encoder_bases.proofs.Records.{record_at}
use Rattle.encoder_bases.proofs.Given.{puts_one}
use Rattle.encoder_bases.proofs.written.put_one.Goals as goal

pub returns : goal.returns
returns c =
    let a = c.args in (
      λ at t g. rw c.from.ensures (puts_one at a.n t a.out.now _ (plain (operation_number a.operation) (sort_number a.sort) a.a a.b a.c) g
          (c.put.ensures ∙ ap (λ (f : Formula). record_at a.n f a.out.now) c.new-first.ensures)),
      omega arith,
    )
