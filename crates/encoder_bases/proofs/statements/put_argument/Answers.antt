-- `encoder_bases::statements::put_argument` meets its contract. Assumes nothing.
use Rattle.std.proofs.Common.{ap, sym}
use Rattle.table.specs.Programs.{leaf, constant_word}
use Rattle.records.specs.declared.Statement.{Statement}
use Rattle.encoder_bases.proofs.Given.{puts_as}
use Rattle.encoder_bases.proofs.statements.put_argument.Goals as goal

pub returns : goal.returns
returns c = (λ S at cs k t i e. puts_as (ap (λ (s : Statement). leaf (constant_word s.argument)) (sym e)) (c.put_constant.ensures.0 at), c.put_constant.ensures.1)
