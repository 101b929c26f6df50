-- `encoder_bases::written::put_at` meets its contract. Assumes nothing.
use Rattle.std.proofs.Common.{arith}
use Rattle.encoder_bases.proofs.Given.{puts_ref}
use Rattle.encoder_bases.proofs.written.put_at.Goals as goal

pub returns : goal.returns
returns c = (λ at n s out e. puts_ref at n s out e, omega arith)
