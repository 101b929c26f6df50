-- `encoder_bases::written::put_binary` meets its contract. Assumes nothing.
use Rattle.std.proofs.Common.{refl}
use Rattle.encoder_bases.proofs.Given.{gives_binary}
use Rattle.encoder_bases.proofs.written.put_binary.Goals as goal

pub returns : goal.returns
returns c = (λ at o s t e f p q. c.put_one.ensures.0 at _ (gives_binary at c.args.n _ o s t (refl, (refl, refl)) e f p q), c.put_one.ensures.1)
