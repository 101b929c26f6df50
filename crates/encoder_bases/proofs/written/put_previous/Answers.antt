-- `encoder_bases::written::put_previous` meets its contract. Assumes nothing.
use Rattle.std.proofs.Common.{ap, eq-eqb, ne_eqb}
use Rattle.base.proofs.Choice.{chosen, passed}
use Rattle.table.specs.Programs.{ref}
use Rattle.encoding.specs.Slots.{Slot}
use Rattle.encoder_bases.proofs.Given.{puts_as}
use Rattle.encoder_bases.proofs.written.put_previous.Goals as goal

pub returns-then-t-eq0 : goal.returns-then-t-eq0
returns-then-t-eq0 c = (λ n k l out e f p q. puts_as (ap (λ (s : Slot). ref s) (chosen _ _ (eq-eqb _ _ c.if-t-eq0.true))) (c.put_none.ensures.0 n l out f q), c.put_none.ensures.1)

pub returns : goal.returns
returns c = (λ n k l out e f p q. puts_as (ap (λ (s : Slot). ref s) (passed _ _ (ne_eqb _ _ c.if-t-eq0.false))) (c.put_none-2.ensures.0 n k out e p), c.put_none-2.ensures.1)
