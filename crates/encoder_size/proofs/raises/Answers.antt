-- `encoder_size::raises` meets its contract. Assumes nothing.
use Rattle.std.proofs.Common.{Bool, ap, arith, eq-eqb, eqb, get_or, ne_eqb, refl, sym, ◌&&◌, ◌∙◌}
use Rattle.encoder_size.proofs.Seen.{notes_nothing, notes_ext}
use Rattle.encoder_size.specs.Seen.{checks_at}
use Rattle.encoder_size.specs.Sizes.{check_records}
use Rattle.set_index.specs.Points.{listed}
use Rattle.base.proofs.Choice.{chosen, passed, and_false}
use Rattle.encoder_size.proofs.raises.Goals as goal

pub returns-then-n : goal.returns-then-n
unfolding check_records
returns-then-n c =
    let a = c.args in
    let here = eq-eqb _ _ c.if-n.true in
    let w = c.checks.ensures in (
      w.0 ∙ sym (chosen _ _ here),
      w.1,
      w.2,
      notes_ext _ (λ p. eqb a.argument (get_or (listed a.points) p 0)) (checks_at (listed a.points) a.n a.argument) _ _
          (λ p. sym (ap (λ (b : Bool). b && eqb a.argument (get_or (listed a.points) p 0)) here)) w.3,
    )

pub returns : goal.returns
unfolding check_records
returns c =
    let other = ne_eqb _ _ c.if-n.false in
    (sym (passed _ _ other), omega arith, refl, notes_nothing _ _ _ (λ p. and_false _ other))
