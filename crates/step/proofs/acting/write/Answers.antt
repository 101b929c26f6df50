-- `step::acting::write` meets its contract. Assumes nothing.
use Rattle.std.proofs.Common.{Bool, Option, ap, sym, ℕ, ◌∙◌}
use Rattle.records.specs.declared.Cell.{Cell}
use Rattle.machine.specs.Held.{memory_of, known_of}
use Rattle.machine.specs.Machine.{memory_after}
use Rattle.machine.specs.Maps.{known_after}
use Rattle.step.proofs.acting.write.Goals as goal

pub returns-in-Some : goal.returns-in-Some
returns-in-Some c =
    let a = c.args in
    let e = sym c.in-Some.is in (
      c.put.ensures.0 ∙ ap {B = ℕ → ℕ} (λ (w : Option Cell). memory_after w (memory_of a.addresses.now a.values.now a.filled)) e,
      c.put.ensures.1 ∙ ap {B = ℕ → Bool} (λ (w : Option Cell). known_after w (known_of a.addresses.now a.filled)) e,
      c.put.ensures.2,
    )
