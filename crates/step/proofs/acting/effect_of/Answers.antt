-- `step::acting::effect_of` meets its contract. Assumes nothing.
use Rattle.std.proofs.Common.{ap, sym, ◌∙◌}
use Rattle.machine.specs.Held.{memory_in, known_in, cells_of}
use Rattle.step.specs.Acting.{reads_by, thread_by, written_by}
use Rattle.machine.specs.Maps.{knows_all}
use Rattle.machine.specs.declared.Choice.{Choice}
use Rattle.step.proofs.acting.effect_of.Goals as goal

pub returns-in-Execute : goal.returns-in-Execute
returns-in-Execute c =
    let a = c.args in
    let q = sym c.in-Execute.is in
    let memory = memory_in a.addresses.now a.values.now in
    let e = c.executing.ensures in (
      e.0 ∙ ap (λ (k : Choice). knows_all (known_in a.addresses.now) (reads_by k a.i a.x memory)) q,
      e.1 ∙ ap (λ (k : Choice). thread_by k a.i a.x memory) q,
      e.2 ∙ ap (λ (k : Choice). written_by k a.i a.x memory) q,
      e.3 ∙ ap (λ (k : Choice). reads_by k a.i a.x memory) q,
    )

pub returns-in-Flush : goal.returns-in-Flush
returns-in-Flush c =
    let a = c.args in
    let q = sym c.in-Flush.is in
    let memory = memory_in a.addresses.now a.values.now in
    let e = c.flushing.ensures in (
      e.0 ∙ ap (λ (k : Choice). knows_all (known_in a.addresses.now) (reads_by k a.i a.x memory)) q,
      e.1 ∙ ap (λ (k : Choice). thread_by k a.i a.x memory) q,
      e.2 ∙ ap (λ (k : Choice). written_by k a.i a.x memory) q,
      ap cells_of e.3 ∙ ap (λ (k : Choice). reads_by k a.i a.x memory) q,
    )
