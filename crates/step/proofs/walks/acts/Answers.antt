-- `step::walks::acts` meets its contract. Assumes nothing.
use Rattle.std.proofs.Common.{Bool, ap, leb, sym, ◌&&◌, ◌||◌, ◌∙◌}
use Rattle.machine.specs.declared.Choice.TheVariants.{Execute, Flush}
use Rattle.machine.specs.Machine.{permitted}
use Rattle.machine.specs.Held.{state_of}
use Rattle.records.specs.Sets.{set_by}
use Rattle.base.proofs.Choice.{or_true}
use Rattle.step.proofs.Tests.{and_or}
use Rattle.step.proofs.walks.acts.Goals as goal

pub returns-then-permits : goal.returns-then-permits
returns-then-permits c =
    let a = c.args in
    λ memory.
    let s = state_of a.m memory in
    let S = set_by a.set.now a.layout in
    sym (and_or (leb a.layout.threads 4) (permitted S s (Execute a.t)) (permitted S s (Flush a.t))
    ∙ or_true (leb a.layout.threads 4 && permitted S s (Flush a.t)) (sym (c.permits.ensures memory) ∙ c.if-permits.true))

pub returns : goal.returns
returns c =
    let a = c.args in
    λ memory.
    let s = state_of a.m memory in
    let S = set_by a.set.now a.layout in
    c.permits-2.ensures memory ∙ sym (and_or (leb a.layout.threads 4) (permitted S s (Execute a.t)) (permitted S s (Flush a.t))
    ∙ ap (λ (b : Bool). b || (leb a.layout.threads 4 && permitted S s (Flush a.t))) (sym (c.permits.ensures memory) ∙ c.if-permits.false))
