-- `step::acting::executing` meets its contract. Assumes nothing.
use Rattle.std.proofs.Common.{Bool, ap, ap₂, cond, eqb, refl, true, false, ℕ, ◌&&◌, ◌∙◌, ◌≡◌}
use Rattle.std.specs.Bool.{then_some}
use Rattle.records.specs.Instructions.{CAS}
use Rattle.machine.specs.Held.{memory_in}
use Rattle.machine.specs.Machine.{acted, executed, cas_matches, wrote, no_write}
use Rattle.step.proofs.Settled.{set_with, state_with}
use Rattle.step.proofs.acting.executing.Goals as goal

-- a write that is made where b holds
made_if : (b : Bool) (a v : ℕ) → then_some b (record { address = a; value = v }) ≡ cond b (wrote a v) no_write
made_if true a v = refl
made_if false a v = refl

pub returns : goal.returns
unfolding acted cas_matches
returns c =
    let a = c.args in
    let memory : ℕ → ℕ = memory_in a.addresses.now a.values.now in
    let o = c.operands-o.ensures in
    let registers : c.updated-thread.result ≡ executed a.i memory a.x = c.updated-thread.ensures (set_with a.i) (state_with a.x memory) refl (refl, o.1, o.2) in
    let cas : c.matches.result ≡ cas_matches a.i a.x memory = c.matches.ensures ∙ ap (λ (w : ℕ). eqb a.i.number CAS && eqb w a.x.mem) o.2 in
    (o.0, registers, c.then_some-wrote.ensures ∙ made_if c.matches.result c.operands-o.result.address a.x.accu ∙ ap₂ (λ (b : Bool) (n : ℕ). cond b (wrote n a.x.accu) no_write) cas o.1, o.3)
