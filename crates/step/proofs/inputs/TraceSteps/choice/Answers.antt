-- `step::inputs::TraceSteps::choice` meets its contract. Assumes nothing.
use Rattle.std.proofs.Common.{List, add-zero, ap₂, cond, drop, eq-eqb, eqb, get_or, get_or-drop, ap, ne_eqb, sym, ℕ, ◌*◌, ◌+◌, ◌∙◌, ◌≡◌}
use Rattle.base.proofs.Choice.{chosen, passed}
use Rattle.machine.specs.Traces.{step_choice, step_length}
use Rattle.machine.specs.declared.Choice.TheVariants.{Execute, Flush}
use Rattle.step.proofs.inputs.TraceSteps.choice.Goals as goal

-- the bytes of the step, read in the whole trace
read : (bytes : List ℕ) (at : ℕ) → step_choice (drop at bytes) ≡ cond (eqb (get_or bytes (at + 1) 0) 20) (Flush (get_or bytes at 0)) (Execute (get_or bytes at 0))
unfolding step_choice
read bytes at =
    ap₂ (λ (n t : ℕ). cond (eqb n 20) (Flush t) (Execute t)) (get_or-drop at bytes 1 0) (get_or-drop at bytes 0 0 ∙ ap (λ (k : ℕ). get_or bytes k 0) (add-zero at))

pub returns-then-self-at-eq-INSTRUCTIONS : goal.returns-then-self-at-eq-INSTRUCTIONS
returns-then-self-at-eq-INSTRUCTIONS c =
    let a = c.args in sym (read a.self.now.bytes.now (step_length * a.i) ∙ chosen _ _ (eq-eqb _ _ c.if-self-at-eq-INSTRUCTIONS.true))

pub returns : goal.returns
returns c = let a = c.args in sym (read a.self.now.bytes.now (step_length * a.i) ∙ passed _ _ (ne_eqb _ _ c.if-self-at-eq-INSTRUCTIONS.false))
