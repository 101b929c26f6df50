-- What stops a run at a step, and the cell that it names. Assumes nothing.
use Prim.Native.Nat.{ℕ}
use mathlib.Core.Path.{◌≡◌, refl, ap, sym, ◌∙◌}
use mathlib.Core.Bool.{Bool, true, false}
use Rattle.records.specs.declared.refusals.Refusal.{Refusal}
use Rattle.records.specs.declared.refusals.Refusal.TheVariants.{LacksCell}
use Rattle.records.specs.declared.refusals.Refused.{Refused}
use Rattle.machine.specs.declared.Outcome.{Outcome}
use Rattle.machine.specs.declared.Outcome.TheVariants.{Taken, NotPermitted, Lacking}
use Rattle.step.specs.Runs.{refused_by, Names, StopsAt}
use Rattle.step.specs.Walks.{step_refusal}
use Rattle.step.specs.declared.Stopped.{Stopped}
use Rattle.step.specs.declared.Stopped.TheVariants.{Refused as Stops, Lacking as Lacks}

module _ (i a : ℕ) where
  other : (refusal : Refusal) → (refusal ≡ LacksCell → ⊥) → (stopped : Stopped) → refused_by stopped ≡ record { refusal = refusal; place = i } → Names stopped a
  other refusal f (Stops refused) p = λ e. f (sym (ap (λ (r : Refused). r.refusal) p) ∙ e)
  other refusal f (Lacks step cell) p = absurd (f (sym (ap (λ (r : Refused). r.refusal) p)))

  named : (cell : ℕ) → cell ≡ a → (stopped : Stopped) → Names stopped cell → refused_by stopped ≡ record { refusal = LacksCell; place = i } → Names stopped a
  named cell e (Stops refused) n p = absurd (n (ap (λ (r : Refused). r.refusal) p))
  named cell e (Lacks step lacks) n p = n ∙ e

  -- it is the cell that the step lacks, where it lacks one
  pub names-lacking : (o : Outcome) (agreed : Bool) (cell : ℕ) (stopped : Stopped) → StopsAt (step_refusal o agreed) i cell stopped → (o ≡ Lacking → cell ≡ a) → Names stopped a
  names-lacking NotPermitted agreed cell stopped s f = other _ (λ e. cc) stopped s.refused
  names-lacking Taken true cell stopped s f = absurd s
  names-lacking Taken false cell stopped s f = other _ (λ e. cc) stopped s.refused
  names-lacking Lacking true cell stopped s f = named cell (f refl) stopped s.names s.refused
  names-lacking Lacking false cell stopped s f = other _ (λ e. cc) stopped s.refused
