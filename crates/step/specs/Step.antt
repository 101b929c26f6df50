-- One step of a machine that is passed by value, over a sparse memory: what `step::take` promises, by the machine's own definitions. This serves the
-- code; no call's promise needs it. Assumes nothing.
use Rattle.std.specs.Prelude.{ℕ, ◌+◌, ◌≤◌, ◌≡◌, Bool, cond, ◌&&◌, leb, ltb}
use Rattle.records.specs.Sets.{Set, most_threads}
use Rattle.machine.specs.Maps.{Held, outcome, advanced}
use Rattle.machine.specs.declared.Choice.{Choice}
use Rattle.machine.specs.declared.Outcome.{Outcome}
use Rattle.machine.specs.declared.Outcome.TheVariants.{Taken, NotPermitted, Lacking}
use Rattle.step.specs.declared.Step.{Step}

-- at most four threads, and arrays of these lengths with room for one cell more
abbrev pub has_room : (threads addresses values filled : ℕ) → Bool
has_room threads addresses values filled = leb threads most_threads && ltb filled addresses && ltb filled values

-- x where the step was taken, else y
abbrev pub on_taken : {A : Type 0} → Outcome → A → A → A
on_taken Taken x y = x
on_taken NotPermitted x y = y
on_taken Lacking x y = y

-- What a step by choice c gives, from h with `filled` cells: the answer r, and what is held afterwards.
-- Without room no choice is permitted. A step that is taken advances what is held, another leaves it; it fills one cell more at most.
pub record TakesStep (S : Set) (room : Bool) (h : Held) (c : Choice) (filled : ℕ) (r : Step) (later : Held) : Type 0 where
  pub came : r.outcome ≡ cond room (outcome S h c) NotPermitted
  pub holds : later ≡ on_taken r.outcome (advanced S h c) h
  pub more : r.filled ≤ filled + 1
