-- Steps of a table written one after the other, the later ones by repeating the step before. This serves the code; no call's promise needs it.
-- Assumes nothing.
use Rattle.std.specs.Prelude.{ℕ, ◌+◌, ◌<◌, ◌*◌, ◌≡◌, List}
use Rattle.records.specs.Sets.{Set}
use Rattle.table.specs.Formulas.{written_at}
use Rattle.table.specs.Programs.{upto, next_after, places_after, compiled}
use Rattle.encoding.specs.Slots.{Slot, same, code}
use Rattle.encoding.specs.Steps.{only, word0, step}
use Rattle.encoder_step.specs.Entries.{step_room}
use Rattle.machine.specs.Runs.{most_steps}

-- what stands before the steps has at most so many records, and the steps that are written for themselves have at most so many
abbrev pub early_room : ℕ
early_room = 10000

abbrev pub steps_room : ℕ
steps_room = most_steps * step_room

-- what the steps of a set of so many threads are written over: slots that lie before record `first`; a step has `stride` records
pub record Started (S : Set) (cs : List ℕ) (start : Slot → ℕ) (threads first stride : ℕ) : Type 0 where
  pub threads_are : S.threads ≡ threads
  pub low : (s : Slot) → start s < first
  pub stride_is : (m k : ℕ) → next_after same m (step S cs k) ≡ m + stride

-- the first k steps written from record `first` on: from an output to the output and the next index afterwards
pub record Stepped (S : Set) (cs : List ℕ) (start : Slot → ℕ) (first k : ℕ) (out out_after : List ℕ) (after : ℕ) : Type 0 where
  pub written : out_after ≡ written_at out first (compiled same start first (upto (step S cs) k))
  pub next : after ≡ next_after same first (upto (step S cs) k)

-- the same, with where the code and the word 0 lie after them
pub record Ended (S : Set) (cs : List ℕ) (start : Slot → ℕ) (first k : ℕ) (out out_after : List ℕ) (after code_at word_zero_at : ℕ) : Type 0 where
  pub stepped : Stepped S cs start first k out out_after after
  pub code_is : code_at ≡ places_after same start first (upto (step S cs) k) (only code)
  pub word_zero_is : word_zero_at ≡ places_after same start first (upto (step S cs) k) word0
