-- Laws of a run and one choice more: what is held, written, followed, traced and printed. Assumes nothing.
use Rattle.std.specs.Prelude.{Option}
use Prim.Native.Nat.{ℕ, suc, ◌+◌, ◌*◌, ◌≤◌, ◌<◌}
use mathlib.Core.Bool.{true}
use mathlib.Core.List.{List, [], ◌∷◌, ◌++◌, append_assoc, append-nil}
use mathlib.Core.Path.{◌≡◌, refl, ap, ap₂, sym, ◌∙◌}
use native.Mathlib.Numerals.{add-one}
use native.Mathlib.Omega.{arith}
use lib.ListN.{length, set, take}
use lib.Seq.{take-suc-set}
use borrow.Author.Tests.{le-ltb}
use Rattle.base.proofs.Choice.{chosen, passed}
use Rattle.records.specs.Sets.{Set, set_of}
use Rattle.machine.proofs.Runs.{AllTaken}
use Rattle.machine.specs.Machine.{step, written}
use Rattle.machine.specs.Maps.{Held, begin, outcome, advanced, ran, on_outcome, follow}
use Rattle.machine.specs.Runs.{choices, after, end_of}
use Rattle.machine.specs.Traces.{trace_step, trace, longest_trace, step_length}
use Rattle.machine.specs.declared.Choice.{Choice}
use Rattle.machine.specs.declared.Outcome.{Outcome}
use Rattle.machine.specs.declared.Outcome.TheVariants.{Taken}
use Rattle.records.specs.declared.Cell.{Cell}
use Rattle.simulation.specs.Simulation.{limited, simulated}
use Rattle.listing_output.specs.Listings.{line}
use Rattle.listing_output.specs.Schedules.{accepts}

-- what is held after a run
unfoldable pub held_after : Set → Held → List Choice → Held
held_after S h [] = h
held_after S h (c ∷ run) = held_after S (advanced S h c) run

-- what its last step wrote; w where it has no step
unfoldable pub wrote_after : Set → Held → Option Cell → List Choice → Option Cell
wrote_after S h w [] = w
wrote_after S h w (c ∷ run) = wrote_after S (advanced S h c) (written S h.state c) run

-- the lines of its steps
unfoldable pub lines_of : Set → Held → Option Cell → List Choice → List ℕ
lines_of S h w [] = []
lines_of S h w (c ∷ run) = line S h.state w c ++ lines_of S (advanced S h c) (written S h.state c) run

-- ---- one choice more

module _ (S : Set) (c : Choice) where
  pub held_more : (h : Held) (run : List Choice) → held_after S h (run ++ (c ∷ [])) ≡ advanced S (held_after S h run) c
  unfolding held_after
  held_more h [] = refl
  held_more h (d ∷ run) = held_more (advanced S h d) run

  pub wrote-more : (h : Held) (w : Option Cell) (run : List Choice) → wrote_after S h w (run ++ (c ∷ [])) ≡ written S (held_after S h run).state c
  unfolding held_after wrote_after
  wrote-more h w [] = refl
  wrote-more h w (d ∷ run) = wrote-more (advanced S h d) (written S h.state d) run

  pub lines_more : (h : Held) (w : Option Cell) (run : List Choice) →
      lines_of S h w (run ++ (c ∷ [])) ≡ lines_of S h w run ++ line S (held_after S h run).state (wrote_after S h w run) c
  unfolding held_after wrote_after lines_of
  lines_more h w [] = append-nil (line S h.state w c)
  lines_more h w (d ∷ run) =
      ap (λ (rest : List ℕ). line S h.state w d ++ rest) (lines_more (advanced S h d) (written S h.state d) run)
      ∙ sym (append_assoc (line S h.state w d) _ _)

  pub trace-more : (h : Held) (w : Option Cell) (run : List Choice) →
      trace S h.state w (run ++ (c ∷ [])) ≡ trace S h.state w run ++ trace_step S (held_after S h run).state (wrote_after S h w run) c
  unfolding held_after wrote_after trace advanced
  trace-more h w [] = append-nil (trace_step S h.state w c)
  trace-more h w (d ∷ run) =
      ap (λ (rest : List ℕ). trace_step S h.state w d ++ rest) (trace-more (advanced S h d) (written S h.state d) run)
      ∙ sym (append_assoc (trace_step S h.state w d) _ _)

  pub taken_more : (h : Held) (run : List Choice) → AllTaken S h run → outcome S (held_after S h run) c ≡ Taken → AllTaken S h (run ++ (c ∷ []))
  unfolding held_after
  taken_more h [] taken e = (e, tt)
  taken_more h (d ∷ run) taken e = (taken.0, taken_more (advanced S h d) run taken.1 e)

  -- the last choice decides
  pub follow-more : (h : Held) (i : ℕ) (run : List Choice) → AllTaken S h run →
      follow S h i (run ++ (c ∷ [])) ≡ on_outcome (outcome S (held_after S h run) c) (i + length run) (ran (i + length run + 1) (end_of S (step S (held_after S h run).state c)))
  unfolding follow held_after advanced
  follow-more h i [] taken = ap₂ (λ (k n : ℕ). on_outcome (outcome S h c) k (ran n (end_of S (step S h.state c)))) (omega arith) (omega arith)
  follow-more h i (d ∷ run) taken =
      ap (λ (o : Outcome). on_outcome o i (follow S (advanced S h d) (suc i) (run ++ (c ∷ [])))) taken.0
      ∙ follow-more (advanced S h d) (suc i) run taken.1
      ∙ ap₂ (λ (k n : ℕ). on_outcome (outcome S (held_after S (advanced S h d) run) c) k (ran n (end_of S (step S (held_after S (advanced S h d) run).state c)))) (omega arith) (omega arith)

pub state-after : (S : Set) (h : Held) (run : List Choice) → (held_after S h run).state ≡ after S h.state run
unfolding held_after after advanced
state-after S h [] = refl
state-after S h (c ∷ run) = state-after S (advanced S h c) run

-- ---- simulation of an accepted set and map

pub simulated-runs : (set map schedule : List ℕ) → accepts set map ≡ true → length schedule ≤ 64 →
    simulated set map schedule longest_trace ≡ follow (set_of set) (begin map) 0 (choices schedule)
unfolding simulated limited
simulated-runs set map schedule a h =
    chosen _ _ a ∙ passed _ _ (le-ltb 64 (length schedule) (omega arith)) ∙ passed _ _ (le-ltb longest_trace (step_length * length schedule) (omega arith))

-- the first bytes of a schedule with a byte stored after them
pub stored : (first bytes : List ℕ) (k b : ℕ) → take k bytes ≡ first → k < length bytes → take (k + 1) (set bytes k b) ≡ first ++ (b ∷ [])
stored first bytes k b e h = rw add-one (take-suc-set bytes k b h ∙ ap (λ (xs : List ℕ). xs ++ (b ∷ [])) e)
