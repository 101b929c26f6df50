-- The program of a table cut before its steps: how many records it has, and its bytes. Assumes nothing.
use Prim.Native.Nat.{ℕ, ◌+◌}
use mathlib.Core.Path.{◌≡◌, ap, sym, ◌∙◌}
use mathlib.Core.List.{List, [], ◌∷◌, ◌++◌, append_assoc}
use native.Mathlib.Omega.{arith}
use lib.ListN.{length, length-append, replicate}
use Rattle.records.specs.Maps.{cells}
use Rattle.records.specs.Sets.{Set}
use Rattle.table.specs.Formulas.{written_at}
use Rattle.table.specs.Programs.{next, upto, Command, aims, compiled, next_after}
use Rattle.table.proofs.Sequences.{next-++, compiled-length}
use Rattle.table.proofs.Written.{written-++}
use Rattle.encoding.specs.Encodings.{map_demand, goal_tree, starting, program, firsts, encoded}
use Rattle.encoding.specs.Slots.{Slot, same, start_place}
use Rattle.encoding.specs.Steps.{step}
use Rattle.encoder_slots.specs.Places.{place_of, size}
use Rattle.encoder_slots.proofs.Starts.{place-replicate}

module _ (S : Set) (cs : List ℕ) where
  -- what stands before the steps
  abbrev pub early : List ℕ → List (Command Slot)
  early map = starting S cs ++ upto (map_demand map) (cells map)

  -- the program, cut before its steps
  pub program-cut : (map : List ℕ) (bound : ℕ) →
      (starting S cs ++ upto (map_demand map) (cells map)) ++ (upto (step S cs) bound ++ (aims goal_tree ∷ [])) ≡ program S cs map bound
  unfolding program
  program-cut map bound = append_assoc (starting S cs) (upto (map_demand map) (cells map)) (upto (step S cs) bound ++ (aims goal_tree ∷ []))

  goal-size : (n : ℕ) → next_after same n (aims goal_tree ∷ []) ≡ n + 3
  unfolding next_after next
  goal-size n = omega arith

  -- the next index after the whole program is the number of records
  encoded-size : (map : List ℕ) (bound : ℕ) → next_after same 4 (program S cs map bound) ≡ length (encoded S cs map bound)
  unfolding encoded
  encoded-size map bound =
      let e = compiled-length same start_place 4 (program S cs map bound) in
      let f = length-append firsts (compiled same start_place 4 (program S cs map bound)) in
      sym (f ∙ e)

  -- the steps and the goal end it
  pub steps-end : (map : List ℕ) (bound first : ℕ) → first ≡ next_after same 4 (early map) → next_after same first (upto (step S cs) bound) + 3 ≡ length (encoded S cs map bound)
  steps-end map bound first e =
      sym (goal-size (next_after same first (upto (step S cs) bound)))
      ∙ (sym (next-++ same first (upto (step S cs) bound) (aims goal_tree ∷ []))
      ∙ (ap (λ (m : ℕ). next_after same m (upto (step S cs) bound ++ (aims goal_tree ∷ []))) e
      ∙ (sym (next-++ same 4 (early map) (upto (step S cs) bound ++ (aims goal_tree ∷ [])))
      ∙ (ap (next_after same 4) (program-cut map bound) ∙ encoded-size map bound))))

  -- ---- its bytes

  -- the whole program written after the first four records
  pub encoded-bytes : (map : List ℕ) (bound : ℕ) (out begun after : List ℕ) → begun ≡ written_at out 0 firsts →
      after ≡ written_at begun 4 (compiled same (place_of (replicate size 0)) 4 (early map ++ (upto (step S cs) bound ++ (aims goal_tree ∷ [])))) →
      after ≡ written_at out 0 (encoded S cs map bound)
  unfolding encoded
  encoded-bytes map bound out begun after e w =
      w
      ∙ ((λ i. written_at (e i) 4 (compiled same (place-replicate size i) 4 (program-cut map bound i)))
      ∙ sym (written-++ out 0 firsts (compiled same start_place 4 (program S cs map bound))))
