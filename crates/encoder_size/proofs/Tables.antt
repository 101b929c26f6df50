-- A table has as many records as its closed form says, and both have few. Assumes nothing.
use Prim.Native.Nat.{ℕ, ◌+◌, ◌*◌}
use mathlib.Core.Path.{◌≡◌, refl, ap, ◌∙◌}
use mathlib.Core.List.{List, [], ◌∷◌, ◌++◌}
use native.Mathlib.Omega.{arith}
use lib.ListN.{length, length-append}
use Rattle.records.specs.Maps.{cells}
use Rattle.records.specs.Sets.{Set}
use Rattle.table.specs.Programs.{next, upto, aims, next_after, compiled}
use Rattle.table.proofs.Sequences.{compiled-length}
use Rattle.encoding.specs.Encodings.{map_demand, goal_tree, starting, program, firsts, encoded}
use Rattle.encoding.specs.Slots.{word_one, argument, same, start_place}
use Rattle.encoding.specs.Steps.{chain, entry, block, step}
use Rattle.encoder_size.specs.Sizes.{total, step_records, table_records}
use Rattle.encoder_size.proofs.Sums.{total-same}
use Rattle.encoder_size.proofs.Counted.{counted, counted-at, counted-++, counted-upto}
use Rattle.encoder_size.proofs.Steps.{step-size}

module _ (S : Set) (cs : List ℕ) where
  -- the word 1 and the arguments
  starting-size : counted (starting S cs) ≡ 1 + total S.count S.threads
  unfolding upto next_after next chain
  starting-size =
      let each : (t : ℕ) → counted (upto (entry S cs 0 argument t) (S.count t)) ≡ S.count t = λ t.
      counted-upto (entry S cs 0 argument t) (λ i. 1) (λ i. refl) (S.count t) ∙ (total-same 1 (S.count t) ∙ omega arith) in
      counted-++ (block S cs 0 word_one) (block S cs 0 argument)
      ∙ ap (λ (n : ℕ). 1 + n) (counted-upto (λ t. upto (entry S cs 0 argument t) (S.count t)) S.count each S.threads)

  map-size : (map : List ℕ) → counted (upto (map_demand map) (cells map)) ≡ 5 * cells map
  unfolding next_after next
  map-size map =
      let each = counted-upto (map_demand map) (λ j. 5) (λ j. refl) (cells map) in
      let same = total-same 5 (cells map) in
      omega arith

  steps-size : (bound : ℕ) → counted (upto (step S cs) bound) ≡ bound * step_records S cs
  steps-size bound =
      counted-upto (step S cs) (λ k. step_records S cs) (λ k. let e = step-size S cs k 0 in omega arith) bound
      ∙ total-same (step_records S cs) bound

  goal-size : counted (aims goal_tree ∷ []) ≡ 3
  unfolding next_after next
  goal-size = refl

  pub table-size : (map : List ℕ) (bound : ℕ) → length (encoded S cs map bound) ≡ table_records S cs map bound
  unfolding encoded program table_records
  table-size map bound =
      let written = compiled-length same start_place 4 (program S cs map bound) in
      let all = length-append firsts (compiled same start_place 4 (program S cs map bound)) in
      let from = counted-at 4 (program S cs map bound) in
      let last = upto (step S cs) bound ++ (aims goal_tree ∷ []) in
      let first = counted-++ (starting S cs) (upto (map_demand map) (cells map) ++ last) in
      let second = counted-++ (upto (map_demand map) (cells map)) last in
      let third = counted-++ (upto (step S cs) bound) (aims goal_tree ∷ []) in
      let a = starting-size in
      let b = map-size map in
      let c = steps-size bound in
      let d = goal-size in
      omega arith
