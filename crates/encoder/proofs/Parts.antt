-- The parts of a table as the code writes them: the constraint of a map cell, the goal. Assumes nothing.
use Prim.Native.Nat.{ℕ, suc, ◌+◌}
use mathlib.Core.Path.{◌≡◌, refl, ◌∙◌}
use mathlib.Core.List.{List, [], ◌∷◌}
use native.Mathlib.Omega.{arith}
use Rattle.records.specs.Maps.{address_at, value_at}
use Rattle.table.specs.Formulas.{written_at}
use Rattle.table.specs.Programs.{leaf_formula, unary_formula, binary_formula, constraint, goal, constant_word, not1, equal2, read2, next, root, records, aims, compiled, next_after, places_after}
use Rattle.encoding.specs.Encodings.{map_demand, goal_tree}
use Rattle.encoding.specs.Slots.{Slot, same, shared_memory, code}
use Rattle.encoding.specs.Steps.{only, word0}
use Rattle.encoder_slots.specs.Places.{place_of}
use Rattle.encoder_slots.specs.Pieces.{Writes}
use Rattle.encoder_bases.proofs.Records.{record_at, written_3, written_5}

module _ (out slots : List ℕ) (n : ℕ) where
  pub demand_writes : (map : List ℕ) (j : ℕ) (after : List ℕ) →
      after ≡ record_at (n + 4) (constraint (n + 3)) (record_at (n + 3) (binary_formula equal2 (n + 1) (n + 2)) (record_at (n + 2) (leaf_formula (constant_word (value_at map j)))
      (record_at (n + 1) (binary_formula read2 (place_of slots (only shared_memory)) n) (record_at n (leaf_formula (constant_word (address_at map j))) out)))) →
      Writes (map_demand map j) out slots n after slots (n + 5)
  unfolding compiled places_after next_after records root next
  demand_writes map j after e =
      let one : n + 1 ≡ suc n = omega arith in
      let two : n + 2 ≡ suc (suc n) = omega arith in
      let three : n + 3 ≡ suc (suc (suc n)) = omega arith in
      record {
        written = e ∙ (written_5 out n _ _ _ _ _
            ∙ λ i. written_at out n (leaf_formula (constant_word (address_at map j)) ∷ binary_formula read2 (place_of slots (only shared_memory)) n ∷ leaf_formula (constant_word (value_at map j))
            ∷ binary_formula equal2 (one i) (two i) ∷ constraint (three i) ∷ []));
        places = refl;
        next = omega arith;
        slots_stay = refl;
      }

-- the goal, over any places
pub goal-written : (out : List ℕ) (n : ℕ) (places : Slot → ℕ) (after : List ℕ) →
    after ≡ record_at (n + 2) (goal (n + 1)) (record_at (n + 1) (unary_formula not1 n) (record_at n (binary_formula equal2 (places (only code)) (places word0)) out)) →
    after ≡ written_at out n (compiled same places n (aims goal_tree ∷ []))
unfolding compiled records root next
goal-written out n places after e =
    let one : n + 1 ≡ suc n = omega arith in
    e ∙ (written_3 out n _ _ _
    ∙ λ i. written_at out n (binary_formula equal2 (places (only code)) (places word0) ∷ unary_formula not1 n ∷ goal (one i) ∷ []))
