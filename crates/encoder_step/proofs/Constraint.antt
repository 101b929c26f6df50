-- The constraint of a step as the code writes it. Assumes nothing.
use Prim.Native.Nat.{ℕ, ◌+◌}
use mathlib.Core.Path.{◌≡◌, refl, ◌∙◌}
use mathlib.Core.List.{List, [], ◌∷◌}
use native.Mathlib.Omega.{arith}
use Rattle.records.specs.Sets.{Set}
use Rattle.table.specs.Programs.{ternary_formula, constraint, if3, next, root, records, needs, compiled, next_after, places_after}
use Rattle.encoding.specs.Slots.{slot, none, one_permitted, ended}
use Rattle.encoding.specs.Steps.{only, ruled}
use Rattle.encoder_slots.specs.Places.{place_of}
use Rattle.encoder_slots.specs.Pieces.{Writes}
use Rattle.encoder_bases.proofs.Records.{record_at, written_2}

module _ (out slots : List ℕ) (n : ℕ) where
  pub rule-writes : (S : Set) (cs : List ℕ) (k : ℕ) (after : List ℕ) →
      after ≡ record_at (n + 1) (constraint n) (record_at n (ternary_formula (if3 1) (place_of slots (only ended)) (place_of slots (slot none 0 (S.threads + S.threads))) (place_of slots (only one_permitted))) out) →
      Writes (needs (ruled S cs k) ∷ []) out slots n after slots (n + 2)
  unfolding compiled places_after next_after records root next
  rule-writes S cs k after e = record {
    written = e ∙ written_2 out n _ _;
    places = refl;
    next = omega arith;
    slots_stay = refl;
  }
