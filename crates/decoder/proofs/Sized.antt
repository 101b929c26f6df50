-- What the answer about a table's size says of the model check and of decoding. Assumes nothing.
use Prim.Native.Nat.{ℕ, ◌≤◌, ◌<◌}
use mathlib.Core.Path.{◌≡◌, refl, ap, sym, ◌∙◌}
use mathlib.Core.Bool.{Bool, true, false, cond, ◌&&◌}
use mathlib.Core.List.{List}
use borrow.Author.Tests.{ltb-true, leb-true}
use lib.Dec.{eqb, ltb, leb}
use lib.ListN.{length}
use Rattle.base.proofs.Choice.{chosen, passed, and_left, and_right, clash}
use Rattle.records.specs.Maps.{map_accepted, set_cells}
use Rattle.records.specs.Sets.{set_accepted}
use Rattle.encoding.specs.Encodings.{table_of}
use Rattle.encoder.specs.Answers.{size_answer}
use Rattle.std.specs.Prelude.{Result, Ok, Err}
use Rattle.records.specs.Refusals.{number as number_of, of_call}
use Rattle.records.specs.declared.refusals.Refusal.{Refusal}
use Rattle.records.specs.declared.refusals.Refusal.TheVariants.{Records, Bound}
use Rattle.records.specs.declared.refusals.Refused.{Refused}
use Rattle.decoder.specs.Answers.{model_answer, check_answer, model_decoding, decode_answer}

-- ---- the parts of an answer about a size

abbrev is_size : Result ℕ Refused → Bool
is_size (Ok records) = true
is_size (Err refused) = false

abbrev size : Result ℕ Refused → ℕ
size (Ok records) = records
size (Err refused) = 0

abbrev refused_by : Result ℕ Refused → Refused
refused_by (Ok records) = of_call Records
refused_by (Err refused) = refused

-- ---- what it says

module _ (set map : List ℕ) (bound : ℕ) where
  abbrev records : Bool
  records = set_accepted set && map_accepted set_cells map

  abbrev steps : Bool
  steps = ltb 0 bound && leb bound 64

  pub record Sized (n : ℕ) : Type 0 where
    pub accepted : set_accepted set ≡ true
    pub mapped : map_accepted set_cells map ≡ true
    pub some_step : 0 < bound
    pub few_steps : bound ≤ 64
    pub count : n ≡ length (table_of set map bound)

  pub sized : (n : ℕ) → size_answer set map bound ≡ Ok n → Sized n
  unfolding size_answer
  sized n e = go records refl steps refl
    where
      go : (a : Bool) → records ≡ a → (b : Bool) → steps ≡ b → Sized n
      go true p true q = record {
        accepted = and_left (set_accepted set) (map_accepted set_cells map) p;
        mapped = and_right (set_accepted set) (map_accepted set_cells map) p;
        some_step = ltb-true 0 bound (and_left (ltb 0 bound) (leb bound 64) q);
        few_steps = leb-true bound 64 (and_right (ltb 0 bound) (leb bound 64) q);
        count = sym (ap size e) ∙ ap size (chosen _ _ p ∙ chosen _ _ q);
      }
      go true p false q = clash (ap is_size e) (ap is_size (chosen _ _ p ∙ passed _ _ q))
      go false p b q = clash (ap is_size e) (ap is_size (passed _ _ p))

  -- 9 and 10, then the rest of a call
  module _ {A : Type 0} (rest : Result A Refused) where
    abbrev whole : Result A Refused
    whole = cond records (cond steps rest (Err (of_call Bound))) (Err (of_call Records))

    passes : (n : ℕ) → size_answer set map bound ≡ Ok n → rest ≡ whole
    unfolding size_answer
    passes n e = go records refl steps refl
      where
        go : (a : Bool) → records ≡ a → (b : Bool) → steps ≡ b → rest ≡ whole
        go true p true q = sym (chosen _ _ p ∙ chosen _ _ q)
        go true p false q = clash (ap is_size e) (ap is_size (chosen _ _ p ∙ passed _ _ q))
        go false p b q = clash (ap is_size e) (ap is_size (passed _ _ p))

    -- a refusal of the size is the call's, and it is not 16
    refuses : (r : Refused) → size_answer set map bound ≡ Err r → (Err r ≡ whole) × (eqb (number_of r.refusal) 16 ≡ false)
    unfolding size_answer
    refuses r e = go records refl steps refl
      where
        refused : (k : Refusal) → eqb (number_of k) 16 ≡ false → size_answer set map bound ≡ Err (of_call k) → Err (of_call k) ≡ whole →
            (Err r ≡ whole) × (eqb (number_of r.refusal) 16 ≡ false)
        refused k differs d f =
            let same : r ≡ of_call k = ap refused_by (sym e ∙ d) in
            (ap Err same ∙ f, ap (λ (q : Refused). eqb (number_of q.refusal) 16) same ∙ differs)

        go : (a : Bool) → records ≡ a → (b : Bool) → steps ≡ b → (Err r ≡ whole) × (eqb (number_of r.refusal) 16 ≡ false)
        go true p true q = clash (ap is_size (chosen _ _ p ∙ chosen _ _ q)) (ap is_size e)
        go true p false q = refused Bound refl (chosen _ _ p ∙ passed _ _ q) (sym (chosen _ _ p ∙ passed _ _ q))
        go false p b q = refused Records refl (passed _ _ p) (sym (passed _ _ p))

  module _ (model : List ℕ) (room : ℕ) where
    pub checked : (n : ℕ) → size_answer set map bound ≡ Ok n → model_answer set map bound model room ≡ check_answer set map bound model room
    unfolding check_answer
    checked n e = passes (model_answer set map bound model room) n e

    pub unchecked : (r : Refused) → size_answer set map bound ≡ Err r →
        (Err r ≡ check_answer set map bound model room) × (eqb (number_of r.refusal) 16 ≡ false)
    unfolding check_answer
    unchecked r e = refuses (model_answer set map bound model room) r e

    module _ (trace_room map_room : ℕ) where
      pub run-checked : (n : ℕ) → size_answer set map bound ≡ Ok n →
          model_decoding set map bound model room trace_room map_room ≡ decode_answer set map bound model room trace_room map_room
      unfolding decode_answer
      run-checked n e = passes (model_decoding set map bound model room trace_room map_room) n e

      pub run-unchecked : (r : Refused) → size_answer set map bound ≡ Err r →
          (Err r ≡ decode_answer set map bound model room trace_room map_room) × (eqb (number_of r.refusal) 16 ≡ false)
      unfolding decode_answer
      run-unchecked r e = refuses (model_decoding set map bound model room trace_room map_room) r e
