-- The parts of the model check and of decoding once the table's size is known. Assumes nothing.
use Prim.Native.Nat.{ℕ, ◌*◌, ◌≤◌, ◌<◌}
use mathlib.Core.Path.{◌≡◌, ap, ap₂, sym, subst, ◌∙◌}
use mathlib.Core.Bool.{Bool, true, false, ◌&&◌, ◌||◌}
use mathlib.Core.List.{List}
use native.Mathlib.Omega.{arith}
use borrow.Author.Tests.{lt-ltb, le-ltb, ltb-false, le-leb, leb-true}
use lib.Dec.{ltb, leb}
use lib.ListN.{length, get_or, drop}
use Rattle.base.specs.Below.{every}
use Rattle.base.specs.Bytes.{over}
use Rattle.base.proofs.Choice.{chosen, passed, and_true, and_left, or_left, or_right}
use Rattle.records.specs.Maps.{cells, map_accepted, run_cells}
use Rattle.records.specs.Sets.{set_of}
use Rattle.table.specs.declared.Formula.{Formula}
use Rattle.table.specs.Formulas.{table_bytes, READ}
use Rattle.table.specs.Tables.{WellFormedTable}
use Rattle.table.proofs.Written.{table-length}
use Rattle.encoding.specs.Encodings.{table_of}
use Rattle.encoding.proofs.Bytes.{Bytes}
use Rattle.encoding.proofs.WellFormed.{well-formed}
use Rattle.decoding.specs.Models.{bits, listed_cells, model_fits, assigned}
use Rattle.encoder.specs.Answers.{size_answer, encode_answer}
use Rattle.std.specs.Prelude.{Result, Ok, Err}
use Rattle.records.specs.Refusals.{of_call}
use Rattle.records.specs.declared.refusals.Refusal.TheVariants.{Model, Room}
use Rattle.records.specs.declared.refusals.Refused.{Refused}
use Rattle.decoding.specs.declared.Decoded.{Decoded}
use Rattle.evaluation.specs.Evaluations.{record_at, formula_in, value_in, given_by, turned, false_in}
use Rattle.evaluation.proofs.Choices.{small-choices}
use Rattle.evaluation.proofs.Evaluated.{at_turn, evaluated}
use Rattle.evaluation.proofs.Tables.{SmallChoices}
use Rattle.claims.specs.Lookups.{ReadsBack}
use Rattle.claims.proofs.Lookups.{looks_back_once, inside}
use Rattle.claims.proofs.Models.{bytes_of}
use Rattle.decoder.specs.Answers.{false_record, unsatisfied, judged, model_answer, decoded, too_short, model_decoding}
use Rattle.decoder.proofs.Sized.{Sized, sized}
use Rattle.decoding.specs.Decodings.{longest_map}
use Rattle.machine.specs.Traces.{step_length}

-- a model that fits has all its bits
pub model-bits : (threads bound : ℕ) (model : List ℕ) → model_fits threads bound model ≡ true → bits threads bound ≤ length model
unfolding model_fits
model-bits threads bound model h =
    let a = leb (bits threads bound) (length model) in
    let b = every (bits threads bound) (λ i. ltb (get_or model i 0) 2) in
    leb-true (bits threads bound) (length model) (and_left a b (and_left (a && b) (map_accepted run_cells (listed_cells threads bound model)) h))

module _ (set map : List ℕ) (bound n : ℕ) (e : size_answer set map bound ≡ Ok n) where
  abbrev facts : Sized set map bound n
  facts = sized set map bound n e

  -- the table is written where there is room
  pub encodes : (room : ℕ) → 16 * n ≤ room → encode_answer set map bound room ≡ Ok n
  unfolding encode_answer
  encodes room h =
      let s = facts in
      let p = s.count in
      chosen _ _ (and_true s.accepted s.mapped)
      ∙ (chosen _ _ (and_true (lt-ltb 0 bound s.some_step) (le-leb bound 64 s.few_steps))
      ∙ (passed _ _ (le-ltb room (16 * length (table_of set map bound)) (omega arith)) ∙ ap Ok (sym p)))

  module _ (model : List ℕ) (threads : ℕ) where
    module _ (bytes : Bytes set) (map_bytes : Bytes map) (t : threads ≡ (set_of set).threads) (few : threads < 256) (short : n < 4294967296)
        (work : List ℕ) (room : 32 * n ≤ length work) where
      abbrev table : List Formula
      table = table_of set map bound

      formed : WellFormedTable threads bound (cells map) table
      formed = subst (λ (T : ℕ). WellFormedTable T bound (cells map) table) (sym t) (well-formed set map bound bytes map_bytes (omega (arith, facts.some_step)))

      small : SmallChoices table
      small = small-choices threads bound (omega arith) (omega (arith, facts.few_steps)) (cells map) table formed

      -- evaluation of the written table finds the definition's record
      pub found : false_in (given_by threads bound model (drop (bits threads bound) model)) n (over (table_bytes table) work)
          ≡ false_record (assigned threads bound model) table
      unfolding given_by assigned
      found =
          let p = facts.count in
          let l = table-length table in
          ap (λ (k : ℕ). false_in (assigned threads bound model) k (over (table_bytes table) work)) p
          ∙ evaluated (assigned threads bound model) table work (omega arith) small formed.records (omega arith) (omega arith)

      -- each look-up of this evaluation goes as the claim says: that for record i, in work memory as it is at its turn
      pub look_ups : (i : ℕ) → (record_at table i).operation ≡ READ →
          let g = assigned threads bound model in
          let s = turned g (length table) i (over (table_bytes table) work) in
          ReadsBack g table i (formula_in s (length table)) (value_in s (length table)) bound
      look_ups i reads =
          let p = facts.count in
          let l = table-length table in
          let h = inside table i reads in
          looks_back_once set map bound facts.accepted facts.mapped facts.some_step facts.few_steps (bytes_of set bytes) (bytes_of map map_bytes)
          (assigned threads bound model) i _ _ reads
          (at_turn (assigned threads bound model) table work (omega arith) small formed.records (omega arith) (omega arith) i (omega arith))

    module _ (t : threads ≡ (set_of set).threads) (room : ℕ) where
      fits-there : (b : Bool) → model_fits threads bound model ≡ b → model_fits (set_of set).threads bound model ≡ b
      fits-there b h = ap (λ (T : ℕ). model_fits T bound model) (sym t) ∙ h

      pub unfit : model_fits threads bound model ≡ false → Err (of_call Model) ≡ model_answer set map bound model room
      unfolding model_answer
      unfit h = sym (passed _ _ (fits-there false h))

      pub short : model_fits threads bound model ≡ true → room < 32 * n → Err (of_call Room) ≡ model_answer set map bound model room
      unfolding model_answer
      short h l =
          let p = facts.count in
          sym (chosen _ _ (fits-there true h) ∙ chosen _ _ (lt-ltb room (32 * length (table_of set map bound)) (omega arith)))

      pub decided : model_fits threads bound model ≡ true → 32 * n ≤ room → (k : ℕ) →
          k ≡ false_record (assigned threads bound model) (table_of set map bound) → judged k n ≡ model_answer set map bound model room
      unfolding model_answer
      decided h l k f =
          let p = facts.count in
          ap₂ judged (f ∙ ap (λ (T : ℕ). false_record (assigned T bound model) (table_of set map bound)) t) p
          ∙ sym (chosen _ _ (fits-there true h) ∙ passed _ _ (le-ltb room (32 * length (table_of set map bound)) (omega arith)))

      -- ---- decoding

      module _ (trace_room map_room : ℕ) where
        abbrev answer : Result Decoded Refused
        answer = model_decoding set map bound model room trace_room map_room

        short-there : (b : Bool) → too_short n bound room trace_room map_room ≡ b → too_short (length (table_of set map bound)) bound room trace_room map_room ≡ b
        short-there b h = ap (λ (k : ℕ). too_short k bound room trace_room map_room) (sym facts.count) ∙ h

        pub run-unfit : model_fits threads bound model ≡ false → Err (of_call Model) ≡ answer
        unfolding model_decoding
        run-unfit h = sym (passed _ _ (fits-there false h))

        pub run_short : model_fits threads bound model ≡ true → too_short n bound room trace_room map_room ≡ true → Err (of_call Room) ≡ answer
        unfolding model_decoding
        run_short h l = sym (chosen _ _ (fits-there true h) ∙ chosen _ _ (short-there true l))

        module _ (h : model_fits threads bound model ≡ true) (l : too_short n bound room trace_room map_room ≡ false) (k : ℕ)
            (f : k ≡ false_record (assigned threads bound model) (table_of set map bound)) where
          abbrev there : ℕ
          there = false_record (assigned (set_of set).threads bound model) (table_of set map bound)

          false-there : k ≡ there
          false-there = f ∙ ap (λ (T : ℕ). false_record (assigned T bound model) (table_of set map bound)) t

          pub run-refused : k < n → Err (unsatisfied k) ≡ answer
          unfolding model_decoding
          run-refused m =
              ap (λ (k : ℕ). Err (unsatisfied k)) false-there
              ∙ sym (chosen _ _ (fits-there true h) ∙ (passed _ _ (short-there false l) ∙ chosen _ _ (lt-ltb there (length (table_of set map bound)) (omega (arith, m, false-there, facts.count)))))

          pub run-accepted : n ≤ k → Ok (decoded set map bound (assigned (set_of set).threads bound model)) ≡ answer
          unfolding model_decoding
          run-accepted m =
              sym (chosen _ _ (fits-there true h) ∙ (passed _ _ (short-there false l) ∙ passed _ _ (le-ltb there (length (table_of set map bound)) (omega (arith, m, false-there, facts.count)))))

-- the rooms where 11 does not refuse
module _ (size bound room trace_room map_room : ℕ) (h : too_short size bound room trace_room map_room ≡ false) where
  abbrev work : Bool
  work = ltb room (32 * size)

  abbrev outputs : Bool
  outputs = ltb trace_room (step_length * bound)

  pub work-room : 32 * size ≤ room
  work-room = ltb-false room (32 * size) (or_left work outputs (or_left (work || outputs) (ltb map_room longest_map) h))

  pub trace-room : step_length * bound ≤ trace_room
  trace-room = ltb-false trace_room (step_length * bound) (or_right work outputs (or_left (work || outputs) (ltb map_room longest_map) h))

  pub map-room : longest_map ≤ map_room
  map-room = ltb-false map_room longest_map (or_right (work || outputs) (ltb map_room longest_map) h)
