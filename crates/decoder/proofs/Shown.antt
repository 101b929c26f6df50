-- A model that no constraint or goal refuses decodes to a run that fails, so what the search for its first cells gives is the decoding.
-- Assumes nothing.
use Prim.Native.Nat.{ℕ, suc, ◌+◌, ◌≤◌}
use mathlib.Core.Path.{◌≡◌, refl, ap, ap₂, sym, subst, subst⁻¹, fun_ext, ◌∙◌}
use mathlib.Core.Bool.{Bool, true, false, cond, not, ◌&&◌, ◌||◌}
use mathlib.Core.List.{List, [], ◌∷◌}
use native.Mathlib.Omega.{arith}
use lib.ListN.{length}
use Rattle.base.specs.Below.{number}
use Rattle.base.specs.Bytes.{over}
use Rattle.base.proofs.Choice.{chosen, passed, and_true}
use Rattle.records.specs.Maps.{cells, mapped, map_value}
use Rattle.records.specs.Sets.{set_of, set_by, layout_of}
use Rattle.records.specs.declared.Layout.{Layout}
use Rattle.records.proofs.Layouts.{set-read, few-threads}
use Rattle.machine.specs.Machine.{start, no_write}
use Rattle.machine.specs.Runs.{choices, is_run}
use Rattle.machine.specs.Traces.{trace}
use Rattle.machine.proofs.Runs.{length-choices}
use Rattle.table.specs.Values.{Assignment, Value, as_bit, is_demand, met, satisfies, values_of}
use Rattle.table.specs.declared.Formula.{Formula}
use Rattle.encoding.specs.Encodings.{table_of}
use Rattle.encoding.proofs.Bytes.{Bytes as Below}
use Rattle.decoding.specs.Decodings.{run_of, reads_first, cells_below, decoded_trace, decoded_map}
use Rattle.decoding.specs.Models.{listed_cells, model_fits, assigned, first_false}
use Rattle.decoding.proofs.Cells.{cells_count}
use Rattle.decoding.proofs.Maps.{agrees-value}
use Rattle.first_cells.specs.Firsts.{first_memory}
use Rattle.first_cells.proofs.Order.{memory-map, memory-first}
use Rattle.decoder.proofs.Given.{Asked, Given}
use Rattle.decoding.specs.declared.Decoded.{Decoded}
use Rattle.claims.specs.Models.{Decodes}
use Rattle.claims.proofs.Models.{demand_three, bytes_of}
use Rattle.decoder.specs.Answers.{false_record, decoded}
use Rattle.decoder.proofs.Sized.{Sized}

-- where no constraint or goal is 0 all are 1
all-met : (values : ℕ → Value) (n : ℕ) (table : List Formula) → n + length table ≤ first_false values n table → met values table ≡ true
unfolding first_false met
all-met values n [] h = refl
all-met values n (f ∷ table) h = go (is_demand f.operation) refl (as_bit (values f.a)) refl (all-met values (suc n) table)
  where
    go : (a : Bool) → is_demand f.operation ≡ a → (b : Bool) → as_bit (values f.a) ≡ b →
        (suc n + length table ≤ first_false values (suc n) table → met values table ≡ true) →
        (cond (is_demand f.operation) (as_bit (values f.a)) true && met values table) ≡ true
    go true p true q rest =
        let e : cond (is_demand f.operation && not (as_bit (values f.a))) n (first_false values (suc n) table) ≡ first_false values (suc n) table
        = passed _ _ (ap₂ (λ (x y : Bool). x && not y) p q) in
        and_true (chosen _ _ p ∙ q) (rest (omega (arith, h, e)))
    go true p false q rest =
        let e : cond (is_demand f.operation && not (as_bit (values f.a))) n (first_false values (suc n) table) ≡ n
        = chosen _ _ (ap₂ (λ (x y : Bool). x && not y) p q) in
        absurd (omega (arith, h, e))
    go false p b q rest =
        let e : cond (is_demand f.operation && not (as_bit (values f.a))) n (first_false values (suc n) table) ≡ first_false values (suc n) table
        = passed _ _ (ap (λ (x : Bool). x && not (as_bit (values f.a))) p) in
        and_true (passed _ _ p) (rest (omega (arith, h, e)))

module _ (set map : List ℕ) (bound n : ℕ) (s : Sized set map bound n) (set_bytes : Below set) (map_bytes : Below map) where
  module _ (model : List ℕ) (model_bytes : Below model) (fits : model_fits (set_of set).threads bound model ≡ true)
      (none : n ≤ false_record (assigned (set_of set).threads bound model) (table_of set map bound)) where
    abbrev g : Assignment
    g = assigned (set_of set).threads bound model

    model-satisfies : satisfies g (table_of set map bound) ≡ true
    unfolding satisfies
    model-satisfies = all-met (values_of g (table_of set map bound)) 0 (table_of set map bound) (omega (arith, none, s.count))

    model-decodes : Decodes set map bound g
    model-decodes =
        (demand_three set map bound s.accepted s.mapped s.some_step s.few_steps (bytes_of set set_bytes) (bytes_of map map_bytes)
        ).decodes model (record { bytes = bytes_of model model_bytes; fits = fits; satisfied = model-satisfies })

    module _ (layout : Layout) (l : layout ≡ layout_of set) (schedule : List ℕ)
        (run : choices schedule ≡ run_of (set_of set).threads bound g) where
      abbrev cells_of : ℕ → ℕ
      cells_of = map_value (listed_cells (set_of set).threads bound model)

      -- the model's memory agrees with the map
      pub memory-there : first_memory map (listed_cells (set_of set).threads bound model) ≡ cells_of
      unfolding assigned
      memory-there = fun_ext (λ a. go a (mapped map a) refl)
        where
          go : (a : ℕ) (b : Bool) → mapped map a ≡ b → first_memory map (listed_cells (set_of set).threads bound model) a ≡ cells_of a
          go a true e =
              memory-map map (listed_cells (set_of set).threads bound model) a e
              ∙ sym (agrees-value map cells_of model-decodes.fails.agrees a e)
          go a false e = memory-first map (listed_cells (set_of set).threads bound model) a e

      set_there : set_by set layout ≡ set_of set
      set_there = set-read set layout l s.accepted

      pub schedule-long : length schedule ≤ bound
      schedule-long = omega (arith, length-choices schedule, ap length run, model-decodes.fails.fails.bounded)

      pub asked : Asked (set_by set layout) map cells_of schedule
      unfolding assigned
      asked = record {
        few_threads = few-threads set layout l s.accepted;
        accepted = s.mapped;
        few_steps = omega (arith, schedule-long, s.few_steps);
        runs = (λ i. is_run (set_there i) (start cells_of) (run i)) ∙ model-decodes.fails.fails.permitted;
      }

      -- the search, over the cells as the code takes them from the model
      module _ (first : List ℕ) (there : first ≡ listed_cells (set_of set).threads bound model) where
        memory : first_memory map first ≡ cells_of
        memory = ap (first_memory map) there ∙ memory-there

        pub asked-first : Asked (set_by set layout) map (first_memory map first) schedule
        asked-first = subst⁻¹ (λ (m : ℕ → ℕ). Asked (set_by set layout) map m schedule) memory asked

        pub given-first : (before after cells_before cells_after : List ℕ) (r : Decoded) →
            Given (set_by set layout) map (first_memory map first) schedule before after cells_before cells_after r →
            Given (set_by set layout) map cells_of schedule before after cells_before cells_after r
        given-first before after cells_before cells_after r =
            subst (λ (m : ℕ → ℕ). Given (set_by set layout) map m schedule before after cells_before cells_after r) memory

      module _ (before after cells_before cells_after : List ℕ) (r : Decoded)
          (given : Given (set_by set layout) map cells_of schedule before after cells_before cells_after r) where
        pub shown-answer : r ≡ decoded set map bound g
        unfolding assigned decoded_map
        shown-answer =
            let steps : r.steps ≡ length (run_of (set_of set).threads bound g) = given.steps ∙ sym (length-choices schedule) ∙ ap length run in
            let count : r.cells ≡ cells (decoded_map set map bound g)
            = given.count ∙ (λ i. number 65536 (λ a. mapped map a || reads_first (set_there i) (start cells_of) (run i) a))
            ∙ sym (cells_count (λ a. mapped map a || reads_first (set_of set) (start cells_of) (run_of (set_of set).threads bound g) a) cells_of 65536) in
            λ i. record { steps = steps i; cells = count i }

        pub shown-trace : after ≡ over (decoded_trace set bound g) before
        unfolding assigned decoded_trace
        shown-trace = given.traced ∙ (λ i. over (trace (set_there i) (start cells_of) no_write (run i)) before)

        pub shown-map : cells_after ≡ over (decoded_map set map bound g) cells_before
        unfolding assigned decoded_map
        shown-map = given.found ∙ (λ i. over (cells_below (λ a. mapped map a || reads_first (set_there i) (start cells_of) (run i) a) cells_of 65536) cells_before)
