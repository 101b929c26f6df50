-- Demand 3 in full (specs/Models.antt states it): what accepted models decode to, and that every trace that replays to a failure is one
-- of theirs. Assumes nothing.
use Prim.Native.Nat.{ℕ, suc, ◌+◌, ◌*◌, ◌/◌, ◌≤◌, ◌<◌}
use mathlib.Core.Path.{◌≡◌, refl, ap, ap₂, sym, subst, subst⁻¹, ◌∙◌}
use mathlib.Core.Bool.{Bool, true, false, cond, ◌&&◌, ◌||◌}
use mathlib.Core.List.{List, [], ◌∷◌}
use mathlib.Core.Logic.{◌↔◌}
use native.Mathlib.Omega.{arith}
use lib.Dec.{ltb}
use lib.ListN.{length, get_or, length-append}
use borrow.Author.Tests.{lt-ltb}
use Rattle.base.specs.Below.{number}
use Rattle.base.proofs.Choice.{chosen, and_true, and_right, or_true, or_right_true}
use Rattle.records.specs.Maps.{cells, address_at, map_accepted, mapped, map_value, set_cells, run_cells}
use Rattle.records.specs.Sets.{Set, WellFormedSet, set_of, set_accepted}
use Rattle.records.proofs.Maps.{few-cells}
use Rattle.records.proofs.Sets.{well-formed}
use Rattle.machine.specs.Machine.{State, start, no_write}
use Rattle.machine.specs.Maps.{begin, retrace, ran}
use Rattle.machine.specs.Runs.{after, some_permitted, end_of}
use Rattle.machine.specs.Traces.{trace, step_length}
use Rattle.machine.specs.declared.Choice.{Choice}
use Rattle.machine.specs.declared.Choice.TheVariants.{Execute}
use Rattle.machine.specs.declared.End.TheVariants.{Code, Stuck, Open}
use Rattle.machine.proofs.Runs.{inside-start, AllTaken, taken-run, follow-taken, follow-ran, length-trace, step_choices}
use Rattle.replay.specs.Replay.{replayed}
use Rattle.table.specs.Values.{Assignment, satisfies}
use Rattle.encoding.specs.Assignments.{assignment_of}
use Rattle.encoding.specs.Encodings.{table_of}
use Rattle.encoding.proofs.Bytes.{set_words}
use Rattle.encoding.proofs.Failing.{last-exits, last-ends}
use Rattle.encoding.proofs.Tests.{same_tests}
use Rattle.decoding.specs.Decodings.{run_of, reads_first, cells_below, decoded_trace, decoded_map}
use Rattle.decoding.specs.Models.{listed_cells, assigned}
use Rattle.decoding.proofs.Assigned.{listed-bytes, assigned-inside, model_of, model-bytes, model-fits, model-assigned}
use Rattle.decoding.proofs.Below.{number-either, number-held}
use Rattle.decoding.proofs.Cells.{cells-accepted, cells-mapped, cells-value, cells-bytes}
use Rattle.decoding.proofs.FirstReads.{exit-few, first-words}
use Rattle.decoding.proofs.Followed.{Along, along}
use Rattle.decoding.proofs.Maps.{agrees-value, mapped-below, value-below, value-beyond, own-mapped, own_value}
use Rattle.decoding.proofs.Runs.{run_of_lem}
use Rattle.claims.specs.Models.{AcceptedModel, Contains, Decodes, ReplaysToFailure, DecodedFromModel, DemandThree}
use Rattle.claims.specs.Runs.{AreBytes}
use Rattle.claims.specs.Tables.{IsMemory, Fails, Failure, Satisfying, OneToOne}
use Rattle.claims.proofs.Formed.{below}
use Rattle.claims.proofs.Runs.{retrace-trace, retrace-ran, replayed-ran, ran-replayed}
use Rattle.claims.proofs.Tables.{table_means_the_program, assignments_match_runs}

-- a list whose numbers are all below 256 is made of bytes
pub bytes_of : (xs : List ℕ) → ((i : ℕ) → get_or xs i 0 < 256) → AreBytes xs
bytes_of [] f = tt
bytes_of (x ∷ xs) f = (f 0, bytes_of xs (λ i. f (suc i)))

-- a map of bytes is a first memory, unlisted cells being 0
map-memory : (map : List ℕ) → ((i : ℕ) → get_or map i 0 < 256) → IsMemory (map_value map)
map-memory map h = record { words = value-below map h; beyond = value-beyond map h }

-- a state whose end is a code has it
end-code : (S : Set) (s : State) (code : ℕ) → Code code ≡ end_of S s → s.code ≡ code
unfolding end_of
end-code S s code e = go s.ended (some_permitted S s) e
  where
    go : (b p : Bool) → Code code ≡ cond b (Code s.code) (cond p Open Stuck) → s.code ≡ code
    go true p q = cc
    go false true q = cc
    go false false q = cc

ended-code : (S : Set) (s : State) → s.ended ≡ true → end_of S s ≡ Code s.code
unfolding end_of
ended-code S s e = chosen _ _ e

module _ (set map : List ℕ) (bound : ℕ) (accepted : set_accepted set ≡ true) (map_ok : map_accepted set_cells map ≡ true) (few : bound ≤ 64)
    (set_bytes : AreBytes set) (map_bytes : AreBytes map) where
  abbrev S : Set
  S = set_of set

  well : WellFormedSet S
  well = well-formed set accepted

  -- ---- what the assignment of a failing run decodes to

  module _ (g : Assignment) (failure : Failure set map bound g.first (run_of S.threads bound g)) where
    abbrev run : List Choice
    run = run_of S.threads bound g

    abbrev first : State
    first = start g.first

    abbrev is_cell : ℕ → Bool
    is_cell a = mapped map a || reads_first S first run a

    abbrev fails : Fails S bound g.first run
    fails = failure.fails

    reads-few : number 65536 (reads_first S first run) ≤ 126
    reads-few =
        let before = fails.before in
        let t = fails.thread in
        let most = subst⁻¹ (λ (r : List Choice). number 65536 (reads_first S first r) ≤ 2 * length before) fails.last
        (exit-few S t 65536 first before fails.exit) in
        let long : length run ≡ length before + 1 = ap length fails.last ∙ length-append before (Execute t ∷ []) in
        omega (arith, most, long, fails.bounded)

    cells-few : number 65536 is_cell ≤ 256
    cells-few = omega (
      arith,
      number-either (mapped map) (reads_first S first run) 65536,
      number-held (address_at map) (cells map) 65536,
      few-cells set_cells map map_ok,
      reads-few,
    )

    cell_below : (a : ℕ) → is_cell a ≡ true → a < 65536
    cell_below a e = go (mapped map a) refl e
      where
        go : (b : Bool) → mapped map a ≡ b → (b || reads_first S first run a) ≡ true → a < 65536
        go true f h = mapped-below map (below map map_bytes) a f
        go false f h = first-words S (set_words set (below set set_bytes)) first run
            (λ t. record { accu_is = omega arith; val_is = omega arith }, failure.is_memory.words) a h

    cells_are_lem : (a : ℕ) → mapped (decoded_map set map bound g) a ≡ is_cell a
    unfolding decoded_map
    cells_are_lem a =
        cells-mapped is_cell g.first 65536 a
        ∙ same_tests (ltb a 65536 && is_cell a) (is_cell a) (λ e. and_right (ltb a 65536) (is_cell a) e)
        (λ e. and_true (lt-ltb a 65536 (cell_below a e)) e)

    values_are_lem : (a : ℕ) → mapped (decoded_map set map bound g) a ≡ true → map_value (decoded_map set map bound g) a ≡ g.first a
    unfolding decoded_map
    values_are_lem a e =
        let cell : is_cell a ≡ true = sym (cells_are_lem a) ∙ e in
        cells-value is_cell g.first 65536 a (cell_below a cell) cell

    map-accepted : map_accepted run_cells (decoded_map set map bound g) ≡ true
    unfolding decoded_map
    map-accepted = cells-accepted is_cell g.first 65536 256 cells-few

    map-bytes : AreBytes (decoded_map set map bound g)
    unfolding decoded_map
    map-bytes = bytes_of (cells_below is_cell g.first 65536) (cells-bytes is_cell g.first 65536 (omega arith) failure.is_memory.words)

    -- the run over the decoded map
    over : Along S first (map_value (decoded_map set map bound g)) (mapped (decoded_map set map bound g)) no_write run
    over = along S first (map_value (decoded_map set map bound g)) (mapped (decoded_map set map bound g)) no_write run fails.permitted values_are_lem
        (λ a e. cells_are_lem a ∙ or_right_true (mapped map a) e)

    over-taken : AllTaken S (begin (decoded_map set map bound g)) run
    unfolding begin
    over-taken = over.taken

    over-ended : (after S (start (map_value (decoded_map set map bound g))) run).ended ≡ true
    over-ended =
        over.ended_same
        ∙ subst⁻¹ (λ (r : List Choice). (after S first r).ended ≡ true) fails.last (last-ends S first fails.before fails.thread fails.exit)

    over-followed : retrace S (begin (decoded_map set map bound g)) no_write 0 (length run) (trace S first no_write run)
        ≡ ran (length run) (Code (after S first run).code)
    unfolding begin
    over-followed =
        let over-map = decoded_map set map bound g in
        let count : 0 + length run ≡ length run = omega arith in
        ap (retrace S (begin over-map) no_write 0 (length run)) (sym over.traced)
        ∙ retrace-trace S (begin over-map) no_write 0 run well (inside-start S well (map_value over-map)) over-taken
        ∙ follow-taken S (begin over-map) 0 run over-taken
        ∙ ap₂ ran count (ended-code S (after S (start (map_value over-map)) run) over-ended ∙ ap Code over.code_same)

    trace-replays : replayed set (decoded_map set map bound g) (decoded_trace set bound g) ≡ ran (length run) (Code (after S first run).code)
    unfolding decoded_trace
    trace-replays =
        let bytes = trace S first no_write run in
        let long = length-trace S first no_write run in
        let bounded = fails.bounded in
        let steps : length bytes / step_length ≡ length run = omega arith in
        ran-replayed set (decoded_map set map bound g) bytes (length run) (Code (after S first run).code) (record {
          accepted = and_true accepted map-accepted;
          whole = omega arith;
          few = omega arith;
          retraced = ap (λ (n : ℕ). retrace S (begin (decoded_map set map bound g)) no_write 0 n bytes) steps ∙ over-followed;
        })

    decodes-own : g ≡ assignment_of g.first run → Decodes set map bound g
    decodes-own own = record {
      own_run = own;
      fails = failure;
      accepted = map-accepted;
      cells_are = cells_are_lem;
      values_are = values_are_lem;
      replays = trace-replays;
    }

    contains-map : Contains (decoded_map set map bound g) map
    contains-map a e =
        let there = cells_are_lem a ∙ or_true (reads_first S first run a) e in
        (there, values_are_lem a there ∙ agrees-value map g.first failure.agrees a e)

    replays-to-failure : ReplaysToFailure set map bound (decoded_trace set bound g)
    replays-to-failure = record {
      other = decoded_map set map bound g;
      bytes = map-bytes;
      accepted = map-accepted;
      contains = contains-map;
      steps = length run;
      code = (after S first run).code;
      bounded = fails.bounded;
      failing = fails.code;
      replays = trace-replays;
    }

  -- ---- a trace that replays to a failure

  module _ (bytes : List ℕ) (to : ReplaysToFailure set map bound bytes) where
    abbrev other : List ℕ
    other = to.other

    -- the run that it shows
    abbrev shown_run : List Choice
    shown_run = step_choices (length bytes / step_length) bytes

    pub record Shown : Type 0 where
      pub failure : Failure set map bound (map_value other) shown_run
      pub traced : bytes ≡ trace S (start (map_value other)) no_write shown_run

    shown-run : Shown
    unfolding begin
    shown-run =
        let r = replayed-ran set other bytes to.steps (Code to.code) to.replays in
        let retraced = retrace-ran S (begin other) no_write 0 (length bytes / step_length) bytes to.steps (Code to.code) r.whole r.retraced in
        let followed = follow-ran S (begin other) 0 shown_run to.steps (Code to.code) retraced.0 in
        let permitted = taken-run S (begin other) shown_run followed.taken in
        let s = start (map_value other) in
        let failing : (after S s shown_run).code ≡ 0 → ⊥ = λ e. to.failing (sym (end-code S (after S s shown_run) to.code followed.end) ∙ e) in
        let last = last-exits S s shown_run (λ e. refl) refl permitted failing in
        record {
          failure = record {
            is_memory = map-memory other (below other to.bytes);
            agrees = λ j h.
                (to.contains (address_at map j) (own-mapped map 128 map_ok j h)).1 ∙ own_value map 128 map_ok j h;
            fails = record {
              permitted = permitted;
              bounded = omega (arith, followed.steps, to.bounded);
              before = last.0;
              thread = last.1.0;
              last = last.1.1.0;
              exit = last.1.1.1;
              code = failing;
            };
          };
          traced = retraced.1;
        }

  -- ---- the meaning

  module _ (one_to_one : OneToOne set map bound) where
    model-assignment : (model : List ℕ) → AcceptedModel set map bound model → Satisfying set map bound (assigned S.threads bound model)
    unfolding assigned
    model-assignment model ok = record {
      is_assignment = record {
        bits = assigned-inside S.threads bound model;
        is_memory = map-memory (listed_cells S.threads bound model) (listed-bytes S.threads bound model (below model ok.bytes));
      };
      satisfied = ok.satisfied;
    }

    -- a satisfying assignment is that of the run that decoding reads from it
    pub record Own (g : Assignment) : Type 0 where
      pub stands : g ≡ assignment_of g.first (run_of S.threads bound g)
      pub failure : Failure set map bound g.first (run_of S.threads bound g)

    own-run : (g : Assignment) → Satisfying set map bound g → Own g
    own-run g satisfying =
        let r = one_to_one.pair g satisfying in
        let q = r.0 in
        let same : run_of S.threads bound g ≡ q
        = ap (run_of S.threads bound) r.1.0
        ∙ run_of_lem S bound (start g.first) g.first q r.1.1.fails.permitted r.1.1.fails.bounded in
        record {
          stands = r.1.0 ∙ ap (assignment_of g.first) (sym same);
          failure = subst⁻¹ (Failure set map bound g.first) same r.1.1;
        }

    pub decodes : (model : List ℕ) → AcceptedModel set map bound model → Decodes set map bound (assigned S.threads bound model)
    decodes model ok =
        let g = assigned S.threads bound model in
        let own = own-run g (model-assignment model ok) in
        decodes-own g own.failure own.stands

    replays-from : (bytes : List ℕ) → DecodedFromModel set map bound bytes → ReplaysToFailure set map bound bytes
    replays-from bytes from =
        let g = assigned S.threads bound from.model in
        let own = own-run g (model-assignment from.model from.accepted_model) in
        subst (ReplaysToFailure set map bound) from.trace_is (replays-to-failure g own.failure)

    decoded-from : (bytes : List ℕ) → ReplaysToFailure set map bound bytes → DecodedFromModel set map bound bytes
    unfolding decoded_trace
    decoded-from bytes to =
        let m = map_value to.other in
        let shown = shown-run bytes to in
        let q = shown_run bytes to in
        let fails = shown.failure.fails in
        let model = model_of S.threads bound q to.other in
        let stands = model-assigned S bound (start m) q to.other fails.permitted fails.bounded in
        record {
          model = model;
          accepted_model = record {
            bytes = bytes_of model (model-bytes S.threads bound q to.other (below to.other to.bytes));
            fits = model-fits S.threads bound q to.other to.accepted;
            satisfied = subst⁻¹ (λ (g : Assignment). satisfies g (table_of set map bound) ≡ true) stands
                (one_to_one.assignment m q shown.failure).satisfied;
          };
          trace_is = ap (decoded_trace set bound) stands
              ∙ ap (trace S (start m) no_write) (run_of_lem S bound (start m) m q fails.permitted fails.bounded)
              ∙ sym shown.traced;
        }

    pub exactly : (bytes : List ℕ) → DecodedFromModel set map bound bytes ↔ ReplaysToFailure set map bound bytes
    exactly bytes = (replays-from bytes, decoded-from bytes)

pub demand_three : DemandThree
demand_three set map bound accepted map_ok one few set_bytes map_bytes =
    let one_to_one = assignments_match_runs set map bound accepted map_ok one few in
    record {
      satisfiable = table_means_the_program set map bound accepted map_ok one few;
      one_to_one = one_to_one;
      decodes = decodes set map bound accepted map_ok few set_bytes map_bytes one_to_one;
      exactly = exactly set map bound accepted map_ok few set_bytes map_bytes one_to_one;
    }
