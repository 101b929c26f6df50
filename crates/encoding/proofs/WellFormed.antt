-- Every table is well formed by document 01's rules: its records, its one first memory, and the order of its parts. Assumes nothing.
use Prim.Native.Nat.{ℕ, zero, suc, ◌+◌, ◌-◌, ◌*◌, ◌≤◌, ◌<◌}
use mathlib.Core.Path.{◌≡◌, refl, ap, ap₂, sym, ◌∙◌, subst}
use mathlib.Core.Bool.{Bool, true, false, cond}
use mathlib.Core.List.{List, [], ◌∷◌, ◌++◌, append_assoc}
use native.Mathlib.Omega.{arith}
use borrow.Author.Tests.{lt-ltb, le-ltb}
use lib.Dec.{eqb, ltb}
use Rattle.base.proofs.Choice.{chosen, passed, cond_both}
use Rattle.records.specs.Maps.{cells, address_at, value_at}
use Rattle.records.specs.Sets.{Set, set_of}
use Rattle.table.specs.declared.Formula.{Formula}
use Rattle.table.specs.Formulas.{no_sort, CHOICE, FIRST, CONSTRAINT, GOAL}
use Rattle.table.specs.Programs.{choice_bit, leaf_formula, binary_formula, unary_formula, equal2, not1, goal, Command, sets, needs, aims, next, root, records, upto, next_after, places_after, compiled}
use Rattle.table.specs.Tables.{all_formed, formed, occurrences, choice_bits, steps, InOrder, WellFormedTable}
use Rattle.table.proofs.Counted.{count-++, Apart, choice-apart, first-apart, constraint-apart, goal-apart, demands, demands-++, demands-none, demands-each, program-count}
use Rattle.table.proofs.Ordered.{bits-upto, steps-ended}
use Rattle.table.proofs.Sequences.{upto-first, upto-more, upto_ext, compiled-++, compiled-upto}
use Rattle.table.proofs.Sorted.{ProgramFits, fits-++, fits-upto, program-formed}
use Rattle.encoding.specs.Checkpoints.{checkpoints}
use Rattle.encoding.specs.Encodings.{map_demand, goal_tree, starting, program, firsts, encoded, table_of}
use Rattle.encoding.specs.Slots.{Kind, choice, word_one, argument, code, word_zero, Slot, slot, same, kind_at, kind_number, kinds, start_place}
use Rattle.encoding.specs.Steps.{shape, chain, kept, tree, entry, line, block, blocks, rows, columns, ruled, step}
use Rattle.encoding.proofs.Bytes.{Bytes, word_below, set_words}
use Rattle.encoding.proofs.KindNumbers.{kind_number_lem}
use Rattle.encoding.proofs.Sorts.{slot_sort, sort_alike, start_lies, start_sorts, Words, block-fits, ruled-fits}

-- ---- steps

module _ (S : Set) (cs : List ℕ) where
  -- what follows the choice bits of step k
  abbrev rest : ℕ → List (Command Slot)
  rest k = upto (λ i. block S cs k (kind_at (0 + suc i))) 10 ++ (needs (ruled S cs k) ∷ blocks S cs k 11 25)

  step-split : (k : ℕ) → step S cs k ≡ block S cs k choice ++ rest k
  unfolding step kinds
  step-split k =
      ap (λ x. x ++ (needs (ruled S cs k) ∷ blocks S cs k 11 25)) (upto-first (λ i. block S cs k (kind_at (0 + i))) 10)
      ∙ append_assoc (block S cs k choice) (upto (λ i. block S cs k (kind_at (0 + suc i))) 10) (needs (ruled S cs k) ∷ blocks S cs k 11 25)

  -- its choice bits are a row
  choice-row : (places : Slot → ℕ) (n k : ℕ) → compiled same places n (block S cs k choice) ≡ choice_bits S.threads k
  unfolding upto compiled records chain choice_bits
  choice-row places n k =
      let T = S.threads in
      let f : ℕ → List Formula = λ j. leaf_formula (cond (ltb j T) (choice_bit k 0 j) (choice_bit k 1 (j - T))) ∷ [] in
      compiled-upto same places n (entry S cs k choice 0) (T + T)
      ∙ (upto-more f T T
      ∙ ap₂ (λ x y. x ++ y)
      (upto_ext f _ T (λ i (h : i < T). ap (λ x. leaf_formula x ∷ []) (chosen (choice_bit k 0 i) (choice_bit k 1 (i - T)) (lt-ltb i T h))) ∙ sym (bits-upto k 0 T))
      (upto_ext (λ i. f (T + i)) _ T
      (λ i (h : i < T). ap (λ x. leaf_formula x ∷ [])
      (passed (choice_bit k 0 (T + i)) (choice_bit k 1 (T + i - T)) (le-ltb (T + i) T (omega arith)) ∙ ap (choice_bit k 1) (less T i)))
      ∙ sym (bits-upto k 1 T)))
    where
      less : (t i : ℕ) → t + i - t ≡ i
      less t i = omega arith

  step_row : (places : Slot → ℕ) (n k : ℕ) →
      compiled same places n (step S cs k)
      ≡ choice_bits S.threads k ++ compiled same (places_after same places n (block S cs k choice)) (next_after same n (block S cs k choice)) (rest k)
  step_row places n k =
      ap (compiled same places n) (step-split k) ∙ (compiled-++ same places n (block S cs k choice) (rest k)
      ∙ ap (λ x. x ++ compiled same (places_after same places n (block S cs k choice)) (next_after same n (block S cs k choice)) (rest k)) (choice-row places n k))

  -- ---- what they need

  block_none : (operation k : ℕ) (kind : Kind) → demands operation (block S cs k kind) ≡ 0
  unfolding demands
  block_none operation k kind =
      demands-none operation (line S cs k kind) (rows S cs k (shape kind))
      (λ a. demands-none operation (entry S cs k kind a) (columns S cs k (shape kind) a)
      (λ b. cond_both (λ P. demands operation P ≡ 0) (kept S cs k (shape kind) a b)
      {x = sets (slot kind a b) (tree S cs k kind a b) ∷ []} {y = []} refl refl))

  blocks-none : (operation k : ℕ) (kind : ℕ → Kind) (n : ℕ) → demands operation (upto (λ i. block S cs k (kind i)) n) ≡ 0
  blocks-none operation k kind n = demands-none operation (λ i. block S cs k (kind i)) n (λ i. block_none operation k (kind i))

  starting-none : (operation : ℕ) → demands operation (starting S cs) ≡ 0
  starting-none operation =
      let p = demands-++ operation (block S cs 0 word_one) (block S cs 0 argument) in
      let q = block_none operation 0 word_one in
      let r = block_none operation 0 argument in
      omega arith

  rest-one : (operation k : ℕ) → demands operation (rest k) ≡ cond (eqb CONSTRAINT operation) 1 0
  unfolding demands
  rest-one operation k =
      let p = demands-++ operation (upto (λ i. block S cs k (kind_at (0 + suc i))) 10) (needs (ruled S cs k) ∷ blocks S cs k 11 25) in
      let q = blocks-none operation k (λ i. kind_at (0 + suc i)) 10 in
      let r = blocks-none operation k (λ i. kind_at (11 + i)) 25 in
      omega arith

  -- ---- their sorts

  module _ (words : Words S) where
    rest-fits : (bits : Bool) (k : ℕ) → ProgramFits slot_sort bits (rest k)
    rest-fits bits k =
        fits-++ slot_sort bits (upto (λ i. block S cs k (kind_at (0 + suc i))) 10) (needs (ruled S cs k) ∷ blocks S cs k 11 25)
        (fits-upto slot_sort bits (λ i. block S cs k (kind_at (0 + suc i))) 10
        (λ i (h : i < 10). block-fits S cs k bits words (kind_at (0 + suc i))
        (λ (e : kind_number (kind_at (0 + suc i)) ≡ 0). let p = kind_number_lem (0 + suc i) (omega arith) in absurd (omega arith)))) (
          ruled-fits S cs k bits words,
          fits-upto slot_sort bits (λ i. block S cs k (kind_at (11 + i))) 25
              (λ i (h : i < 25). block-fits S cs k bits words (kind_at (11 + i))
              (λ (e : kind_number (kind_at (11 + i)) ≡ 0). let p = kind_number_lem (11 + i) (omega arith) in absurd (omega arith))),
        )

    step_fits : (k : ℕ) → ProgramFits slot_sort true (step S cs k)
    step_fits k =
        subst (ProgramFits slot_sort true) (sym (step-split k))
        (fits-++ slot_sort true (block S cs k choice) (rest k) (block-fits S cs k true words choice (λ e. refl)) (rest-fits true k))

    starting-fits : (bits : Bool) → ProgramFits slot_sort bits (starting S cs)
    starting-fits bits =
        fits-++ slot_sort bits (block S cs 0 word_one) (block S cs 0 argument)
        (block-fits S cs 0 bits words word_one (λ (e : 39 ≡ 0). absurd (omega arith)))
        (block-fits S cs 0 bits words argument (λ (e : 40 ≡ 0). absurd (omega arith)))

-- ---- map constraints and the goal

-- every address and value is a word
abbrev pub MapWords : List ℕ → Type 0
MapWords map = (j : ℕ) → (address_at map j < 65536) × (value_at map j < 65536)

maps-fit : (bits : Bool) (map : List ℕ) → MapWords map → ProgramFits slot_sort bits (upto (map_demand map) (cells map))
maps-fit bits map h =
    fits-upto slot_sort bits (map_demand map) (cells map) (λ j l. ((refl, ((refl, (refl, ((h j).0, refl))), ((h j).1, refl))), tt))

maps_each : (map : List ℕ) → demands CONSTRAINT (upto (map_demand map) (cells map)) ≡ cells map
unfolding demands
maps_each map = demands-each CONSTRAINT (map_demand map) (cells map) (λ j. refl)

maps_none : (operation : ℕ) (map : List ℕ) → eqb CONSTRAINT operation ≡ false → demands operation (upto (map_demand map) (cells map)) ≡ 0
unfolding demands
maps_none operation map e = demands-none operation (map_demand map) (cells map) (λ j. let p = passed {A = ℕ} 1 0 e in omega arith)

-- the records of the goal's tree
abbrev aimed : (Slot → ℕ) → ℕ → List Formula
aimed places n = binary_formula equal2 (places (slot code 0 0)) (places (slot word_zero 0 0)) ∷ unary_formula not1 n ∷ []

-- ---- the whole table

module _ (S : Set) (cs map : List ℕ) (words : Words S) (map_words : MapWords map) where
  program-fits : (bound : ℕ) → ProgramFits slot_sort true (program S cs map bound)
  unfolding program
  program-fits bound =
      fits-++ slot_sort true (starting S cs) _ (starting-fits S cs words true)
      (fits-++ slot_sort true (upto (map_demand map) (cells map)) _ (maps-fit true map map_words)
      (fits-++ slot_sort true (upto (step S cs) bound) (aims goal_tree ∷ []) (fits-upto slot_sort true (step S cs) bound (λ k h. step_fits S cs words k))
      ((refl, (refl, (refl, refl))), tt)))

  all-formed : (bound : ℕ) → all_formed (λ i. no_sort) 0 (encoded S cs map bound) ≡ true
  unfolding encoded all_formed formed
  all-formed bound = program-formed slot_sort true same sort_alike (program S cs map bound) start_place 4 start_sorts start_lies (program-fits bound)

  program-none : (bound : ℕ) → demands FIRST (program S cs map bound) ≡ 0
  unfolding program demands
  program-none bound =
      let maps = upto (map_demand map) (cells map) in
      let all = upto (step S cs) bound in
      let last : List (Command Slot) = aims goal_tree ∷ [] in
      let p = demands-++ FIRST (starting S cs) (maps ++ (all ++ last)) in
      let q = demands-++ FIRST maps (all ++ last) in
      let r = demands-++ FIRST all last in
      let a = starting-none S cs FIRST in
      let b = maps_none FIRST map refl in
      let c : demands FIRST all ≡ 0 = demands-none FIRST (step S cs) bound step-none in
      omega arith
    where
      step-none : (k : ℕ) → demands FIRST (step S cs k) ≡ 0
      step-none k =
          let p = demands-++ FIRST (block S cs k choice) (rest S cs k) in
          let q = block_none S cs FIRST k choice in
          let r = rest-one S cs FIRST k in
          ap (demands FIRST) (step-split S cs k) ∙ omega arith

  one-memory : (bound : ℕ) → occurrences FIRST (encoded S cs map bound) ≤ 1
  unfolding encoded occurrences
  one-memory bound =
      let table = compiled same start_place 4 (program S cs map bound) in
      let p : occurrences FIRST table ≡ demands FIRST (program S cs map bound) =
      program-count slot_sort true FIRST (first-apart true) same (program S cs map bound) start_place 4 (program-fits bound) in
      let q = program-none bound in
      omega arith

  -- ---- the order of parts: places and next free index where each begins

  abbrev maps_places : Slot → ℕ
  maps_places = places_after same start_place 4 (starting S cs)

  abbrev maps_index : ℕ
  maps_index = next_after same 4 (starting S cs)

  abbrev steps_places : Slot → ℕ
  steps_places = places_after same maps_places maps_index (upto (map_demand map) (cells map))

  abbrev steps_index : ℕ
  steps_index = next_after same maps_index (upto (map_demand map) (cells map))

  abbrev step_places : ℕ → Slot → ℕ
  step_places k = places_after same steps_places steps_index (upto (step S cs) k)

  abbrev step_index : ℕ → ℕ
  step_index k = next_after same steps_index (upto (step S cs) k)

  -- step k after its choice bits
  abbrev inner_step : ℕ → List Formula
  inner_step k =
      compiled same (places_after same (step_places k) (step_index k) (block S cs k choice)) (next_after same (step_index k) (block S cs k choice)) (rest S cs k)

  inner-count : (operation : ℕ) → Apart false operation → (k : ℕ) → occurrences operation (inner_step k) ≡ cond (eqb CONSTRAINT operation) 1 0
  inner-count operation apart k =
      program-count slot_sort false operation apart same (rest S cs k) _ _ (rest-fits S cs words false k) ∙ rest-one S cs operation k

  -- the records of the goal's tree follow the last step
  module _ (n : ℕ) where
    abbrev following : List Formula
    following = aimed (step_places (suc n)) (step_index (suc n))

    abbrev inner : ℕ → List Formula
    inner k = inner_step k ++ cond (eqb k n) following []

    following-none : (operation k : ℕ) → occurrences operation following ≡ 0 → occurrences operation (cond (eqb k n) following []) ≡ 0
    unfolding occurrences
    following-none operation k e = cond_both (λ table. occurrences operation table ≡ 0) (eqb k n) {x = following} {y = []} e refl

    no-choice : (k : ℕ) → occurrences CHOICE (inner k) ≡ 0
    unfolding occurrences
    no-choice k =
        let p = count-++ CHOICE (inner_step k) (cond (eqb k n) following []) in
        let q = inner-count CHOICE choice-apart k in
        let r = following-none CHOICE k refl in
        omega arith

    no-goal : (k : ℕ) → occurrences GOAL (inner k) ≡ 0
    unfolding occurrences
    no-goal k =
        let p = count-++ GOAL (inner_step k) (cond (eqb k n) following []) in
        let q = inner-count GOAL (goal-apart false) k in
        let r = following-none GOAL k refl in
        omega arith

    some-constraint : (k : ℕ) → 1 ≤ occurrences CONSTRAINT (inner k)
    some-constraint k =
        let p = count-++ CONSTRAINT (inner_step k) (cond (eqb k n) following []) in
        let q = inner-count CONSTRAINT (constraint-apart false) k in
        omega arith

    steps-compiled : compiled same steps_places steps_index (upto (step S cs) (suc n)) ++ following ≡ steps S.threads inner 0 (suc n)
    steps-compiled =
        ap (λ x. x ++ following)
        (compiled-upto same steps_places steps_index (step S cs) (suc n)
        ∙ upto_ext _ (λ k. choice_bits S.threads k ++ inner_step k) (suc n) (λ k h. step_row S cs (step_places k) (step_index k) k))
        ∙ steps-ended S.threads inner_step following n

    abbrev start_part : List Formula
    start_part = firsts ++ compiled same start_place 4 (starting S cs)

    abbrev map_part : List Formula
    map_part = compiled same maps_places maps_index (upto (map_demand map) (cells map))

    abbrev goal_record : Formula
    goal_record = goal (suc (step_index (suc n)))

    in_parts : encoded S cs map (suc n) ≡ start_part ++ (map_part ++ (steps S.threads inner 0 (suc n) ++ (goal_record ∷ [])))
    unfolding encoded program compiled records root next
    in_parts =
        let maps = upto (map_demand map) (cells map) in
        let all = upto (step S cs) (suc n) in
        let last : List (Command Slot) = aims goal_tree ∷ [] in
        ap (λ x. firsts ++ x)
        (compiled-++ same start_place 4 (starting S cs) (maps ++ (all ++ last))
        ∙ ap (λ x. compiled same start_place 4 (starting S cs) ++ x)
        (compiled-++ same maps_places maps_index maps (all ++ last)
        ∙ ap (λ x. map_part ++ x)
        (compiled-++ same steps_places steps_index all last
        ∙ (sym (append_assoc (compiled same steps_places steps_index all) following (goal_record ∷ []))
        ∙ ap (λ x. x ++ (goal_record ∷ [])) steps-compiled))))

    start-count : (operation : ℕ) → Apart false operation → occurrences operation firsts ≡ 0 → occurrences operation start_part ≡ 0
    start-count operation apart e =
        let p = count-++ operation firsts (compiled same start_place 4 (starting S cs)) in
        let q : occurrences operation (compiled same start_place 4 (starting S cs)) ≡ demands operation (starting S cs) =
        program-count slot_sort false operation apart same (starting S cs) start_place 4 (starting-fits S cs words false) in
        let r = starting-none S cs operation in
        omega arith

    map-count : (operation : ℕ) → Apart false operation → occurrences operation map_part ≡ demands operation (upto (map_demand map) (cells map))
    map-count operation apart =
        program-count slot_sort false operation apart same (upto (map_demand map) (cells map)) maps_places maps_index (maps-fit false map map_words)

    ordered : InOrder S.threads (suc n) (cells map) (encoded S cs map (suc n))
    unfolding occurrences
    ordered = record {
      starts = start_part;
      maps = map_part;
      inner = inner;
      last = goal_record;
      parts = in_parts;
      starts_inner = record { no_choice = start-count CHOICE choice-apart refl; no_goal = start-count GOAL (goal-apart false) refl };
      no_constraint = start-count CONSTRAINT (constraint-apart false) refl;
      maps_inner = record {
        no_choice = map-count CHOICE choice-apart ∙ maps_none CHOICE map refl;
        no_goal = map-count GOAL (goal-apart false) ∙ maps_none GOAL map refl;
      };
      constrained = map-count CONSTRAINT (constraint-apart false) ∙ maps_each map;
      steps_inner = λ k h. record { no_choice = no-choice k; no_goal = no-goal k };
      some_constraint = λ k h. some-constraint k;
      goal = refl;
    }

  pub encoded-well-formed : (bound : ℕ) → 1 ≤ bound → WellFormedTable S.threads bound (cells map) (encoded S cs map bound)
  encoded-well-formed zero h = absurd (omega arith)
  encoded-well-formed (suc n) h = record { records = all-formed (suc n); one_memory = one-memory (suc n); order = ordered n }

-- every table of bytes and a bound from 1 on is well formed
pub well-formed : (set map : List ℕ) (bound : ℕ) → Bytes set → Bytes map → 1 ≤ bound →
    WellFormedTable (set_of set).threads bound (cells map) (table_of set map bound)
unfolding table_of
well-formed set map bound h k l =
    encoded-well-formed (set_of set) (checkpoints (set_of set)) map (set_words set h) (λ j. (word_below map k (4 * j), word_below map k (4 * j + 2))) bound l
