-- Evaluation of a well-formed table's bytes finds the first constraint or goal that is 0. Assumes nothing.
use Prim.Native.Nat.{ℕ, zero, suc, ◌+◌, ◌*◌, ◌≤◌, ◌<◌}
use mathlib.Core.Path.{◌≡◌, refl, ap, ap₂, sym, ◌∙◌, subst}
use mathlib.Core.Bool.{Bool, true, not, cond, ◌&&◌}
use mathlib.Core.List.{List}
use native.Mathlib.Decide.{ℕ_discrete}
use native.Mathlib.Omega.{arith}
use borrow.Author.Tests.{lt-ltb, le-ltb}
use lib.Dec.{ltb}
use lib.ListN.{length, drop, drop_of_length-le}
use lib.Seq.{drop-cons}
use Rattle.base.specs.Bytes.{over}
use Rattle.base.proofs.Bytes.{length_over}
use Rattle.base.proofs.Choice.{chosen, passed}
use Rattle.table.specs.Formulas.{table_bytes}
use Rattle.table.specs.Tables.{all_formed}
use Rattle.table.specs.Values.{Assignment, Value, as_bit, as_word, values_of, is_demand}
use Rattle.table.specs.declared.Formula.{Formula}
use Rattle.decoding.specs.Models.{first_false}
use Rattle.evaluation.specs.Evaluations.{record_at, formula_in, value_in, stored, no_formula, turned, AtTurn, is_false, cell_in, word_in, false_from, false_in}
use Rattle.evaluation.proofs.Parsed.{table-parsed, stored-records, stored_there, stored-elsewhere, stored-length}
use Rattle.evaluation.proofs.Tables.{sort_at, SmallChoices, views, agree, bits, cells}
use Rattle.evaluation.proofs.Views.{View}
use Rattle.evaluation.proofs.Words.{false-agrees, word-agrees}

module _ (g : Assignment) (table : List Formula)
    (view : (j : ℕ) → j < length table → View (sort_at table) j (record_at table j)) where
  abbrev size : ℕ
  size = length table

  abbrev values : ℕ → Value
  values = values_of g table

  -- the turn of record i, in bytes
  abbrev Turn : ℕ → List ℕ → Type 0
  Turn i s = AtTurn g table i (formula_in s size) (value_in s size)

  module _ (s : List ℕ) (i : ℕ) (h : i < size) (turn : Turn i s) where
    test-agrees : is_false (value_in s size) (record_at table i).operation (record_at table i).a
        ≡ (is_demand (record_at table i).operation && not (as_bit (values (record_at table i).a)))
    test-agrees =
        false-agrees g (sort_at table) i (record_at table i) values (λ j (l : j < i). bits g size (record_at table) values view (agree g table view) j (omega arith))
        (value_in s size) turn.words (view i h)

    value-agrees : word_in g size s (record_at table i) ≡ as_word (values i)
    value-agrees =
        word-agrees g (sort_at table) i (record_at table i) values (λ j (l : j < i). bits g size (record_at table) values view (agree g table view) j (omega arith))
        (value_in s size) turn.words (cell_in g size s)
        (λ m x (l : m < i). cells g size (record_at table) values view (agree g table view) i (omega arith) (formula_in s size) turn.records (value_in s size) turn.words
        size m x (omega arith) l)
        (view i h)
        ∙ sym (ap as_word (agree g table view i h))

    abbrev after : List ℕ
    after = stored s size i (word_in g size s (record_at table i))

    -- once its value is stored it is the next record's turn
    next-turn : 32 * size ≤ length s → Turn (suc i) after
    next-turn long = record { records = still; words = known }
      where
        still : (j : ℕ) → j < size → formula_in after size j ≡ record_at table j
        still j l = ap (λ (f : Formula). cond (ltb j size) f no_formula) (stored-records s size i (word_in g size s (record_at table i)) j l) ∙ turn.records j l

        known : (j : ℕ) → j < suc i → value_in after size j ≡ as_word (values j)
        known j l = elim (ℕ_discrete j i) [
          | yes e ↦
              ap (λ (k : ℕ). value_in after size k) e
              ∙ (chosen _ _ (lt-ltb i size h) ∙ (stored_there s size i (word_in g size s (record_at table i)) long h ∙ (value-agrees ∙ ap (λ (k : ℕ). as_word (values k)) (sym e))))
          | no e ↦
              ap (λ (w : ℕ). cond (ltb j size) w 0) (stored-elsewhere s size i (word_in g size s (record_at table i)) j e) ∙ turn.words j (omega arith)
        ]

  -- the turns one after the other
  turns : (s : List ℕ) → 32 * size ≤ length s → Turn 0 s → (i : ℕ) → i ≤ size → (length (turned g size i s) ≡ length s) × Turn i (turned g size i s)
  unfolding turned
  turns s long start zero l = (refl, start)
  turns s long start (suc i) l =
      let before = turns s long start i (omega arith) in
      let t = turned g size i s in
      let h : i < size = omega arith in
      let e : stored t size i (word_in g size t (formula_in t size i)) ≡ after t i h before.1 =
      ap (λ (f : Formula). stored t size i (word_in g size t f)) (before.1.records i h) in (
        stored-length t size i (word_in g size t (formula_in t size i)) ∙ before.0,
        subst (Turn (suc i)) (sym e) (next-turn t i h before.1 (omega (arith, before.0))),
      )

  found : (left i : ℕ) (s : List ℕ) → i + left ≡ size → 32 * size ≤ length s → Turn i s → false_from g size i left s ≡ first_false values i (drop i table)
  unfolding false_from first_false
  found zero i s e long turn = sym (ap (first_false values i) (drop_of_length-le table {i = i} (omega arith)))
  found (suc left) i s e long turn =
      let h : i < size = omega arith in
      let n = stored-length s size i (word_in g size s (record_at table i)) in
      ap (λ (f : Formula). cond (is_false (value_in s size) f.operation f.a) i (false_from g size (suc i) left (stored s size i (word_in g size s f)))) (turn.records i h)
      ∙ (ap₂ (λ (b : Bool) (k : ℕ). cond b i k) (test-agrees s i h turn)
      (found left (suc i) (after s i h turn) (omega arith) (omega arith) (next-turn s i h turn long))
      ∙ sym (ap (first_false values i) (drop-cons table i no_formula h)))

module _ (g : Assignment) (table : List Formula) (work : List ℕ) (few : length table ≤ 4294967296) (small : SmallChoices table)
    (formed : all_formed (λ i. 0) 0 table ≡ true) (fits : length (table_bytes table) ≤ length work) (long : 32 * length table ≤ length work) where
  abbrev bytes : List ℕ
  bytes = over (table_bytes table) work

  seen : (j : ℕ) → j < length table → View (sort_at table) j (record_at table j)
  seen j l = (views table formed j l).0

  begins : AtTurn g table 0 (formula_in bytes (length table)) (value_in bytes (length table))
  unfolding over
  begins =
      let parsed = table-parsed table (drop (length (table_bytes table)) work) (λ j (h : j < length table). (views table formed j h).1 (omega arith) (small j h)) in
      record {
        records = λ j (h : j < length table). chosen _ _ (lt-ltb j (length table) h) ∙ parsed j h;
        words = λ j (h : j < 0). absurd (omega arith);
      }

  room : 32 * length table ≤ length bytes
  room = omega (arith, length_over (table_bytes table) work fits)

  -- what stands in work memory at each turn
  pub at_turn : (i : ℕ) → i ≤ length table →
      AtTurn g table i (formula_in (turned g (length table) i bytes) (length table)) (value_in (turned g (length table) i bytes) (length table))
  at_turn i l = (turns g table seen bytes room begins i l).1

  -- the whole table
  pub evaluated : false_in g (length table) bytes ≡ first_false (values_of g table) 0 table
  unfolding false_in
  evaluated = passed _ _ (le-ltb (length bytes) (32 * length table) room) ∙ found g table seen (length table) 0 bytes (omega arith) room begins
