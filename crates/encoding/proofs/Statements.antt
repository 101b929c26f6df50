-- A step's values of statements: address, word loaded, CAS, result and tests. Assumes nothing.
use Prim.Native.Nat.{ℕ, ◌<◌}
use mathlib.Core.Path.{◌≡◌, refl, ◌∙◌}
use mathlib.Core.Bool.{Bool, true, false, cond, not, ◌&&◌, ◌||◌}
use mathlib.Core.List.{List}
use lib.Dec.{eqb}
use Rattle.base.specs.Words.{plus, minus, times, top_bit}
use Rattle.records.specs.Instructions.{ADD, ADDI, SUB, SUBI, MUL, MULI, JZ, JNZ, JS, JNS, JNZNS, CAS}
use Rattle.records.specs.Sets.{Set}
use Rattle.machine.specs.Machine.{State, load}
use Rattle.machine.specs.declared.Choice.{Choice}
use Rattle.machine.specs.declared.Thread.{Thread}
use Rattle.table.specs.Programs.{tree_value}
use Rattle.table.specs.Values.{Assignment, Value, bit, word, memory, as_bit, as_word, as_memory}
use Rattle.encoding.specs.Slots.{active, address, loaded, swaps, result, test, not_test, shared_memory, val, adr, mem, accu, full, bit_zero, word_zero, word_one, argument, Slot, slot, Term}
use Rattle.encoding.specs.Steps.{only, loads, is_conditional, load_tree, link}
use Rattle.encoding.proofs.Blocks.{links-none}
use Rattle.encoding.proofs.Rows.{result_of, test_of, not_test_of, target, loaded_of, match_of}
use Rattle.encoding.proofs.Stages.{Given, stage, was, since, settles}

pub word-cond : (b : Bool) (v u : ℕ) → cond b (word v) (word u) ≡ word (cond b v u)
word-cond true v u = refl
word-cond false v u = refl

pub bit-cond : (b v u : Bool) → cond b (bit v) (bit u) ≡ bit (cond b v u)
bit-cond true v u = refl
bit-cond false v u = refl

module _ (g : Assignment) (slots : Slot → Value) where
  words : (b : Bool) (u w : Term) (m n : ℕ) → tree_value g slots u ≡ word m → tree_value g slots w ≡ word n → tree_value g slots (cond b u w) ≡ word (cond b m n)
  words true u w m n p q = p
  words false u w m n p q = q

  pub tests : (b : Bool) (u w : Term) (m n : Bool) → tree_value g slots u ≡ bit m → tree_value g slots w ≡ bit n → tree_value g slots (cond b u w) ≡ bit (cond b m n)
  tests true u w m n p q = p
  tests false u w m n p q = q

module _ (S : Set) (cs : List ℕ) (g : Assignment) (k : ℕ) (slots : Slot → Value) (s : State) (c : Choice) (given : Given S cs g k slots s c) where
  abbrev at : ℕ → Slot → Value
  at = stage S cs g k slots

  module _ (t : ℕ) (ht : t < S.threads) where
    abbrev x : Thread
    x = s.threads t

    abbrev cells : ℕ → ℕ
    cells = s.memory

    load_value : (v : Slot → Value) → v (slot full t 0) ≡ bit x.full → v (slot adr t 0) ≡ word x.adr → v (slot val t 0) ≡ word x.val → v (only shared_memory) ≡ memory cells
        → (a : Slot) (n : ℕ) → v a ≡ word n → tree_value g v (load_tree S cs k t a) ≡ word (load x cells n)
    load_value v full_is adr_is val_is memory_is a n e =
        (λ z. cond (as_bit (full_is z) && eqb (as_word (adr_is z)) (as_word (e z))) (val_is z) (word (as_memory (memory_is z) (as_word (e z)))))
        ∙ word-cond (x.full && eqb x.adr n) x.val (cells n)

    -- of statement i
    module _ (i : ℕ) (hi : i < S.count t) where
      abbrev n : ℕ
      n = (S.statement t i).number

      abbrev r : ℕ
      r = (S.statement t i).argument

      abbrev pub target_at : ℕ
      target_at = target (S.statement t i).mode r cells x

      abbrev pub loaded_at : ℕ
      loaded_at = loaded_of (S.statement t i).mode r cells x n

      abbrev pub swaps_at : Bool
      swaps_at = cond (eqb n CAS) ((eqb x.pc i && g.choice k 0 t) && match_of (S.statement t i).mode r cells x) false

      pub address-value : at 1 (slot address t i) ≡ word target_at
      address-value =
          let ready = given.ready in
          let argument_is : at 0 (slot argument t i) ≡ word r = was S cs g k slots argument t i 0 refl ∙ ready.constants.argument_is t i ht hi in
          settles S cs g k slots 0 address refl t i ht hi refl refl ∙ (links-none (at 0) (link S cs k address t i) _
          ∙ words g (at 0) (eqb (S.statement t i).mode 1) _ _ _ _
          (load_value (at 0) (was S cs g k slots full t 0 0 refl ∙ ready.shows.full_is t ht) (was S cs g k slots adr t 0 0 refl ∙ ready.shows.adr_is t ht)
          (was S cs g k slots val t 0 0 refl ∙ ready.shows.val_is t ht) (was S cs g k slots shared_memory 0 0 0 refl ∙ ready.shows.memory_is) (slot argument t i) r argument_is)
          argument_is)

      pub loaded_value : at 2 (slot loaded t i) ≡ word loaded_at
      loaded_value =
          let ready = given.ready in
          settles S cs g k slots 1 loaded refl t i ht hi refl refl ∙ (links-none (at 1) (link S cs k loaded t i) _
          ∙ words g (at 1) (loads n) _ _ _ _
          (load_value (at 1) (was S cs g k slots full t 0 1 refl ∙ ready.shows.full_is t ht) (was S cs g k slots adr t 0 1 refl ∙ ready.shows.adr_is t ht)
          (was S cs g k slots val t 0 1 refl ∙ ready.shows.val_is t ht) (was S cs g k slots shared_memory 0 0 1 refl ∙ ready.shows.memory_is) (slot address t i) target_at address-value)
          (was S cs g k slots word_zero 0 0 1 refl ∙ ready.constants.word_zero_is))

      pub swaps_value : at 3 (slot swaps t i) ≡ bit swaps_at
      swaps_value =
          let ready = given.ready in
          let active_is : at 2 (slot active t i) ≡ bit (eqb x.pc i && g.choice k 0 t) = was S cs g k slots active t i 2 refl ∙ ready.active_is t i ht hi in
          let memory_is : at 2 (only shared_memory) ≡ memory cells = was S cs g k slots shared_memory 0 0 2 refl ∙ ready.shows.memory_is in
          let address_is : at 2 (slot address t i) ≡ word target_at = since S cs g k slots address t i 1 2 refl ∙ address-value in
          let mem_is : at 2 (slot mem t 0) ≡ word x.mem = was S cs g k slots mem t 0 2 refl ∙ ready.shows.mem_is t ht in
          settles S cs g k slots 2 swaps refl t i ht hi refl refl ∙ (links-none (at 2) (link S cs k swaps t i) _
          ∙ tests g (at 2) (eqb n CAS) _ _ _ _
          (λ z. bit (as_bit (active_is z) && eqb (as_memory (memory_is z) (as_word (address_is z))) (as_word (mem_is z))))
          (was S cs g k slots bit_zero 0 0 2 refl ∙ ready.constants.no_is))

      pub result_value : at 4 (slot result t i) ≡ word (result_of n x.accu loaded_at r swaps_at)
      result_value =
          let ready = given.ready in
          let accu_is : at 3 (slot accu t 0) ≡ word x.accu = was S cs g k slots accu t 0 3 refl ∙ ready.shows.accu_is t ht in
          let loaded_is : at 3 (slot loaded t i) ≡ word loaded_at = since S cs g k slots loaded t i 2 3 refl ∙ loaded_value in
          let argument_is : at 3 (slot argument t i) ≡ word r = was S cs g k slots argument t i 3 refl ∙ ready.constants.argument_is t i ht hi in
          let unit_is : at 3 (only word_one) ≡ word 1 = was S cs g k slots word_one 0 0 3 refl ∙ ready.constants.unit_is in
          let word_zero_is : at 3 (only word_zero) ≡ word 0 = was S cs g k slots word_zero 0 0 3 refl ∙ ready.constants.word_zero_is in
          settles S cs g k slots 3 result refl t i ht hi refl refl ∙ (links-none (at 3) (link S cs k result t i) _
          ∙ words g (at 3) (eqb n ADD) _ _ _ _ (λ z. word (plus (as_word (accu_is z)) (as_word (loaded_is z))))
          (words g (at 3) (eqb n ADDI) _ _ _ _ (λ z. word (plus (as_word (accu_is z)) (as_word (argument_is z))))
          (words g (at 3) (eqb n SUB) _ _ _ _ (λ z. word (minus (as_word (accu_is z)) (as_word (loaded_is z))))
          (words g (at 3) (eqb n SUBI) _ _ _ _ (λ z. word (minus (as_word (accu_is z)) (as_word (argument_is z))))
          (words g (at 3) (eqb n MUL) _ _ _ _ (λ z. word (times (as_word (accu_is z)) (as_word (loaded_is z))))
          (words g (at 3) (eqb n MULI) _ _ _ _ (λ z. word (times (as_word (accu_is z)) (as_word (argument_is z))))
          (words g (at 3) (eqb n CAS) _ _ _ _ ((λ z. cond (as_bit (swaps_value z)) (unit_is z) (word_zero_is z)) ∙ word-cond swaps_at 1 0) loaded_is)))))))

      pub test-value : at 5 (slot test t i) ≡ bit (test_of n x.accu)
      test-value =
          let ready = given.ready in
          let accu_is : at 4 (slot accu t 0) ≡ word x.accu = was S cs g k slots accu t 0 4 refl ∙ ready.shows.accu_is t ht in
          let word_zero_is : at 4 (only word_zero) ≡ word 0 = was S cs g k slots word_zero 0 0 4 refl ∙ ready.constants.word_zero_is in
          settles S cs g k slots 4 test refl t i ht hi refl refl ∙ (links-none (at 4) (link S cs k test t i) _
          ∙ tests g (at 4) (eqb n JZ || eqb n JNZ) _ _ _ _ (λ z. bit (eqb (as_word (accu_is z)) (as_word (word_zero_is z))))
          (tests g (at 4) (eqb n JS || eqb n JNS) _ _ _ _ (λ z. bit (top_bit (as_word (accu_is z))))
          (tests g (at 4) (eqb n JNZNS) _ _ _ _ (λ z. bit (top_bit (as_word (accu_is z)) || eqb (as_word (accu_is z)) (as_word (word_zero_is z))))
          (was S cs g k slots bit_zero 0 0 4 refl ∙ ready.constants.no_is))))

      pub not-test-value : at 6 (slot not_test t i) ≡ bit (not_test_of n x.accu)
      not-test-value =
          settles S cs g k slots 5 not_test refl t i ht hi refl refl ∙ (links-none (at 5) (link S cs k not_test t i) _
          ∙ tests g (at 5) (is_conditional n) _ _ _ _ (λ z. bit (not (as_bit (test-value z))))
          (was S cs g k slots bit_zero 0 0 5 refl ∙ given.ready.constants.no_is))
