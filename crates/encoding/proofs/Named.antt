-- Which slots of its own kind a tree names: its own alone, or those before it; so what a kind's slots are after its block. Assumes nothing.
use Prim.Native.Nat.{ℕ, suc, ◌-◌, ◌<◌}
use mathlib.Core.Path.{◌≡◌, refl}
use mathlib.Core.Bool.{Bool, true, false, cond, ◌&&◌}
use mathlib.Core.List.{List}
use native.Mathlib.Omega.{arith}
use borrow.Author.Tests.{lt-ltb, eqb-false, eq-eqb}
use lib.Dec.{eqb, ltb}
use Rattle.base.proofs.Choice.{and_true, clash, cond_both}
use Rattle.records.specs.Instructions.{STORE, MEM, CAS, HALT, EXIT, CHECK}
use Rattle.records.specs.Sets.{Set}
use Rattle.machine.specs.Machine.{needs_empty}
use Rattle.table.specs.Formulas.{bit_sort, word_sort}
use Rattle.table.specs.Programs.{ref, unary, binary, not1, and2, equal2, read2, tree_value}
use Rattle.table.specs.Values.{Assignment, Value}
use Rattle.encoding.specs.Slots.{Kind, choice, active, opening, shut, barred, held, waits, may_execute, none, permitted_first, one_permitted, address, loaded, swaps, result, test, not_test, flush_to, write_to, flush_value, write_value, raised, exits, codes, shared_memory, val, adr, mem, accu, full, halted, flag, mark, halts, ended, code, bit_zero, bit_one, word_zero, word_one, argument, Slot, slot, Term}
use Rattle.encoding.specs.Steps.{Link, skip, if_then, and_with, or_with, only, word0, shape, loads, sets_accu, is_conditional, is_one_way, is_plain, rests, number_of, argument_of, checkpoint, has, load_tree, result_tree, test_tree, base, leads, links, link, tree, rows, columns, kept, indirect_tree, none_tree, leaving_tree}
use Rattle.encoding.proofs.Blocks.{refs, refs-both, link_refs, chain-refs, own, earlier, after_block, settled, scanned}
use Rattle.encoding.proofs.Results.{result_each, test-each}

-- kinds whose trees name the slot before theirs
abbrev pub scans : Kind → Bool
scans choice = false
scans active = false
scans opening = false
scans shut = false
scans barred = false
scans held = false
scans waits = false
scans may_execute = false
scans none = true
scans permitted_first = false
scans one_permitted = false
scans address = false
scans loaded = false
scans swaps = false
scans result = false
scans test = false
scans not_test = false
scans flush_to = false
scans write_to = true
scans flush_value = false
scans write_value = true
scans raised = false
scans exits = true
scans codes = true
scans shared_memory = false
scans val = false
scans adr = false
scans mem = false
scans accu = false
scans full = false
scans halted = false
scans flag = false
scans mark = false
scans halts = false
scans ended = false
scans code = false
scans bit_zero = false
scans bit_one = false
scans word_zero = false
scans word_one = false
scans argument = false

module _ (test : Slot → Bool) (b : Bool) where
  link-both : (l m : Link) → link_refs test l ≡ true → link_refs test m ≡ true → link_refs test (cond b l m) ≡ true
  link-both l m = cond_both (λ (l : Link). link_refs test l ≡ true) b {x = l} {y = m}

  slot-both : (x y : Slot) → test x ≡ true → test y ≡ true → test (cond b x y) ≡ true
  slot-both x y = cond_both (λ (x : Slot). test x ≡ true) b {x = x} {y = y}

-- its own slot: of a statement, of a thread, of all
at_own : (a b : ℕ) → (eqb a a && eqb b b) ≡ true
at_own a b = and_true (eq-eqb a a refl) (eq-eqb b b refl)

at_row : (a b : ℕ) → b < 1 → (eqb a a && eqb 0 b) ≡ true
at_row a b h = and_true (eq-eqb a a refl) (eq-eqb 0 b (omega arith))

at_first : (a b : ℕ) → a < 1 → b < 1 → (eqb 0 a && eqb 0 b) ≡ true
at_first a b h l = and_true (eq-eqb 0 a (omega arith)) (eq-eqb 0 b (omega arith))

-- the first has its own base, the others name the one before
first_or_not : (a b : ℕ) → a < 1 → (P : Bool → Type 0) → P true → ((eqb 0 a && ltb (b - 1) b) ≡ true → P false) → P (eqb b 0)
first_or_not a b h P p q = go (eqb b 0) refl
  where
    go : (t : Bool) → eqb b 0 ≡ t → P t
    go true e = p
    go false e = let far = eqb-false b 0 e in q (and_true (eq-eqb 0 a (omega arith)) (lt-ltb (b - 1) b (omega arith)))

module _ (S : Set) (cs : List ℕ) (k : ℕ) where
  leads-own : (t j i : ℕ) → link_refs (own flag t j) (leads S cs k t j i) ≡ true
  leads-own t j i =
      let n = number_of S cs k t i in
      let target = argument_of S cs k t i in
      let on = slot active t i in
      let always = if_then bit_sort on (only bit_one) in
      let taken = if_then bit_sort on (slot (cond (is_plain n) test not_test) t i) in
      let missed = if_then bit_sort on (slot (cond (is_plain n) not_test test) t i) in
      let jump = cond (eqb target j) always skip in
      let miss = cond (eqb (suc i) j) missed skip in
      let both = cond (eqb target j) taken miss in
      let next = cond (eqb (suc i) j) always skip in
      let rest = cond (is_conditional n) both next in
      link-both (own flag t j) (rests n) skip (cond (is_one_way n target i) jump rest) refl
      (link-both (own flag t j) (is_one_way n target i) jump rest (link-both (own flag t j) (eqb target j) always skip refl refl)
      (link-both (own flag t j) (is_conditional n) both next
      (link-both (own flag t j) (eqb target j) taken miss (named (is_plain n) test not_test refl refl)
      (link-both (own flag t j) (eqb (suc i) j) missed skip (named (is_plain n) not_test test refl refl) refl))
      (link-both (own flag t j) (eqb (suc i) j) always skip refl refl)))
    where
      named : (b : Bool) (l m : Kind) → own flag t j (slot l t i) ≡ true → own flag t j (slot m t i) ≡ true → own flag t j (slot (cond b l m) t i) ≡ true
      named b l m = cond_both (λ (l : Kind). own flag t j (slot l t i) ≡ true) b {x = l} {y = m}

  result_own : (n t i : ℕ) → refs (own result t i) (result_tree S cs k n t i) ≡ true
  result_own n t i = result_each S cs k (λ (u : Term). refs (own result t i) u ≡ true) n t i (λ o. refl) (λ o. refl) refl refl

  test-own : (n t i : ℕ) → refs (own test t i) (test_tree S cs k n t) ≡ true
  test-own n t i = test-each S cs k (λ (u : Term). refs (own test t i) u ≡ true) n t refl refl refl refl

  -- the base of a kind that is not scanned, and its links, name of their own kind their own slot alone
  base-own : (kind : Kind) → scans kind ≡ false → (a b : ℕ) → a < rows S cs k (shape kind) → b < columns S cs k (shape kind) a → refs (own kind a b) (base S cs k kind a b) ≡ true
  base-own choice e a b ha hb = refl
  base-own active e a b ha hb = refl
  base-own opening e a b ha hb = refl
  base-own shut e a b ha hb = refl
  base-own barred e a b ha hb = refl
  base-own held e a b ha hb = refl
  base-own waits e a b ha hb = refl
  base-own may_execute e a b ha hb = refl
  base-own none e a b ha hb = clash refl e
  base-own permitted_first e a b ha hb = (and_true (slot-both (own permitted_first a b) (ltb b S.threads) (slot may_execute b 0) (slot full (b - S.threads) 0) refl refl) refl)
  base-own one_permitted e a b ha hb = refl
  base-own address e a b ha hb = (refs-both (own address a b) (eqb (S.statement a b).mode 1) (indirect_tree S cs k a b) (ref (slot argument a b)) refl refl)
  base-own loaded e a b ha hb = (refs-both (own loaded a b) (loads (number_of S cs k a b)) (load_tree S cs k a (slot address a b)) (ref word0) refl refl)
  base-own swaps e a b ha hb = (refs-both (own swaps a b) (eqb (number_of S cs k a b) CAS) (binary and2 (ref (slot active a b)) (binary equal2 (binary read2 (ref (only shared_memory)) (ref (slot address a b))) (ref (slot mem a 0)))) (ref (only bit_zero)) refl refl)
  base-own result e a b ha hb = (result_own (number_of S cs k a b) a b)
  base-own test e a b ha hb = (test-own (number_of S cs k a b) a b)
  base-own not_test e a b ha hb = (refs-both (own not_test a b) (is_conditional (number_of S cs k a b)) (unary not1 (ref (slot test a b))) (ref (only bit_zero)) refl refl)
  base-own flush_to e a b ha hb = refl
  base-own write_to e a b ha hb = clash refl e
  base-own flush_value e a b ha hb = refl
  base-own write_value e a b ha hb = clash refl e
  base-own raised e a b ha hb = refl
  base-own exits e a b ha hb = clash refl e
  base-own codes e a b ha hb = clash refl e
  base-own shared_memory e a b ha hb = (and_true (at_first a b ha hb) refl)
  base-own val e a b ha hb = (at_row a b hb)
  base-own adr e a b ha hb = (at_row a b hb)
  base-own mem e a b ha hb = (at_row a b hb)
  base-own accu e a b ha hb = (at_row a b hb)
  base-own full e a b ha hb = (at_row a b hb)
  base-own halted e a b ha hb = (at_row a b hb)
  base-own flag e a b ha hb = (refs-both (own flag a b) (rests (number_of S cs k a b)) (ref (slot flag a b)) (leaving_tree S cs k a b) (at_own a b) (at_own a b))
  base-own mark e a b ha hb = refl
  base-own halts e a b ha hb = refl
  base-own ended e a b ha hb = refl
  base-own code e a b ha hb = refl
  base-own bit_zero e a b ha hb = (at_first a b ha hb)
  base-own bit_one e a b ha hb = (at_first a b ha hb)
  base-own word_zero e a b ha hb = (at_first a b ha hb)
  base-own word_one e a b ha hb = refl
  base-own argument e a b ha hb = refl

  link-own : (kind : Kind) → scans kind ≡ false → (a b i : ℕ) → link_refs (own kind a b) (link S cs k kind a b i) ≡ true
  link-own choice e a b i = refl
  link-own active e a b i = refl
  link-own opening e a b i = link-both (own opening a b) (has S cs k i b) (and_with (slot mark i b)) skip refl refl
  link-own shut e a b i = refl
  link-own barred e a b i = link-both (own barred a b) (needs_empty (number_of S cs k a i)) (if_then bit_sort (slot active a i) (only bit_one)) skip refl refl
  link-own held e a b i = refl
  link-own waits e a b i = link-both (own waits a b) (has S cs k a i) (or_with (slot held a i)) skip refl refl
  link-own may_execute e a b i = refl
  link-own none e a b i = clash refl e
  link-own permitted_first e a b i = refl
  link-own one_permitted e a b i = refl
  link-own address e a b i = refl
  link-own loaded e a b i = refl
  link-own swaps e a b i = refl
  link-own result e a b i = refl
  link-own test e a b i = refl
  link-own not_test e a b i = refl
  link-own flush_to e a b i = refl
  link-own write_to e a b i = clash refl e
  link-own flush_value e a b i = refl
  link-own write_value e a b i = clash refl e
  link-own raised e a b i = link-both (own raised a b) (eqb (number_of S cs k a i) CHECK && eqb (argument_of S cs k a i) (checkpoint S cs k b)) (if_then bit_sort (slot active a i) (only bit_one)) skip refl refl
  link-own exits e a b i = clash refl e
  link-own codes e a b i = clash refl e
  link-own shared_memory e a b i = refl
  link-own val e a b i = link-both (own val a b) (eqb (number_of S cs k a i) STORE) (if_then word_sort (slot active a i) (slot accu a 0)) skip refl refl
  link-own adr e a b i = link-both (own adr a b) (eqb (number_of S cs k a i) STORE) (if_then word_sort (slot active a i) (slot address a i)) skip refl refl
  link-own mem e a b i = link-both (own mem a b) (eqb (number_of S cs k a i) MEM) (if_then word_sort (slot active a i) (slot loaded a i)) skip refl refl
  link-own accu e a b i = link-both (own accu a b) (sets_accu (number_of S cs k a i)) (if_then word_sort (slot active a i) (slot result a i)) skip refl refl
  link-own full e a b i = link-both (own full a b) (eqb (number_of S cs k a i) STORE) (if_then bit_sort (slot active a i) (only bit_one)) skip refl refl
  link-own halted e a b i = link-both (own halted a b) (eqb (number_of S cs k a i) HALT) (if_then bit_sort (slot active a i) (only bit_one)) skip refl refl
  link-own flag e a b i = leads-own a b i
  link-own mark e a b i = refl
  link-own halts e a b i = refl
  link-own ended e a b i = refl
  link-own code e a b i = refl
  link-own bit_zero e a b i = refl
  link-own bit_one e a b i = refl
  link-own word_zero e a b i = refl
  link-own word_one e a b i = refl
  link-own argument e a b i = refl

  pub names_own : (kind : Kind) → scans kind ≡ false → (a b : ℕ) → a < rows S cs k (shape kind) → b < columns S cs k (shape kind) a → refs (own kind a b) (tree S cs k kind a b) ≡ true
  names_own kind e a b ha hb =
      chain-refs (own kind a b) (link S cs k kind a b) (links S cs k kind a b) (base S cs k kind a b) (base-own kind e a b ha hb) (λ i l. link-own kind e a b i)

  -- those of a scanned kind name of it slots before their own alone
  base-earlier : (kind : Kind) → scans kind ≡ true → (a b : ℕ) → a < rows S cs k (shape kind) → refs (earlier kind a b) (base S cs k kind a b) ≡ true
  base-earlier choice e a b ha = clash e refl
  base-earlier active e a b ha = clash e refl
  base-earlier opening e a b ha = clash e refl
  base-earlier shut e a b ha = clash e refl
  base-earlier barred e a b ha = clash e refl
  base-earlier held e a b ha = clash e refl
  base-earlier waits e a b ha = clash e refl
  base-earlier may_execute e a b ha = clash e refl
  base-earlier none e a b ha = (first_or_not a b ha (λ t. refs (earlier none a b) (cond t (ref (only bit_one)) (none_tree S cs k b)) ≡ true) refl (λ p. p))
  base-earlier permitted_first e a b ha = clash e refl
  base-earlier one_permitted e a b ha = clash e refl
  base-earlier address e a b ha = clash e refl
  base-earlier loaded e a b ha = clash e refl
  base-earlier swaps e a b ha = clash e refl
  base-earlier result e a b ha = clash e refl
  base-earlier test e a b ha = clash e refl
  base-earlier not_test e a b ha = clash e refl
  base-earlier flush_to e a b ha = clash e refl
  base-earlier write_to e a b ha = (first_or_not a b ha (λ t. earlier write_to a b (cond t (only flush_to) (slot write_to 0 (b - 1))) ≡ true) refl (λ p. p))
  base-earlier flush_value e a b ha = clash e refl
  base-earlier write_value e a b ha = (first_or_not a b ha (λ t. earlier write_value a b (cond t (only flush_value) (slot write_value 0 (b - 1))) ≡ true) refl (λ p. p))
  base-earlier raised e a b ha = clash e refl
  base-earlier exits e a b ha = (first_or_not a b ha (λ t. earlier exits a b (cond t (only ended) (slot exits 0 (b - 1))) ≡ true) refl (λ p. p))
  base-earlier codes e a b ha = (first_or_not a b ha (λ t. earlier codes a b (cond t (only code) (slot codes 0 (b - 1))) ≡ true) refl (λ p. p))
  base-earlier shared_memory e a b ha = clash e refl
  base-earlier val e a b ha = clash e refl
  base-earlier adr e a b ha = clash e refl
  base-earlier mem e a b ha = clash e refl
  base-earlier accu e a b ha = clash e refl
  base-earlier full e a b ha = clash e refl
  base-earlier halted e a b ha = clash e refl
  base-earlier flag e a b ha = clash e refl
  base-earlier mark e a b ha = clash e refl
  base-earlier halts e a b ha = clash e refl
  base-earlier ended e a b ha = clash e refl
  base-earlier code e a b ha = clash e refl
  base-earlier bit_zero e a b ha = clash e refl
  base-earlier bit_one e a b ha = clash e refl
  base-earlier word_zero e a b ha = clash e refl
  base-earlier word_one e a b ha = clash e refl
  base-earlier argument e a b ha = clash e refl

  link-earlier : (kind : Kind) → scans kind ≡ true → (a b i : ℕ) → link_refs (earlier kind a b) (link S cs k kind a b i) ≡ true
  link-earlier choice e a b i = clash e refl
  link-earlier active e a b i = clash e refl
  link-earlier opening e a b i = clash e refl
  link-earlier shut e a b i = clash e refl
  link-earlier barred e a b i = clash e refl
  link-earlier held e a b i = clash e refl
  link-earlier waits e a b i = clash e refl
  link-earlier may_execute e a b i = clash e refl
  link-earlier none e a b i = refl
  link-earlier permitted_first e a b i = clash e refl
  link-earlier one_permitted e a b i = clash e refl
  link-earlier address e a b i = clash e refl
  link-earlier loaded e a b i = clash e refl
  link-earlier swaps e a b i = clash e refl
  link-earlier result e a b i = clash e refl
  link-earlier test e a b i = clash e refl
  link-earlier not_test e a b i = clash e refl
  link-earlier flush_to e a b i = clash e refl
  link-earlier write_to e a b i = link-both (earlier write_to a b) (eqb (number_of S cs k (b - 1) i) CAS) (if_then word_sort (slot swaps (b - 1) i) (slot address (b - 1) i)) skip refl refl
  link-earlier flush_value e a b i = clash e refl
  link-earlier write_value e a b i = link-both (earlier write_value a b) (eqb (number_of S cs k (b - 1) i) CAS) (if_then word_sort (slot swaps (b - 1) i) (slot accu (b - 1) 0)) skip refl refl
  link-earlier raised e a b i = clash e refl
  link-earlier exits e a b i = link-both (earlier exits a b) (eqb (number_of S cs k (b - 1) i) EXIT) (if_then bit_sort (slot active (b - 1) i) (only bit_one)) skip refl refl
  link-earlier codes e a b i = link-both (earlier codes a b) (eqb (number_of S cs k (b - 1) i) EXIT) (if_then word_sort (slot active (b - 1) i) (slot argument (b - 1) i)) skip refl refl
  link-earlier shared_memory e a b i = clash e refl
  link-earlier val e a b i = clash e refl
  link-earlier adr e a b i = clash e refl
  link-earlier mem e a b i = clash e refl
  link-earlier accu e a b i = clash e refl
  link-earlier full e a b i = clash e refl
  link-earlier halted e a b i = clash e refl
  link-earlier flag e a b i = clash e refl
  link-earlier mark e a b i = clash e refl
  link-earlier halts e a b i = clash e refl
  link-earlier ended e a b i = clash e refl
  link-earlier code e a b i = clash e refl
  link-earlier bit_zero e a b i = clash e refl
  link-earlier bit_one e a b i = clash e refl
  link-earlier word_zero e a b i = clash e refl
  link-earlier word_one e a b i = clash e refl
  link-earlier argument e a b i = clash e refl

  pub names_earlier : (kind : Kind) → scans kind ≡ true → (a b : ℕ) → a < rows S cs k (shape kind) → b < columns S cs k (shape kind) a → refs (earlier kind a b) (tree S cs k kind a b) ≡ true
  names_earlier kind e a b ha hb =
      chain-refs (earlier kind a b) (link S cs k kind a b) (links S cs k kind a b) (base S cs k kind a b) (base-earlier kind e a b ha) (λ i l. link-earlier kind e a b i)

  module _ (g : Assignment) (kind : Kind) (slots : Slot → Value) (a b : ℕ) (ha : a < rows S cs k (shape kind)) (hb : b < columns S cs k (shape kind) a) (e : kept S cs k (shape kind) a b ≡ true) where
    pub settled_at : scans kind ≡ false → after_block g S cs k kind slots (slot kind a b) ≡ tree_value g slots (tree S cs k kind a b)
    settled_at p = settled g S cs k kind slots a b ha hb e (names_own kind p a b ha hb)

    pub scanned_at : scans kind ≡ true → after_block g S cs k kind slots (slot kind a b) ≡ tree_value g (after_block g S cs k kind slots) (tree S cs k kind a b)
    scanned_at p = scanned g S cs k kind slots a b ha hb e (names_earlier kind p a b ha hb)
