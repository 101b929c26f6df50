-- The memories of the table of a set, a map and a bound: first memory and a write for each step, and no read follows the last. Assumes nothing.
use Prim.Native.Nat.{ℕ, zero, suc, ◌+◌, ◌-◌, ◌≤◌, ◌<◌}
use mathlib.Core.Path.{◌≡◌, refl, ap, sym, ◌∙◌}
use mathlib.Core.Bool.{Bool, true, false, not, cond, ◌||◌}
use mathlib.Core.List.{List, [], ◌∷◌, ◌++◌, append_assoc}
use native.Mathlib.Omega.{arith}
use native.Mathlib.Decide.{ℕ_discrete}
use borrow.Author.Tests.{eq-eqb, eqb-true, ne_eqb, not-true}
use lib.Dec.{eqb, ltb}
use Rattle.base.specs.Below.{every, number}
use Rattle.base.proofs.Below.{every-at, number-all}
use Rattle.base.proofs.Choice.{chosen, passed, either, cond_both}
use Rattle.records.specs.Instructions.{ADD, ADDI, SUB, SUBI, MUL, MULI, JZ, JNZ, JS, JNS, JNZNS, CAS}
use Rattle.records.specs.Maps.{cells}
use Rattle.records.specs.Sets.{Set, set_of}
use Rattle.table.specs.declared.Formula.{Formula}
use Rattle.table.specs.Formulas.{memory_sort, READ}
use Rattle.table.specs.Programs.{Leaf, choice_bit, leaf, sets, needs, aims, Command, upto, next_after, places_after, compiled}
use Rattle.table.proofs.Passing.{passing, Steady, tree_passing, program_passing, program-++, program-upto, program-none, program-compiled}
use Rattle.table.proofs.Sequences.{upto-last, upto-more, compiled-++}
use Rattle.encoding.specs.Checkpoints.{checkpoints}
use Rattle.encoding.specs.Slots.{Kind, choice, active, opening, shut, barred, held, waits, may_execute, none, permitted_first, one_permitted, address, loaded, swaps, result, test, not_test, flush_to, write_to, flush_value, write_value, raised, exits, codes, shared_memory, val, adr, mem, accu, full, halted, flag, mark, halts, ended, code, bit_zero, bit_one, word_zero, word_one, argument, Slot, slot, same, Term, kinds, kind_at, kind_number, kind_count, kind_sort, start_place}
use Rattle.encoding.specs.Steps.{Link, skip, if_then, and_with, or_with, linked, chain, loads, is_conditional, rests, shape, base, result_tree, test_tree, link, links, tree, kept, entry, line, block, rows, columns, ruled, blocks, step}
use Rattle.encoding.specs.Encodings.{map_demand, goal_tree, starting, program, firsts, encoded, table_of}
use Rattle.encoding.proofs.KindNumbers.{kind_at_lem}
use Rattle.encoding.proofs.Sorts.{LinkFits, link_fits}

abbrev pub is_memory : Formula → Bool
is_memory f = eqb f.sort memory_sort

abbrev pub is_read : Formula → Bool
is_read f = eqb f.operation READ

memory-steady : Steady is_memory
memory-steady = record {
  unary_steady = λ o x. refl;
  binary_steady = λ o x y. refl;
  ternary_steady = λ o x y z. refl;
  no_constraint = λ x. refl;
  no_goal = λ x. refl;
}

read-steady : Steady is_read
read-steady = record {
  unary_steady = λ o x. refl;
  binary_steady = λ o x y. refl;
  ternary_steady = λ o x y z. refl;
  no_constraint = λ x. refl;
  no_goal = λ x. refl;
}

-- a kind of memories: there is one
abbrev of_memories : Kind → Bool
of_memories kind = eqb (kind_sort kind) memory_sort

all_kinds : every kind_count (λ m. eqb m (kind_number shared_memory) || not (of_memories (kind_at m))) ≡ true
unfolding kinds every
all_kinds = refl

other_kind : (m : ℕ) → m < kind_count → (m ≡ kind_number shared_memory → ⊥) → of_memories (kind_at m) ≡ false
other_kind m h differs =
    either (eqb m (kind_number shared_memory)) (not (of_memories (kind_at m)))
    (every-at (λ m. eqb m (kind_number shared_memory) || not (of_memories (kind_at m))) kind_count m all_kinds h)
    (λ e. absurd (differs (eqb-true m (kind_number shared_memory) e))) (λ e. not-true (of_memories (kind_at m)) e)

-- no reads, and none after them
nothing : program_passing is_read {Slot = Slot} [] ≡ 0
unfolding program_passing
nothing = refl

then : (P Q : List (Command Slot)) → program_passing is_read P ≡ 0 → program_passing is_read Q ≡ 0 → program_passing is_read (P ++ Q) ≡ 0
then P Q p q = let r = program-++ is_read P Q in omega arith

-- ---- memories of a tree

abbrev memories : Term → ℕ
memories t = tree_passing is_memory t

either-none : (b : Bool) (x y : Term) → memories x ≡ 0 → memories y ≡ 0 → memories (cond b x y) ≡ 0
either-none b x y p q = cond_both (λ (t : Term). memories t ≡ 0) b {x = x} {y = y} p q

leaf-none : (b : Bool) (x y : Leaf) → memories (leaf x) ≡ 0 → memories (leaf y) ≡ 0 → memories (leaf (cond b x y)) ≡ 0
leaf-none b x y p q = cond_both (λ (l : Leaf). memories (leaf l) ≡ 0) b {x = x} {y = y} p q

module _ (S : Set) (cs : List ℕ) (k : ℕ) where
  result_none : (n t i : ℕ) → memories (result_tree S cs k n t i) ≡ 0
  result_none n t i =
      either-none (eqb n ADD) _ _ refl (either-none (eqb n ADDI) _ _ refl (either-none (eqb n SUB) _ _ refl (either-none (eqb n SUBI) _ _ refl
      (either-none (eqb n MUL) _ _ refl (either-none (eqb n MULI) _ _ refl (either-none (eqb n CAS) _ _ refl refl))))))

  test-none : (n t : ℕ) → memories (test_tree S cs k n t) ≡ 0
  test-none n t =
      either-none (eqb n JZ || eqb n JNZ) _ _ refl (either-none (eqb n JS || eqb n JNS) _ _ refl (either-none (eqb n JNZNS) _ _ refl refl))

  base-memories : (kind : Kind) (a b : ℕ) → memories (base S cs k kind a b) ≡ cond (of_memories kind) 1 0
  base-memories choice a j = leaf-none (ltb j S.threads) (choice_bit k 0 j) (choice_bit k 1 (j - S.threads)) refl refl
  base-memories active a b = refl
  base-memories opening a b = refl
  base-memories shut a b = refl
  base-memories barred a b = refl
  base-memories held a b = refl
  base-memories waits a b = refl
  base-memories may_execute a b = refl
  base-memories none a j = either-none (eqb j 0) _ _ refl refl
  base-memories permitted_first a b = refl
  base-memories one_permitted a b = refl
  base-memories address t i = either-none (eqb (S.statement t i).mode 1) _ _ refl refl
  base-memories loaded t i = either-none (loads (S.statement t i).number) _ _ refl refl
  base-memories swaps t i = either-none (eqb (S.statement t i).number CAS) _ _ refl refl
  base-memories result t i = result_none (S.statement t i).number t i
  base-memories test t i = test-none (S.statement t i).number t
  base-memories not_test t i = either-none (is_conditional (S.statement t i).number) _ _ refl refl
  base-memories flush_to a b = refl
  base-memories write_to a b = refl
  base-memories flush_value a b = refl
  base-memories write_value a b = refl
  base-memories raised a b = refl
  base-memories exits a b = refl
  base-memories codes a b = refl
  base-memories shared_memory a b = refl
  base-memories val a b = refl
  base-memories adr a b = refl
  base-memories mem a b = refl
  base-memories accu a b = refl
  base-memories full a b = refl
  base-memories halted a b = refl
  base-memories flag t j = either-none (rests (S.statement t j).number) _ _ refl refl
  base-memories mark a b = refl
  base-memories halts a b = refl
  base-memories ended a b = refl
  base-memories code a b = refl
  base-memories bit_zero a b = refl
  base-memories bit_one a b = refl
  base-memories word_zero a b = refl
  base-memories word_one a b = refl
  base-memories argument a b = refl

  -- links are of no memory: their sort is that of their kind
  linked-memories : (l : Link) (v : Term) (sort : ℕ) → LinkFits l sort → eqb sort memory_sort ≡ false → memories (linked l v) ≡ memories v
  linked-memories skip v sort h e = refl
  linked-memories (if_then own x y) v sort h e =
      let p = passed {A = ℕ} 1 0 (ap (λ (o : ℕ). eqb o memory_sort) (sym h.0) ∙ e) in
      omega arith
  linked-memories (and_with s) v sort h e = omega arith
  linked-memories (or_with s) v sort h e = omega arith

  chain-memories : (link : ℕ → Link) (n : ℕ) (v : Term) (sort : ℕ) → ((i : ℕ) → LinkFits (link i) sort) → eqb sort memory_sort ≡ false →
      memories (chain link n v) ≡ memories v
  unfolding chain
  chain-memories link zero v sort h e = refl
  chain-memories link (suc n) v sort h e = linked-memories (link n) (chain link n v) sort (h n) e ∙ chain-memories link n v sort h e

  -- a block has none where its trees have none
  block-by : (passes : Formula → Bool) (kind : Kind) → ((a b : ℕ) → tree_passing passes (tree S cs k kind a b) ≡ 0) →
      program_passing passes (block S cs k kind) ≡ 0
  unfolding program_passing
  block-by passes kind h =
      program-none passes (line S cs k kind) (rows S cs k (shape kind))
      (λ a l. program-none passes (entry S cs k kind a) (columns S cs k (shape kind) a)
      (λ b l. cond_both (λ (P : List (Command Slot)). program_passing passes P ≡ 0) (kept S cs k (shape kind) a b)
      {x = sets (slot kind a b) (tree S cs k kind a b) ∷ []} {y = []} (let p = h a b in omega arith) refl))

  block_none : (kind : Kind) → of_memories kind ≡ false → program_passing is_memory (block S cs k kind) ≡ 0
  block_none kind e =
      block-by is_memory kind (λ a b.
      chain-memories (link S cs k kind a b) (links S cs k kind a b) (base S cs k kind a b) (kind_sort kind) (link_fits S cs k kind a b) e
      ∙ (base-memories kind a b ∙ passed {A = ℕ} 1 0 e))

  block_one : program_passing is_memory (block S cs k shared_memory) ≡ 1
  unfolding program_passing upto chain
  block_one = refl

  block-memories : (m : ℕ) → m < kind_count → program_passing is_memory (block S cs k (kind_at m)) ≡ cond (eqb m (kind_number shared_memory)) 1 0
  block-memories m h = elim (ℕ_discrete m (kind_number shared_memory)) [
    | yes e ↦
        ap (λ (j : ℕ). program_passing is_memory (block S cs k (kind_at j))) e
        ∙ (ap (λ (kind : Kind). program_passing is_memory (block S cs k kind)) (kind_at_lem shared_memory)
        ∙ (block_one ∙ sym (chosen {A = ℕ} 1 0 (eq-eqb m (kind_number shared_memory) e))))
    | no e ↦ block_none (kind_at m) (other_kind m h e) ∙ sym (passed {A = ℕ} 1 0 (ne_eqb m (kind_number shared_memory) e))
  ]

  blocks-memories : (j n : ℕ) → j + n ≤ kind_count → program_passing is_memory (blocks S cs k j n) ≡ number n (λ i. eqb (j + i) (kind_number shared_memory))
  blocks-memories j n h =
      program-upto is_memory (λ i. block S cs k (kind_at (j + i))) (λ i. eqb (j + i) (kind_number shared_memory)) n
      (λ i (l : i < n). block-memories (j + i) (omega arith))

  step-memories : program_passing is_memory (step S cs k) ≡ 1
  unfolding step program_passing number
  step-memories =
      let p = program-++ is_memory (blocks S cs k 0 11) (needs (ruled S cs k) ∷ blocks S cs k 11 25) in
      let q = blocks-memories 0 11 (omega arith) in
      let r = blocks-memories 11 25 (omega arith) in
      omega arith

  -- ---- reads of a tree

  -- links do not read
  chain-reads : (link : ℕ → Link) (n : ℕ) (v : Term) → tree_passing is_read (chain link n v) ≡ tree_passing is_read v
  unfolding chain
  chain-reads link zero v = refl
  chain-reads link (suc n) v = go (link n) ∙ chain-reads link n v
    where
      go : (l : Link) → tree_passing is_read (linked l (chain link n v)) ≡ tree_passing is_read (chain link n v)
      go skip = refl
      go (if_then sort x y) = omega arith
      go (and_with s) = omega arith
      go (or_with s) = omega arith

  block_reads : (kind : Kind) → ((a b : ℕ) → tree_passing is_read (base S cs k kind a b) ≡ 0) → program_passing is_read (block S cs k kind) ≡ 0
  block_reads kind h = block-by is_read kind (λ a b. chain-reads (link S cs k kind a b) (links S cs k kind a b) (base S cs k kind a b) ∙ h a b)

  -- the memory and what a step sets after it
  abbrev set_last : List (Command Slot)
  set_last = upto (λ i. block S cs k (kind_at (11 + (13 + i)))) 12

  last-reads : program_passing is_read set_last ≡ 0
  unfolding upto kinds
  last-reads =
      then _ _ (then _ _ (then _ _ (then _ _ (then _ _ (then _ _ (then _ _ (then _ _ (then _ _ (then _ _ (then _ _ (then _ _ nothing
      (block_reads shared_memory (λ a b. refl))) (block_reads val (λ a b. refl))) (block_reads adr (λ a b. refl))) (block_reads mem (λ a b. refl)))
      (block_reads accu (λ a b. refl))) (block_reads full (λ a b. refl))) (block_reads halted (λ a b. refl)))
      (block_reads flag (λ t j. cond_both (λ (x : Term). tree_passing is_read x ≡ 0) (rests (S.statement t j).number) refl refl)))
      (block_reads mark (λ a b. refl))) (block_reads halts (λ a b. refl))) (block_reads ended (λ a b. refl))) (block_reads code (λ a b. refl))

-- ---- the table

module _ (S : Set) (cs map : List ℕ) (n : ℕ) where
  abbrev maps : List (Command Slot)
  maps = upto (map_demand map) (cells map)

  abbrev before : List (Command Slot)
  before = upto (step S cs) n

  abbrev permitting : List (Command Slot)
  permitting = blocks S cs n 0 11

  abbrev reading : List (Command Slot)
  reading = needs (ruled S cs n) ∷ blocks S cs n 11 13

  -- all up to the last memory, and the rest
  abbrev early : List (Command Slot)
  early = starting S cs ++ (maps ++ (before ++ (permitting ++ reading)))

  abbrev late : List (Command Slot)
  late = set_last S cs n ++ (aims goal_tree ∷ [])

  program-split : program S cs map (suc n) ≡ early ++ late
  unfolding program step
  program-split =
      let last : List (Command Slot) = aims goal_tree ∷ [] in
      ap (λ (x : List (Command Slot)). starting S cs ++ (maps ++ x))
      (ap (λ (x : List (Command Slot)). x ++ last)
      (upto-last (step S cs) n
      ∙ (ap (λ (x : List (Command Slot)). before ++ (permitting ++ (needs (ruled S cs n) ∷ x))) (upto-more (λ i. block S cs n (kind_at (11 + i))) 13 12)
      ∙ (ap (λ (x : List (Command Slot)). before ++ x) (sym (append_assoc permitting reading (set_last S cs n)))
      ∙ sym (append_assoc before (permitting ++ reading) (set_last S cs n)))))
      ∙ append_assoc (before ++ (permitting ++ reading)) (set_last S cs n) last)
      ∙ (ap (λ (x : List (Command Slot)). starting S cs ++ x) (sym (append_assoc maps (before ++ (permitting ++ reading)) late))
      ∙ sym (append_assoc (starting S cs) (maps ++ (before ++ (permitting ++ reading))) late))

  abbrev early_part : List Formula
  early_part = firsts ++ compiled same start_place 4 early

  abbrev late_part : List Formula
  late_part = compiled same (places_after same start_place 4 early) (next_after same 4 early) late

  table-split : encoded S cs map (suc n) ≡ early_part ++ late_part
  unfolding encoded
  table-split =
      ap (λ (P : List (Command Slot)). firsts ++ compiled same start_place 4 P) program-split
      ∙ (ap (λ (x : List Formula). firsts ++ x) (compiled-++ same start_place 4 early late)
      ∙ sym (append_assoc firsts (compiled same start_place 4 early) late_part))

  early-memories : passing is_memory early_part ≡ suc n
  unfolding passing program_passing number
  early-memories =
      let whole = program-compiled is_memory memory-steady same early start_place 4 in
      let p = program-++ is_memory (starting S cs) (maps ++ (before ++ (permitting ++ reading))) in
      let q = program-++ is_memory maps (before ++ (permitting ++ reading)) in
      let r = program-++ is_memory before (permitting ++ reading) in
      let s = program-++ is_memory permitting reading in
      let t = program-++ is_memory (block S cs 0 word_one) (block S cs 0 argument) in
      let a = block_none S cs 0 word_one refl in
      let b = block_none S cs 0 argument refl in
      let c = program-none is_memory (map_demand map) (cells map) (λ i l. refl) in
      let d = program-upto is_memory (step S cs) (λ i. true) n (λ i l. step-memories S cs i) in
      let e = number-all (λ i. true) n (λ i l. refl) in
      let f = blocks-memories S cs n 0 11 (omega arith) in
      let g = blocks-memories S cs n 11 13 (omega arith) in
      omega arith

  late-reads : passing is_read late_part ≡ 0
  unfolding program_passing
  late-reads =
      let whole = program-compiled is_read read-steady same late (places_after same start_place 4 early) (next_after same 4 early) in
      let p = program-++ is_read (set_last S cs n) (aims goal_tree ∷ []) in
      let q = last-reads S cs n in
      omega arith

-- a table in two parts: the first has first memory and the write of each step but the last, the second has no read
pub record Parted (bound : ℕ) (table : List Formula) : Type 0 where
  pub early : List Formula
  pub late : List Formula
  pub joined : table ≡ early ++ late
  pub memories_early : passing is_memory early ≡ bound
  pub reads_early : passing is_read late ≡ 0

pub parted : (set map : List ℕ) (bound : ℕ) → 1 ≤ bound → Parted bound (table_of set map bound)
unfolding table_of
parted set map zero h = absurd (omega arith)
parted set map (suc n) h =
    let S = set_of set in
    let cs = checkpoints (set_of set) in
    record {
      early = early_part S cs map n;
      late = late_part S cs map n;
      joined = table-split S cs map n;
      memories_early = early-memories S cs map n;
      reads_early = late-reads S cs map n;
    }
