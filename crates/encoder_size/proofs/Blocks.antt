-- How many records each kind of values has in a step. Assumes nothing.
use Prim.Native.Nat.{ℕ, suc, ◌+◌, ◌-◌, ◌*◌}
use mathlib.Core.Path.{◌≡◌, refl, ap, ◌∙◌}
use mathlib.Core.Bool.{Bool, true, false, cond, ◌||◌}
use mathlib.Core.List.{List}
use native.Mathlib.Nat.{mul_comm}
use native.Mathlib.Omega.{arith}
use lib.Dec.{eqb}
use lib.ListN.{length, get_or}
use Rattle.base.proofs.Choice.{cond-ap}
use Rattle.records.specs.Instructions.{STORE, ADD, ADDI, SUB, SUBI, MUL, MULI, JZ, JNZ, JS, JNS, JNZNS, MEM, CAS, HALT, EXIT}
use Rattle.records.specs.Sets.{Set}
use Rattle.machine.specs.Machine.{contains, needs_empty}
use Rattle.table.specs.Programs.{next, upto, next_after}
use Rattle.encoding.specs.Slots.{Kind, choice, active, opening, shut, barred, held, waits, may_execute, none, permitted_first, one_permitted, address, loaded, swaps, result, test, not_test, flush_to, write_to, flush_value, write_value, exits, codes, shared_memory, val, adr, mem, accu, full, halted, mark, halts, ended, code, Slot}
use Rattle.encoding.specs.Steps.{loads, sets_accu, is_conditional, chain, link, base, entry, line, block}
use Rattle.encoder_size.specs.Sizes.{total}
use Rattle.encoder_size.proofs.Sums.{total-plus, total-same, total_swap, total-late}
use Rattle.encoder_size.proofs.Counted.{counted, counted-upto, adds, counted-chain}

-- ---- by instruction

-- 1 for the instructions that pass
abbrev pub ones : (ℕ → Bool) → ℕ → ℕ
ones passes n = cond (passes n) 1 0

-- ADD to MULI and CAS have a record for what accu becomes
abbrev pub result_size : ℕ → ℕ
result_size n =
    cond (eqb n ADD) 1 (cond (eqb n ADDI) 1 (cond (eqb n SUB) 1 (cond (eqb n SUBI) 1 (cond (eqb n MUL) 1 (cond (eqb n MULI) 1 (cond (eqb n CAS) 1 0))))))

-- a conditional jump has one for its test, JNZNS three
abbrev pub test_size : ℕ → ℕ
test_size n = cond (eqb n JZ || eqb n JNZ) 1 (cond (eqb n JS || eqb n JNS) 1 (cond (eqb n JNZNS) 3 0))

module _ (S : Set) where
  abbrev pub number_of : ℕ → ℕ → ℕ
  number_of t i = (S.statement t i).number

  -- over all statements
  unfoldable pub over : (ℕ → ℕ → ℕ) → ℕ
  over f = total (λ t. total (f t) (S.count t)) S.threads

  -- over all statements by instruction
  unfoldable pub sized : (ℕ → ℕ) → ℕ
  sized g = over (λ t i. g (number_of t i))

module _ (S : Set) (cs : List ℕ) where
  -- 1 for a checkpoint that a thread contains
  abbrev pub marked : ℕ → ℕ → ℕ
  marked t p = cond (contains S t (get_or cs p 0)) 1 0

  unfoldable pub marks : ℕ
  marks = total (λ t. total (marked t) (length cs)) S.threads

module _ (S : Set) (cs : List ℕ) (k : ℕ) where
  -- of a kind
  unfoldable pub size_of : Kind → ℕ
  size_of kind = counted (block S cs k kind)

  -- ---- for each choice

  choices : (kind : Kind) → ((j : ℕ) → counted (entry S cs k kind 0 j) ≡ 1) → counted (upto (entry S cs k kind 0) (S.threads + S.threads)) ≡ 2 * S.threads
  choices kind h =
      let e = counted-upto (entry S cs k kind 0) (λ j. 1) h (S.threads + S.threads) in
      let f = total-same 1 (S.threads + S.threads) in
      omega arith

  pub size-choice : size_of choice ≡ 2 * S.threads
  unfolding size_of upto next_after next chain
  size-choice = choices choice (λ j. refl)

  pub size-fit : size_of permitted_first ≡ 2 * S.threads
  unfolding size_of upto next_after next chain
  size-fit = choices permitted_first (λ j. refl)

  pub size_none : size_of none ≡ 2 * S.threads
  unfolding size_of upto next_after next chain
  size_none =
      let e = counted-upto (entry S cs k none 0) (λ j. cond (eqb j 0) 0 1) (λ j. cond-ap (next 0) (eqb j 0) _ _) (suc (S.threads + S.threads)) in
      let f = total-late (λ j. 1) (S.threads + S.threads) in
      let g = total-same 1 (S.threads + S.threads) in
      omega arith

  -- ---- for each statement

  pub statements : (kind : Kind) (g : ℕ → ℕ → ℕ) → ((t i : ℕ) → counted (entry S cs k kind t i) ≡ g t i) →
      counted (upto (λ t. upto (entry S cs k kind t) (S.count t)) S.threads) ≡ over S g
  unfolding over
  statements kind g h =
      counted-upto (λ t. upto (entry S cs k kind t) (S.count t)) (λ t. total (g t) (S.count t))
      (λ t. counted-upto (entry S cs k kind t) (g t) (h t) (S.count t)) S.threads

  pub size_active : size_of active ≡ sized S (λ n. 1)
  unfolding size_of sized upto next_after next chain
  size_active = statements active (λ t i. 1) (λ t i. refl)

  pub size-address : size_of address ≡ over S (λ t i. cond (eqb (S.statement t i).mode 1) 4 0)
  unfolding size_of upto next_after next chain
  size-address = statements address _ (λ t i. cond-ap (next 0) (eqb (S.statement t i).mode 1) _ _)

  pub size_loaded : size_of loaded ≡ sized S (λ n. cond (loads n) 4 0)
  unfolding size_of sized upto next_after next chain
  size_loaded = statements loaded _ (λ t i. cond-ap (next 0) (loads (number_of S t i)) _ _)

  pub size_swaps : size_of swaps ≡ sized S (λ n. cond (eqb n CAS) 3 0)
  unfolding size_of sized upto next_after next chain
  size_swaps = statements swaps _ (λ t i. cond-ap (next 0) (eqb (number_of S t i) CAS) _ _)

  pub size-not-test : size_of not_test ≡ sized S (ones is_conditional)
  unfolding size_of sized upto next_after next chain
  size-not-test = statements not_test _ (λ t i. cond-ap (next 0) (is_conditional (number_of S t i)) _ _)

  pub size_result : size_of result ≡ sized S result_size
  unfolding size_of sized upto next_after next chain
  size_result = statements result _ (λ t i. simp (cond-ap (next {Slot = Slot} 0)))

  pub size-test : size_of test ≡ sized S test_size
  unfolding size_of sized upto next_after next chain
  size-test = statements test _ (λ t i. simp (cond-ap (next {Slot = Slot} 0)))

  -- ---- for each thread, with a link for each statement whose instruction passes

  threads : (kind : Kind) (passes : ℕ → Bool) (x : ℕ) →
      ((t : ℕ) → counted (line S cs k kind t) ≡ next 0 (chain (link S cs k kind t 0) (S.count t) (base S cs k kind t 0))) →
      ((t : ℕ) → next 0 (base S cs k kind t 0) ≡ x) → ((t i : ℕ) → adds (link S cs k kind t 0 i) ≡ ones passes (number_of S t i)) →
      counted (upto (line S cs k kind) S.threads) ≡ sized S (ones passes) + x * S.threads
  unfolding sized over
  threads kind passes x whole bases adding =
      let each = counted-upto (line S cs k kind) (λ t. total (λ i. ones passes (number_of S t i)) (S.count t) + x) (λ t.
      whole t ∙ (counted-chain (link S cs k kind t 0) (λ i. ones passes (number_of S t i)) (adding t) (base S cs k kind t 0) (S.count t)
      ∙ ap (λ (y : ℕ). total (λ i. ones passes (number_of S t i)) (S.count t) + y) (bases t))) S.threads in
      let sum = total-plus (λ t. total (λ i. ones passes (number_of S t i)) (S.count t)) (λ t. x) S.threads in
      let same = total-same x S.threads in
      let turned = mul_comm x S.threads in
      omega arith

  pub size_barred : size_of barred ≡ sized S (ones needs_empty) + 0 * S.threads
  unfolding size_of upto next_after next
  size_barred = threads barred needs_empty 0 (λ t. refl) (λ t. refl) (λ t i. cond-ap adds (needs_empty (number_of S t i)) _ _)

  pub size_val : size_of val ≡ sized S (ones (λ n. eqb n STORE)) + 0 * S.threads
  unfolding size_of upto next_after next
  size_val = threads val (λ n. eqb n STORE) 0 (λ t. refl) (λ t. refl) (λ t i. cond-ap adds (eqb (number_of S t i) STORE) _ _)

  pub size_adr : size_of adr ≡ sized S (ones (λ n. eqb n STORE)) + 0 * S.threads
  unfolding size_of upto next_after next
  size_adr = threads adr (λ n. eqb n STORE) 0 (λ t. refl) (λ t. refl) (λ t i. cond-ap adds (eqb (number_of S t i) STORE) _ _)

  pub size-mem : size_of mem ≡ sized S (ones (λ n. eqb n MEM)) + 0 * S.threads
  unfolding size_of upto next_after next
  size-mem = threads mem (λ n. eqb n MEM) 0 (λ t. refl) (λ t. refl) (λ t i. cond-ap adds (eqb (number_of S t i) MEM) _ _)

  pub size_accu : size_of accu ≡ sized S (ones sets_accu) + 0 * S.threads
  unfolding size_of upto next_after next
  size_accu = threads accu sets_accu 0 (λ t. refl) (λ t. refl) (λ t i. cond-ap adds (sets_accu (number_of S t i)) _ _)

  pub size-full : size_of full ≡ sized S (ones (λ n. eqb n STORE)) + 1 * S.threads
  unfolding size_of upto next_after next
  size-full = threads full (λ n. eqb n STORE) 1 (λ t. refl) (λ t. refl) (λ t i. cond-ap adds (eqb (number_of S t i) STORE) _ _)

  pub size_halted : size_of halted ≡ sized S (ones (λ n. eqb n HALT)) + 0 * S.threads
  unfolding size_of upto next_after next
  size_halted = threads halted (λ n. eqb n HALT) 0 (λ t. refl) (λ t. refl) (λ t i. cond-ap adds (eqb (number_of S t i) HALT) _ _)

  pub size_may : size_of may_execute ≡ 3 * S.threads
  unfolding size_of upto next_after next chain
  size_may =
      let e = counted-upto (line S cs k may_execute) (λ t. 3) (λ t. refl) S.threads in
      let f = total-same 3 S.threads in
      omega arith

  -- ---- before each thread, with a link for each statement of the thread before whose instruction passes

  befores : (kind : Kind) (passes : ℕ → Bool) →
      ((t : ℕ) → counted (entry S cs k kind 0 t) ≡ next 0 (chain (link S cs k kind 0 t) (cond (eqb t 0) 0 (S.count (t - 1))) (base S cs k kind 0 t))) →
      ((t : ℕ) → next 0 (base S cs k kind 0 t) ≡ 0) → ((t i : ℕ) → adds (link S cs k kind 0 t i) ≡ ones passes (number_of S (t - 1) i)) →
      counted (upto (entry S cs k kind 0) (suc S.threads)) ≡ sized S (ones passes)
  unfolding sized over chain
  befores kind passes whole bases adding =
      counted-upto (entry S cs k kind 0) (λ t. cond (eqb t 0) 0 (total (λ i. ones passes (number_of S (t - 1) i)) (S.count (t - 1)))) (λ t. whole t ∙ go t (eqb t 0)) (suc S.threads)
      ∙ total-late (λ t. total (λ i. ones passes (number_of S t i)) (S.count t)) S.threads
    where
      go : (t : ℕ) (b : Bool) → next 0 (chain (link S cs k kind 0 t) (cond b 0 (S.count (t - 1))) (base S cs k kind 0 t)) ≡ cond b 0 (total (λ i. ones passes (number_of S (t - 1) i)) (S.count (t - 1)))
      go t true = bases t
      go t false =
          let e = counted-chain (link S cs k kind 0 t) (λ i. ones passes (number_of S (t - 1) i)) (adding t) (base S cs k kind 0 t) (S.count (t - 1)) in
          let f = bases t in
          omega arith

  pub size_write_to : size_of write_to ≡ sized S (ones (λ n. eqb n CAS))
  unfolding size_of upto next_after next
  size_write_to = befores write_to (λ n. eqb n CAS) (λ t. refl) (λ t. refl) (λ t i. cond-ap adds (eqb (number_of S (t - 1) i) CAS) _ _)

  pub size_write_value : size_of write_value ≡ sized S (ones (λ n. eqb n CAS))
  unfolding size_of upto next_after next
  size_write_value = befores write_value (λ n. eqb n CAS) (λ t. refl) (λ t. refl) (λ t i. cond-ap adds (eqb (number_of S (t - 1) i) CAS) _ _)

  pub size-exits : size_of exits ≡ sized S (ones (λ n. eqb n EXIT))
  unfolding size_of upto next_after next
  size-exits = befores exits (λ n. eqb n EXIT) (λ t. refl) (λ t. refl) (λ t i. cond-ap adds (eqb (number_of S (t - 1) i) EXIT) _ _)

  pub size_codes : size_of codes ≡ sized S (ones (λ n. eqb n EXIT))
  unfolding size_of upto next_after next
  size_codes = befores codes (λ n. eqb n EXIT) (λ t. refl) (λ t. refl) (λ t i. cond-ap adds (eqb (number_of S (t - 1) i) EXIT) _ _)

  -- ---- single values

  -- a chain with a link for each of n
  singles : (kind : Kind) (n : ℕ) → ((i : ℕ) → adds (link S cs k kind 0 0 i) ≡ 1) →
      next 0 (chain (link S cs k kind 0 0) n (base S cs k kind 0 0)) ≡ n + next 0 (base S cs k kind 0 0)
  singles kind n h =
      let e = counted-chain (link S cs k kind 0 0) (λ i. 1) h (base S cs k kind 0 0) n in
      let f = total-same 1 n in
      omega arith

  pub size-one : size_of one_permitted ≡ S.threads + S.threads + 0
  unfolding size_of upto next_after next
  size-one = singles one_permitted (S.threads + S.threads) (λ i. refl)

  pub size_flush_to : size_of flush_to ≡ S.threads + 0
  unfolding size_of upto next_after next
  size_flush_to = singles flush_to S.threads (λ i. refl)

  pub size_flush_value : size_of flush_value ≡ S.threads + 1
  unfolding size_of upto next_after next
  size_flush_value = singles flush_value S.threads (λ i. refl)

  pub size_halts : size_of halts ≡ S.threads + 0
  unfolding size_of upto next_after next
  size_halts = singles halts S.threads (λ i. refl)

  pub size-memory : size_of shared_memory ≡ 1
  unfolding size_of upto next_after next chain
  size-memory = refl

  pub size-ended : size_of ended ≡ 1
  unfolding size_of upto next_after next chain
  size-ended = refl

  pub size-code : size_of code ≡ 0
  unfolding size_of upto next_after next chain
  size-code = refl

  -- ---- checkpoints and marks

  pub size-shut : size_of shut ≡ length cs
  unfolding size_of upto next_after next chain
  size-shut =
      let e = counted-upto (entry S cs k shut 0) (λ p. 1) (λ p. refl) (length cs) in
      let f = total-same 1 (length cs) in
      omega arith

  of_marks : (kind : Kind) → ((t p : ℕ) → counted (entry S cs k kind t p) ≡ marked S cs t p) →
      counted (upto (λ t. upto (entry S cs k kind t) (length cs)) S.threads) ≡ marks S cs
  unfolding marks
  of_marks kind h =
      counted-upto (λ t. upto (entry S cs k kind t) (length cs)) (λ t. total (marked S cs t) (length cs))
      (λ t. counted-upto (entry S cs k kind t) (marked S cs t) (h t) (length cs)) S.threads

  pub size-held : size_of held ≡ marks S cs
  unfolding size_of upto next_after next chain
  size-held = of_marks held (λ t p. cond-ap counted (contains S t (get_or cs p 0)) _ _)

  pub size_mark : size_of mark ≡ marks S cs
  unfolding size_of upto next_after next chain
  size_mark = of_marks mark (λ t p. cond-ap counted (contains S t (get_or cs p 0)) _ _)

  pub size-waits : size_of waits ≡ marks S cs
  unfolding size_of marks upto next_after next
  size-waits =
      counted-upto (line S cs k waits) (λ t. total (marked S cs t) (length cs)) (λ t.
      let e = counted-chain (link S cs k waits t 0) (marked S cs t) (λ p. cond-ap adds (contains S t (get_or cs p 0)) _ _) (base S cs k waits t 0) (length cs) in
      omega arith) S.threads

  pub size_opening : size_of opening ≡ marks S cs
  unfolding size_of marks upto next_after next
  size_opening =
      counted-upto (entry S cs k opening 0) (λ p. total (λ t. marked S cs t p) S.threads) (λ p.
      let e = counted-chain (link S cs k opening 0 p) (λ t. marked S cs t p) (λ t. cond-ap adds (contains S t (get_or cs p 0)) _ _) (base S cs k opening 0 p) S.threads in
      omega arith) (length cs)
      ∙ total_swap (λ p t. marked S cs t p) (length cs) S.threads
