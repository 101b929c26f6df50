-- After the choice bits no tree of a step has a leaf, so that each record there has operands. Assumes nothing.
use Prim.Native.Nat.{ℕ, zero, suc, ◌<◌}
use mathlib.Core.Path.{◌≡◌, refl, sym}
use mathlib.Core.Bool.{Bool, true, false, cond, ◌&&◌, true≢false}
use mathlib.Core.List.{List, [], ◌∷◌}
use native.Mathlib.Omega.{arith}
use lib.Dec.{eqb}
use Rattle.base.proofs.Choice.{cond_both, and_left, and_right}
use Rattle.records.specs.Instructions.{CAS}
use Rattle.records.specs.Sets.{Set}
use Rattle.table.specs.declared.Formula.{Formula}
use Rattle.table.specs.Programs.{Unary, not1, top1, Binary, and2, or2, equal2, plus2, minus2, times2, read2, Ternary, if3, write3, unary_number, binary_number, ternary_number, ref, leaf, unary, binary, ternary, records, root, next, Command, sets, needs, aims, put, compiled}
use Rattle.encoding.specs.Slots.{Kind, choice, active, opening, shut, barred, held, waits, may_execute, none, permitted_first, one_permitted, address, loaded, swaps, result, test, not_test, flush_to, write_to, flush_value, write_value, raised, exits, codes, shared_memory, val, adr, mem, accu, full, halted, flag, mark, halts, ended, code, bit_zero as bit0, bit_one as bit1, word_zero, word_one, argument, Slot, slot, same, Term, kind_number}
use Rattle.encoding.specs.Steps.{Link, skip, if_then, and_with, or_with, linked, chain, only, word0, loads, is_conditional, rests, number_of, load_tree, indirect_tree, result_tree, test_tree, none_tree, leaving_tree, base, links, link}
use Rattle.encoding.proofs.Results.{result_each, test-each}
use Rattle.encoding.proofs.Split.{rest}
use Rattle.encoding.proofs.Walks.{with, Along, along-rest}

-- no leaf stands in a tree
abbrev bare : Term → Bool
bare (ref x) = true
bare (leaf l) = false
bare (unary o a) = bare a
bare (binary o a b) = bare a && bare b
bare (ternary o a b c) = bare a && (bare b && bare c)

either : (b : Bool) (t u : Term) → bare t ≡ true → bare u ≡ true → bare (cond b t u) ≡ true
either b t u = cond_both (λ (t : Term). bare t ≡ true) b {x = t} {y = u}

chain-bare : (link : ℕ → Link) (n : ℕ) (base : Term) → bare base ≡ true → bare (chain link n base) ≡ true
unfolding chain
chain-bare link zero base e = e
chain-bare link (suc n) base e = over (link n) (chain link n base) (chain-bare link n base e)
  where
    over : (l : Link) (v : Term) → bare v ≡ true → bare (linked l v) ≡ true
    over skip v e = e
    over (if_then sort x y) v e = e
    over (and_with x) v e = e
    over (or_with x) v e = e

module _ (S : Set) (cs : List ℕ) where
  result_bare : (n t i : ℕ) → bare (result_tree S cs 0 n t i) ≡ true
  result_bare n t i = result_each S cs 0 (λ (u : Term). bare u ≡ true) n t i (λ o. refl) (λ o. refl) refl refl

  test-bare : (n t : ℕ) → bare (test_tree S cs 0 n t) ≡ true
  test-bare n t = test-each S cs 0 (λ (u : Term). bare u ≡ true) n t refl refl refl refl

  base-bare : (kind : Kind) → 0 < kind_number kind → kind_number kind < 36 → (a b : ℕ) → bare (base S cs 0 kind a b) ≡ true
  base-bare choice l n a b = absurd (omega arith)
  base-bare active l n a b = refl
  base-bare opening l n a b = refl
  base-bare shut l n a b = refl
  base-bare barred l n a b = refl
  base-bare held l n a b = refl
  base-bare waits l n a b = refl
  base-bare may_execute l n a b = refl
  base-bare none l n a b = either (eqb b 0) (ref (only bit1)) (none_tree S cs 0 b) refl refl
  base-bare permitted_first l n a b = refl
  base-bare one_permitted l n a b = refl
  base-bare address l n a b = either (eqb (S.statement a b).mode 1) (indirect_tree S cs 0 a b) (ref (slot argument a b)) refl refl
  base-bare loaded l n a b = either (loads (number_of S cs 0 a b)) (load_tree S cs 0 a (slot address a b)) (ref word0) refl refl
  base-bare swaps l n a b = either (eqb (number_of S cs 0 a b) CAS) (binary and2 (ref (slot active a b)) (binary equal2 (binary read2 (ref (only shared_memory)) (ref (slot address a b))) (ref (slot mem a 0)))) (ref (only bit0)) refl refl
  base-bare result l n a b = result_bare (number_of S cs 0 a b) a b
  base-bare test l n a b = test-bare (number_of S cs 0 a b) a
  base-bare not_test l n a b = either (is_conditional (number_of S cs 0 a b)) (unary not1 (ref (slot test a b))) (ref (only bit0)) refl refl
  base-bare flush_to l n a b = refl
  base-bare write_to l n a b = refl
  base-bare flush_value l n a b = refl
  base-bare write_value l n a b = refl
  base-bare raised l n a b = refl
  base-bare exits l n a b = refl
  base-bare codes l n a b = refl
  base-bare shared_memory l n a b = refl
  base-bare val l n a b = refl
  base-bare adr l n a b = refl
  base-bare mem l n a b = refl
  base-bare accu l n a b = refl
  base-bare full l n a b = refl
  base-bare halted l n a b = refl
  base-bare flag l n a b = either (rests (number_of S cs 0 a b)) (ref (slot flag a b)) (leaving_tree S cs 0 a b) refl refl
  base-bare mark l n a b = refl
  base-bare halts l n a b = refl
  base-bare ended l n a b = refl
  base-bare code l n a b = refl
  base-bare bit0 l n a b = absurd (omega arith)
  base-bare bit1 l n a b = absurd (omega arith)
  base-bare word_zero l n a b = absurd (omega arith)
  base-bare word_one l n a b = absurd (omega arith)
  base-bare argument l n a b = absurd (omega arith)

  abbrev Bare : (Slot → Bool) → List (Command Slot) → Type 0
  Bare = Along S cs (λ done s t. bare t ≡ true) (λ done t. bare t ≡ true)

  rest-bare : Bare (λ x. true) (rest S cs)
  rest-bare =
      along-rest S cs (λ done s t. bare t ≡ true) (λ done t. bare t ≡ true) 1 (λ x. true)
      (λ kind l c done a b h g. chain-bare (link S cs 0 kind a b) (links S cs 0 kind a b) (base S cs 0 kind a b) (base-bare kind (omega arith) c a b))
      (λ done f h. refl) (omega arith) (λ l a b h t. refl)

  -- ---- records with operands

  abbrev pub AllOperate : List Formula → Type 0
  AllOperate [] = Unit
  AllOperate (x ∷ xs) = (3 < x.operation) × AllOperate xs

  unary_operates : (o : Unary) → 3 < unary_number o
  unary_operates not1 = omega arith
  unary_operates top1 = omega arith

  binary_operates : (o : Binary) → 3 < binary_number o
  binary_operates and2 = omega arith
  binary_operates or2 = omega arith
  binary_operates equal2 = omega arith
  binary_operates plus2 = omega arith
  binary_operates minus2 = omega arith
  binary_operates times2 = omega arith
  binary_operates read2 = omega arith

  ternary_operates : (o : Ternary) → 3 < ternary_number o
  ternary_operates (if3 sort) = omega arith
  ternary_operates write3 = omega arith

  tree_operates : (p : Slot → ℕ) (t : Term) (n : ℕ) (xs : List Formula) → bare t ≡ true → AllOperate xs → AllOperate (records p n t xs)
  unfolding records
  tree_operates p (ref s) n xs e h = h
  tree_operates p (leaf l) n xs e h = absurd (true≢false (sym e))
  tree_operates p (unary o a) n xs e h = tree_operates p a n _ e (unary_operates o, h)
  tree_operates p (binary o a b) n xs e h =
      tree_operates p a n _ (and_left (bare a) (bare b) e) (tree_operates p b (next n a) _ (and_right (bare a) (bare b) e) (binary_operates o, h))
  tree_operates p (ternary o a b c) n xs e h =
      let f = and_right (bare a) (bare b && bare c) e in
      tree_operates p a n _ (and_left (bare a) (bare b && bare c) e)
      (tree_operates p b (next n a) _ (and_left (bare b) (bare c) f) (tree_operates p c (next (next n a) b) _ (and_right (bare b) (bare c) f) (ternary_operates o, h)))

  program_operates : (L : List (Command Slot)) (done : Slot → Bool) (p : Slot → ℕ) (n : ℕ) → Bare done L → AllOperate (compiled same p n L)
  unfolding compiled Along
  program_operates [] done p n h = tt
  program_operates (sets s t ∷ L) done p n h = tree_operates p t n _ h.0 (program_operates L (with done s) (put same p s (root p n t)) (next n t) h.1)
  program_operates (needs t ∷ L) done p n h = tree_operates p t n _ h.0 (omega arith, program_operates L done p (suc (next n t)) h.1)
  program_operates (aims t ∷ L) done p n h = tree_operates p t n _ h.0 (omega arith, program_operates L done p (suc (next n t)) h.1)

  -- every record after the choice bits has operands
  pub rest_operates : (p : Slot → ℕ) (n : ℕ) → AllOperate (compiled same p n (rest S cs))
  rest_operates p n = program_operates (rest S cs) (λ x. true) p n rest-bare
