-- How many records of a program's table pass a test that looks at no operand. Assumes nothing.
use Prim.Native.Nat.{ℕ, zero, suc, ◌+◌, ◌<◌}
use mathlib.Core.Path.{◌≡◌, refl, ap, sym, ◌∙◌}
use mathlib.Core.Bool.{Bool, true, false, cond, true≢false}
use mathlib.Core.List.{List, [], ◌∷◌, ◌++◌}
use native.Mathlib.Omega.{arith}
use lib.ListN.{length, get_or, get_or-append}
use Rattle.base.specs.Below.{number}
use Rattle.base.proofs.Below.{number-none, number_ext}
use Rattle.base.proofs.Choice.{chosen, passed}
use Rattle.table.specs.declared.Formula.{Formula}
use Rattle.table.specs.Programs.{Unary, Binary, Ternary, leaf_formula, unary_formula, binary_formula, ternary_formula, constraint, goal, Tree, ref, leaf, unary, binary, ternary, next, root, records, upto, Command, sets, needs, aims, put, compiled}

-- 1 for what passes
abbrev one : Bool → ℕ
one b = cond b 1 0

-- the numbers up to n are 0 and those after it
number-first : (test : ℕ → Bool) (n : ℕ) → number (suc n) test ≡ cond (test 0) 1 0 + number n (λ i. test (suc i))
unfolding number
number-first test zero = omega arith
number-first test (suc n) = let p = number-first test n in omega arith

module _ (test : Formula → Bool) where
  -- ---- in a table

  unfoldable pub passing : List Formula → ℕ
  passing [] = 0
  passing (f ∷ table) = cond (test f) 1 0 + passing table

  -- counted by index
  passing-number : (table : List Formula) (none : Formula) → number (length table) (λ i. test (get_or table i none)) ≡ passing table
  unfolding passing number
  passing-number [] none = refl
  passing-number (f ∷ table) none =
      let p = number-first (λ i. test (get_or (f ∷ table) i none)) (length table) in
      let q = passing-number table none in
      omega arith

  -- those of a table's first part
  pub passing-before : (table more : List Formula) (none : Formula) → number (length table) (λ i. test (get_or (table ++ more) i none)) ≡ passing table
  passing-before table more none =
      number_ext (λ i. test (get_or (table ++ more) i none)) (λ i. test (get_or table i none)) (length table)
      (λ i l. ap test (get_or-append table more none i l))
      ∙ passing-number table none

  -- where none of the rest passes, one that passes is of the first part
  pub in_first-part : (table more : List Formula) (none : Formula) → test none ≡ false → passing more ≡ 0 → (i : ℕ) → test (get_or (table ++ more) i none) ≡ true → i < length table
  unfolding passing
  in_first-part [] [] none n e i t = absurd (true≢false (sym t ∙ n))
  in_first-part [] (f ∷ more) none n e zero t = absurd (omega (arith, chosen {A = ℕ} 1 0 t, e))
  in_first-part [] (f ∷ more) none n e (suc i) t = absurd (omega (arith, in_first-part [] more none n (omega arith) i t))
  in_first-part (f ∷ table) more none n e zero t = omega arith
  in_first-part (f ∷ table) more none n e (suc i) t = omega (arith, in_first-part table more none n e i t)

  -- ---- in a program

  -- operands do not matter, and constraints and goals do not pass
  pub record Steady : Type 0 where
    pub unary_steady : (o : Unary) (x : ℕ) → test (unary_formula o x) ≡ test (unary_formula o 0)
    pub binary_steady : (o : Binary) (x y : ℕ) → test (binary_formula o x y) ≡ test (binary_formula o 0 0)
    pub ternary_steady : (o : Ternary) (x y z : ℕ) → test (ternary_formula o x y z) ≡ test (ternary_formula o 0 0 0)
    pub no_constraint : (x : ℕ) → test (constraint x) ≡ false
    pub no_goal : (x : ℕ) → test (goal x) ≡ false

  module _ {Slot : Type 0} where
    abbrev pub tree_passing : Tree Slot → ℕ
    tree_passing (ref s) = 0
    tree_passing (leaf x) = cond (test (leaf_formula x)) 1 0
    tree_passing (unary o a) = tree_passing a + cond (test (unary_formula o 0)) 1 0
    tree_passing (binary o a b) = tree_passing a + (tree_passing b + cond (test (binary_formula o 0 0)) 1 0)
    tree_passing (ternary o a b c) = tree_passing a + (tree_passing b + (tree_passing c + cond (test (ternary_formula o 0 0 0)) 1 0))

    abbrev command_passing : Command Slot → ℕ
    command_passing (sets s t) = tree_passing t
    command_passing (needs t) = tree_passing t
    command_passing (aims t) = tree_passing t

    unfoldable pub program_passing : List (Command Slot) → ℕ
    program_passing [] = 0
    program_passing (c ∷ P) = command_passing c + program_passing P

    pub program-++ : (P Q : List (Command Slot)) → program_passing (P ++ Q) ≡ program_passing P + program_passing Q
    unfolding program_passing
    program-++ [] Q = omega arith
    program-++ (c ∷ P) Q = let p = program-++ P Q in omega arith

    -- parts of which each has one that passes, or none
    pub program-upto : (f : ℕ → List (Command Slot)) (some : ℕ → Bool) (n : ℕ) → ((i : ℕ) → i < n → program_passing (f i) ≡ cond (some i) 1 0) →
        program_passing (upto f n) ≡ number n some
    unfolding program_passing upto number
    program-upto f some zero h = refl
    program-upto f some (suc n) h =
        let p = program-++ (upto f n) (f n) in
        let q = program-upto f some n (λ i l. h i (omega arith)) in
        let r = h n (omega arith) in
        omega arith

    pub program-none : (f : ℕ → List (Command Slot)) (n : ℕ) → ((i : ℕ) → i < n → program_passing (f i) ≡ 0) → program_passing (upto f n) ≡ 0
    program-none f n h = program-upto f (λ i. false) n h ∙ number-none (λ i. false) n (λ i l. refl)

    -- ---- compiled

    module _ (steady : Steady) where
      tree-compiled : (places : Slot → ℕ) (t : Tree Slot) (n : ℕ) (rest : List Formula) → passing (records places n t rest) ≡ tree_passing t + passing rest
      unfolding records passing
      tree-compiled places (ref s) n rest = omega arith
      tree-compiled places (leaf x) n rest = refl
      tree-compiled places (unary o a) n rest =
          let p = tree-compiled places a n (unary_formula o (root places n a) ∷ rest) in
          let q = ap one (steady.unary_steady o (root places n a)) in
          omega arith
      tree-compiled places (binary o a b) n rest =
          let own = binary_formula o (root places n a) (root places (next n a) b) in
          let p = tree-compiled places a n (records places (next n a) b (own ∷ rest)) in
          let q = tree-compiled places b (next n a) (own ∷ rest) in
          let r = ap one (steady.binary_steady o (root places n a) (root places (next n a) b)) in
          omega arith
      tree-compiled places (ternary o a b c) n rest =
          let own = ternary_formula o (root places n a) (root places (next n a) b) (root places (next (next n a) b) c) in
          let p = tree-compiled places a n (records places (next n a) b (records places (next (next n a) b) c (own ∷ rest))) in
          let q = tree-compiled places b (next n a) (records places (next (next n a) b) c (own ∷ rest)) in
          let r = tree-compiled places c (next (next n a) b) (own ∷ rest) in
          let s = ap one (steady.ternary_steady o (root places n a) (root places (next n a) b) (root places (next (next n a) b) c)) in
          omega arith

      pub program-compiled : (same : Slot → Slot → Bool) (P : List (Command Slot)) (places : Slot → ℕ) (n : ℕ) →
          passing (compiled same places n P) ≡ program_passing P
      unfolding compiled passing program_passing
      program-compiled same [] places n = refl
      program-compiled same (sets s t ∷ P) places n =
          let p = tree-compiled places t n (compiled same (put same places s (root places n t)) (next n t) P) in
          let q = program-compiled same P (put same places s (root places n t)) (next n t) in
          omega arith
      program-compiled same (needs t ∷ P) places n =
          let p = tree-compiled places t n (constraint (root places n t) ∷ compiled same places (suc (next n t)) P) in
          let q = program-compiled same P places (suc (next n t)) in
          let r = passed {A = ℕ} 1 0 (steady.no_constraint (root places n t)) in
          omega arith
      program-compiled same (aims t ∷ P) places n =
          let p = tree-compiled places t n (goal (root places n t) ∷ compiled same places (suc (next n t)) P) in
          let q = program-compiled same P places (suc (next n t)) in
          let r = passed {A = ℕ} 1 0 (steady.no_goal (root places n t)) in
          omega arith
