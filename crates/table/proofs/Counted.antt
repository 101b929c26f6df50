-- How many records of an operation the table of a program has, and the order of its parts. Assumes nothing.
use Prim.Native.Nat.{ℕ, zero, suc, ◌+◌, ◌≤◌}
use mathlib.Core.Path.{◌≡◌, refl, ap, sym, ◌∙◌}
use mathlib.Core.Bool.{Bool, true, false, cond, true≢false}
use mathlib.Core.List.{List, [], ◌∷◌, ◌++◌}
use native.Mathlib.Omega.{arith}
use borrow.Author.Tests.{ne_eqb}
use lib.Dec.{eqb}
use Rattle.base.proofs.Choice.{passed}
use Rattle.table.specs.declared.Formula.{Formula}
use Rattle.table.specs.Formulas.{bit_sort, CHOICE, FIRST, CONSTANT, CONSTRAINT, GOAL}
use Rattle.table.specs.Tables.{occurrences}
use Rattle.table.specs.Programs.{Leaf, choice_bit, first_memory, constant_bit, constant_word, Unary, not1, top1, Binary, and2, or2, equal2, plus2, minus2, times2, read2, Ternary, if3, write3, leaf_formula, unary_number, unary_formula, binary_number, binary_formula, ternary_number, ternary_formula, Tree, ref, leaf, unary, binary, ternary, next, root, records, upto, Command, sets, needs, aims, put, compiled}
use Rattle.table.proofs.Sorted.{LeafFits, Fits, ProgramFits}

-- ---- counts

pub count-++ : (operation : ℕ) (table more : List Formula) → occurrences operation (table ++ more) ≡ occurrences operation table + occurrences operation more
unfolding occurrences
count-++ operation [] more = omega arith
count-++ operation (f ∷ table) more = let p = count-++ operation table more in omega arith

-- no record of a tree has this operation; `bits` says whether trees may have choice bits
pub record Apart (bits : Bool) (operation : ℕ) : Type 0 where
  pub no_choice_bit : bits ≡ true → eqb CHOICE operation ≡ false
  pub no_constant : eqb CONSTANT operation ≡ false
  pub no_unary : (o : Unary) → eqb (unary_number o) operation ≡ false
  pub no_binary : (o : Binary) → eqb (binary_number o) operation ≡ false
  pub no_ternary : (o : Ternary) → eqb (ternary_number o) operation ≡ false

-- operations 3 to 14 are those of trees
unary-range : (o : Unary) → (3 ≤ unary_number o) × (unary_number o ≤ 14)
unary-range not1 = (omega arith, omega arith)
unary-range top1 = (omega arith, omega arith)

binary-range : (o : Binary) → (3 ≤ binary_number o) × (binary_number o ≤ 14)
binary-range and2 = (omega arith, omega arith)
binary-range or2 = (omega arith, omega arith)
binary-range equal2 = (omega arith, omega arith)
binary-range plus2 = (omega arith, omega arith)
binary-range minus2 = (omega arith, omega arith)
binary-range times2 = (omega arith, omega arith)
binary-range read2 = (omega arith, omega arith)

ternary-range : (o : Ternary) → (3 ≤ ternary_number o) × (ternary_number o ≤ 14)
ternary-range (if3 sort) = (omega arith, omega arith)
ternary-range write3 = (omega arith, omega arith)

outside : (bits : Bool) (operation : ℕ) → (bits ≡ true → eqb CHOICE operation ≡ false) → ((n : ℕ) → (3 ≤ n) × (n ≤ 14) → n ≡ operation → ⊥) →
    Apart bits operation
outside bits operation no_bit f = record {
  no_choice_bit = no_bit;
  no_constant = ne_eqb CONSTANT operation (f CONSTANT (omega arith, omega arith));
  no_unary = λ o. ne_eqb (unary_number o) operation (f (unary_number o) (unary-range o));
  no_binary = λ o. ne_eqb (binary_number o) operation (f (binary_number o) (binary-range o));
  no_ternary = λ o. ne_eqb (ternary_number o) operation (f (ternary_number o) (ternary-range o));
}

pub choice-apart : Apart false CHOICE
choice-apart = outside false CHOICE (λ e. absurd (true≢false (sym e))) (λ n h e. let p = h.0 in absurd (omega arith))

pub first-apart : (bits : Bool) → Apart bits FIRST
first-apart bits = outside bits FIRST (λ e. refl) (λ n h e. let p = h.0 in absurd (omega arith))

pub constraint-apart : (bits : Bool) → Apart bits CONSTRAINT
constraint-apart bits = outside bits CONSTRAINT (λ e. refl) (λ n h e. let p = h.1 in absurd (omega arith))

pub goal-apart : (bits : Bool) → Apart bits GOAL
goal-apart bits = outside bits GOAL (λ e. refl) (λ n h e. let p = h.1 in absurd (omega arith))

module _ {Slot : Type 0} where
  -- how many commands give a record of this operation that is not of a tree
  unfoldable pub demands : ℕ → List (Command Slot) → ℕ
  demands operation [] = 0
  demands operation (sets s t ∷ P) = demands operation P
  demands operation (needs t ∷ P) = cond (eqb CONSTRAINT operation) 1 0 + demands operation P
  demands operation (aims t ∷ P) = cond (eqb GOAL operation) 1 0 + demands operation P

  pub demands-++ : (operation : ℕ) (P Q : List (Command Slot)) → demands operation (P ++ Q) ≡ demands operation P + demands operation Q
  unfolding demands
  demands-++ operation [] Q = omega arith
  demands-++ operation (sets s t ∷ P) Q = demands-++ operation P Q
  demands-++ operation (needs t ∷ P) Q = let p = demands-++ operation P Q in omega arith
  demands-++ operation (aims t ∷ P) Q = let p = demands-++ operation P Q in omega arith

  -- none, or one, for each number below n
  pub demands-none : (operation : ℕ) (f : ℕ → List (Command Slot)) (n : ℕ) → ((i : ℕ) → demands operation (f i) ≡ 0) →
      demands operation (upto f n) ≡ 0
  unfolding demands upto
  demands-none operation f zero h = refl
  demands-none operation f (suc n) h =
      let p = demands-++ operation (upto f n) (f n) in
      let q = demands-none operation f n h in
      let r = h n in
      omega arith

  pub demands-each : (operation : ℕ) (f : ℕ → List (Command Slot)) (n : ℕ) → ((i : ℕ) → demands operation (f i) ≡ 1) →
      demands operation (upto f n) ≡ n
  unfolding demands upto
  demands-each operation f zero h = refl
  demands-each operation f (suc n) h =
      let p = demands-++ operation (upto f n) (f n) in
      let q = demands-each operation f n h in
      let r = h n in
      omega arith

  module _ (sort_of : Slot → ℕ) (bits : Bool) (operation : ℕ) (apart : Apart bits operation) where
    zero-count : (f : Formula) (table : List Formula) → eqb f.operation operation ≡ false → occurrences operation (f ∷ table) ≡ occurrences operation table
    unfolding occurrences
    zero-count f table e = let p = passed {A = ℕ} 1 0 e in omega arith

    -- a tree's records are of other operations
    tree-count : (places : Slot → ℕ) (t : Tree Slot) (n sort : ℕ) (rest : List Formula) → Fits sort_of bits t sort →
        occurrences operation (records places n t rest) ≡ occurrences operation rest
    unfolding records
    tree-count places (ref s) n sort rest f = refl
    tree-count places (leaf x) n sort rest f = zero-count (leaf_formula x) rest (leaf-test x f)
      where
        leaf-test : (x : Leaf) → LeafFits bits x sort → eqb (leaf_formula x).operation operation ≡ false
        leaf-test (choice_bit step kind thread) f = apart.no_choice_bit f.0
        leaf-test first_memory f = absurd f
        leaf-test (constant_bit v) f = apart.no_constant
        leaf-test (constant_word w) f = apart.no_constant
    tree-count places (unary o a) n sort rest f =
        tree-count places a n _ _ f.1 ∙ zero-count (unary_formula o (root places n a)) rest (apart.no_unary o)
    tree-count places (binary o a b) n sort rest f =
        tree-count places a n _ _ f.1.0 ∙ (tree-count places b (next n a) _ _ f.1.1
        ∙ zero-count (binary_formula o (root places n a) (root places (next n a) b)) rest (apart.no_binary o))
    tree-count places (ternary o a b c) n sort rest f =
        tree-count places a n _ _ f.1.1.0 ∙ (tree-count places b (next n a) _ _ f.1.1.1.0 ∙ (tree-count places c (next (next n a) b) _ _ f.1.1.1.1
        ∙ zero-count (ternary_formula o (root places n a) (root places (next n a) b) (root places (next (next n a) b) c)) rest (apart.no_ternary o)))

    pub program-count : (same : Slot → Slot → Bool) (P : List (Command Slot)) (places : Slot → ℕ) (n : ℕ) → ProgramFits sort_of bits P →
        occurrences operation (compiled same places n P) ≡ demands operation P
    unfolding compiled occurrences demands
    program-count same [] places n f = refl
    program-count same (sets s t ∷ P) places n f =
        tree-count places t n (sort_of s) _ f.0 ∙ program-count same P (put same places s (root places n t)) (next n t) f.1
    program-count same (needs t ∷ P) places n f =
        tree-count places t n bit_sort _ f.0 ∙ ap (λ x. cond (eqb CONSTRAINT operation) 1 0 + x) (program-count same P places (suc (next n t)) f.1)
    program-count same (aims t ∷ P) places n f =
        tree-count places t n bit_sort _ f.0 ∙ ap (λ x. cond (eqb GOAL operation) 1 0 + x) (program-count same P places (suc (next n t)) f.1)
