-- Programs whose trees have the sorts that their slots and operations ask for: every record of their tables is formed. Assumes nothing.
use Prim.Native.Nat.{ℕ, zero, suc, ◌≤◌, ◌<◌}
use mathlib.Core.Path.{◌≡◌, refl, ap, sym, ◌∙◌}
use mathlib.Core.Bool.{Bool, true, false, cond, ◌&&◌, ◌||◌}
use mathlib.Core.List.{List, [], ◌∷◌, ◌++◌}
use native.Mathlib.Omega.{arith}
use borrow.Author.Tests.{eq-eqb, ne_eqb, lt-ltb}
use lib.Dec.{eqb, ltb}
use Rattle.base.proofs.Choice.{chosen, passed, and_true, or_right_true}
use Rattle.table.specs.declared.Formula.{Formula}
use Rattle.table.specs.Formulas.{bit_sort, word_sort, memory_sort, no_sort}
use Rattle.table.specs.Values.{changed}
use Rattle.table.specs.Tables.{formed, all_formed}
use Rattle.table.specs.Programs.{Leaf, choice_bit, first_memory, constant_bit, constant_word, Unary, not1, top1, Binary, and2, or2, equal2, plus2, minus2, times2, read2, Ternary, if3, write3, leaf_formula, unary_formula, binary_formula, ternary_formula, binary_sort, ternary_sort, constraint, goal, Tree, ref, leaf, unary, binary, ternary, next, root, records, upto, Command, sets, needs, aims, put, compiled}
use Rattle.table.proofs.Sequences.{grows, inside}

-- ---- the sorts of operands

abbrev pub unary_operand : Unary → ℕ
unary_operand not1 = bit_sort
unary_operand top1 = word_sort

abbrev pub binary_first : Binary → ℕ
binary_first and2 = bit_sort
binary_first or2 = bit_sort
binary_first equal2 = word_sort
binary_first plus2 = word_sort
binary_first minus2 = word_sort
binary_first times2 = word_sort
binary_first read2 = memory_sort

abbrev pub binary_second : Binary → ℕ
binary_second and2 = bit_sort
binary_second or2 = bit_sort
binary_second equal2 = word_sort
binary_second plus2 = word_sort
binary_second minus2 = word_sort
binary_second times2 = word_sort
binary_second read2 = word_sort

abbrev pub ternary_first : Ternary → ℕ
ternary_first (if3 sort) = bit_sort
ternary_first write3 = memory_sort

-- of the second and the third
abbrev pub ternary_other : Ternary → ℕ
ternary_other (if3 sort) = sort
ternary_other write3 = word_sort

-- an if has one of the three sorts
abbrev pub IsSort : Ternary → Type 0
IsSort (if3 sort) = (eqb sort bit_sort || eqb sort word_sort || eqb sort memory_sort) ≡ true
IsSort write3 = Unit {0}

-- ---- fitting trees and programs

-- a leaf of this sort; choice bits only where `bits` says so, and no first memory
abbrev pub LeafFits : Bool → Leaf → ℕ → Type 0
LeafFits bits (choice_bit step kind thread) sort = (bits ≡ true) × ((kind < 2) × (sort ≡ bit_sort))
LeafFits bits first_memory sort = ⊥
LeafFits bits (constant_bit v) sort = sort ≡ bit_sort
LeafFits bits (constant_word w) sort = (w < 65536) × (sort ≡ word_sort)

module _ {Slot : Type 0} (sort_of : Slot → ℕ) (bits : Bool) where
  -- a tree of this sort
  abbrev pub Fits : Tree Slot → ℕ → Type 0
  Fits (ref s) sort = sort ≡ sort_of s
  Fits (leaf x) sort = LeafFits bits x sort
  Fits (unary o a) sort = (sort ≡ bit_sort) × Fits a (unary_operand o)
  Fits (binary o a b) sort = (sort ≡ binary_sort o) × (Fits a (binary_first o) × Fits b (binary_second o))
  Fits (ternary o a b c) sort =
      (sort ≡ ternary_sort o) × (IsSort o × (Fits a (ternary_first o) × (Fits b (ternary_other o) × Fits c (ternary_other o))))

  abbrev pub CommandFits : Command Slot → Type 0
  CommandFits (sets s t) = Fits t (sort_of s)
  CommandFits (needs t) = Fits t bit_sort
  CommandFits (aims t) = Fits t bit_sort

  abbrev pub ProgramFits : List (Command Slot) → Type 0
  ProgramFits [] = Unit {0}
  ProgramFits (c ∷ P) = CommandFits c × ProgramFits P

  pub fits-++ : (P Q : List (Command Slot)) → ProgramFits P → ProgramFits Q → ProgramFits (P ++ Q)
  fits-++ [] Q p q = q
  fits-++ (c ∷ P) Q p q = (p.0, fits-++ P Q p.1 q)

  pub fits-upto : (f : ℕ → List (Command Slot)) (n : ℕ) → ((i : ℕ) → i < n → ProgramFits (f i)) → ProgramFits (upto f n)
  unfolding upto
  fits-upto f zero h = tt
  fits-upto f (suc n) h = fits-++ (upto f n) (f n) (fits-upto f n (λ i l. h i (omega arith))) (h n (omega arith))

-- ---- one record

module _ (sorts : ℕ → ℕ) (n : ℕ) where
  operand-true : (x sort : ℕ) → x < n → sorts x ≡ sort → (ltb x n && eqb (sorts x) sort) ≡ true
  operand-true x sort h e = and_true (lt-ltb x n h) (eq-eqb (sorts x) sort e)

  one-operand : {a : Bool} → a ≡ true → (a && true && true && true) ≡ true
  one-operand p = ap (λ (a : Bool). a && true && true && true) p

  two_operands : {a b : Bool} → a ≡ true → b ≡ true → (a && b && true && true) ≡ true
  two_operands p q = and_true (and_true (and_true p q) refl) refl

  three-operands : {a b c : Bool} → a ≡ true → b ≡ true → c ≡ true → (a && b && c && true) ≡ true
  three-operands p q r = and_true (and_true (and_true p q) r) refl

  leaf-formed : (bits : Bool) (x : Leaf) (sort : ℕ) → LeafFits bits x sort → formed sorts n (leaf_formula x) ≡ true
  unfolding formed
  leaf-formed bits (choice_bit step kind thread) sort h = lt-ltb kind 2 h.1.0
  leaf-formed bits first_memory sort h = absurd h
  leaf-formed bits (constant_bit true) sort h = refl
  leaf-formed bits (constant_bit false) sort h = refl
  leaf-formed bits (constant_word w) sort h = and_true (lt-ltb w 65536 h.0) refl

  unary-formed : (o : Unary) (x : ℕ) → x < n → sorts x ≡ unary_operand o → formed sorts n (unary_formula o x) ≡ true
  unfolding formed
  unary-formed not1 x h e = one-operand (operand-true x bit_sort h e)
  unary-formed top1 x h e = one-operand (operand-true x word_sort h e)

  binary-formed : (o : Binary) (x y : ℕ) → x < n → sorts x ≡ binary_first o → y < n → sorts y ≡ binary_second o →
      formed sorts n (binary_formula o x y) ≡ true
  unfolding formed
  binary-formed and2 x y h e k f = two_operands (operand-true x bit_sort h e) (operand-true y bit_sort k f)
  binary-formed or2 x y h e k f = two_operands (operand-true x bit_sort h e) (operand-true y bit_sort k f)
  binary-formed equal2 x y h e k f =
      and_true (or_right_true (eqb (sorts x) bit_sort) (eq-eqb (sorts x) word_sort e))
      (two_operands (operand-true x (sorts x) h refl) (operand-true y (sorts x) k (f ∙ sym e)))
  binary-formed plus2 x y h e k f = two_operands (operand-true x word_sort h e) (operand-true y word_sort k f)
  binary-formed minus2 x y h e k f = two_operands (operand-true x word_sort h e) (operand-true y word_sort k f)
  binary-formed times2 x y h e k f = two_operands (operand-true x word_sort h e) (operand-true y word_sort k f)
  binary-formed read2 x y h e k f = two_operands (operand-true x memory_sort h e) (operand-true y word_sort k f)

  ternary-formed : (o : Ternary) (x y z : ℕ) → IsSort o → x < n → sorts x ≡ ternary_first o → y < n → sorts y ≡ ternary_other o →
      z < n → sorts z ≡ ternary_other o → formed sorts n (ternary_formula o x y z) ≡ true
  unfolding formed
  ternary-formed (if3 sort) x y z p h e k f l d =
      and_true p
      (three-operands (and_true (eq-eqb sort sort refl) (operand-true x bit_sort h e)) (operand-true y sort k f) (operand-true z sort l d))
  ternary-formed write3 x y z p h e k f l d =
      three-operands (operand-true x memory_sort h e) (operand-true y word_sort k f) (operand-true z word_sort l d)

  constraint-formed : (x : ℕ) → x < n → sorts x ≡ bit_sort → formed sorts n (constraint x) ≡ true
  unfolding formed
  constraint-formed x h e = one-operand (operand-true x bit_sort h e)

  goal-formed : (x : ℕ) → x < n → sorts x ≡ bit_sort → formed sorts n (goal x) ≡ true
  unfolding formed
  goal-formed x h e = one-operand (operand-true x bit_sort h e)

-- ---- all records

module _ {Slot : Type 0} (sort_of : Slot → ℕ) (bits : Bool) where
  -- the slots lie below n, at records of their sorts
  abbrev pub Lie : (Slot → ℕ) → (ℕ → ℕ) → ℕ → Type 0
  Lie places sorts n = (s : Slot) → (places s < n) × (sorts (places s) ≡ sort_of s)

  -- sorts of records below n are the same
  abbrev Keeps : ℕ → (ℕ → ℕ) → (ℕ → ℕ) → Type 0
  Keeps n before after = (i : ℕ) → i < n → after i ≡ before i

  -- what is to be shown of the records after a tree
  abbrev Rest : (Slot → ℕ) → ℕ → (ℕ → ℕ) → Tree Slot → ℕ → List Formula → Type 0
  Rest places n sorts t sort rest =
      (after : ℕ → ℕ) → Keeps n sorts after → after (root places n t) ≡ sort → all_formed after (next n t) rest ≡ true

  changed-keeps : (n m : ℕ) (before after : ℕ → ℕ) (sort : ℕ) → n ≤ m → Keeps n before after → Keeps n before (changed after m sort)
  changed-keeps n m before after sort h k i l = passed _ _ (ne_eqb i m (omega arith)) ∙ k i l

  changed-there : (m : ℕ) (after : ℕ → ℕ) (sort : ℕ) → changed after m sort m ≡ sort
  changed-there m after sort = chosen _ _ (eq-eqb m m refl)

  module _ (places : Slot → ℕ) where
    later : (n m : ℕ) (before after : ℕ → ℕ) → n ≤ m → Keeps n before after → Lie places before n → Lie places after m
    later n m before after h k l s = let p = (l s).0 in (omega arith, k (places s) p ∙ (l s).1)

    tree-formed : (t : Tree Slot) (n : ℕ) (sorts : ℕ → ℕ) (sort : ℕ) (rest : List Formula) → Lie places sorts n → Fits sort_of bits t sort →
        Rest places n sorts t sort rest → all_formed sorts n (records places n t rest) ≡ true
    unfolding records root next all_formed
    tree-formed (ref s) n sorts sort rest l f k = k sorts (λ i h. refl) ((l s).1 ∙ sym f)
    tree-formed (leaf x) n sorts sort rest l f k =
        and_true (leaf-formed sorts n bits x sort f)
        (k _ (changed-keeps n n sorts sorts _ (omega arith) (λ i h. refl)) (changed-there n sorts _ ∙ leaf_sort x f))
      where
        leaf_sort : (x : Leaf) → LeafFits bits x sort → (leaf_formula x).sort ≡ sort
        leaf_sort (choice_bit step kind thread) f = sym f.1.1
        leaf_sort first_memory f = absurd f
        leaf_sort (constant_bit v) f = sym f
        leaf_sort (constant_word w) f = sym f.1
    tree-formed (unary o a) n sorts sort rest l f k =
        let ga = grows a n in
        let ia = inside places a n (λ s. (l s).0) in
        tree-formed a n sorts (unary_operand o) _ l f.1
        (λ first keeps e.
        and_true (unary-formed first (next n a) o (root places n a) ia e)
        (k _ (changed-keeps n (next n a) sorts first bit_sort ga keeps) (changed-there (next n a) first bit_sort ∙ sym f.0)))
    tree-formed (binary o a b) n sorts sort rest l f k =
        let ga = grows a n in
        let gb = grows b (next n a) in
        let ia = inside places a n (λ s. (l s).0) in
        tree-formed a n sorts (binary_first o) _ l f.1.0
        (λ first keeps e.
        let la = later n (next n a) sorts first ga keeps l in
        let ib = inside places b (next n a) (λ s. (la s).0) in
        tree-formed b (next n a) first (binary_second o) _ la f.1.1
        (λ second stays d.
        and_true (binary-formed second (next (next n a) b) o (root places n a) (root places (next n a) b) (omega arith) (stays (root places n a) ia ∙ e) ib d)
        (k _ (changed-keeps n (next (next n a) b) sorts second (binary_sort o) (omega arith) (λ i (h : i < n). stays i (omega arith) ∙ keeps i h))
        (changed-there (next (next n a) b) second (binary_sort o) ∙ sym f.0))))
    tree-formed (ternary o a b c) n sorts sort rest l f k =
        let ga = grows a n in
        let gb = grows b (next n a) in
        let gc = grows c (next (next n a) b) in
        let ia = inside places a n (λ s. (l s).0) in
        tree-formed a n sorts (ternary_first o) _ l f.1.1.0
        (λ first keeps e.
        let la = later n (next n a) sorts first ga keeps l in
        let ib = inside places b (next n a) (λ s. (la s).0) in
        tree-formed b (next n a) first (ternary_other o) _ la f.1.1.1.0
        (λ second stays d.
        let lb = later (next n a) (next (next n a) b) first second gb stays la in
        let ic = inside places c (next (next n a) b) (λ s. (lb s).0) in
        tree-formed c (next (next n a) b) second (ternary_other o) _ lb f.1.1.1.1
        (λ third rests q.
        and_true
        (ternary-formed third (next (next (next n a) b) c) o (root places n a) (root places (next n a) b) (root places (next (next n a) b) c) f.1.0
        (omega arith) (rests (root places n a) (omega arith) ∙ (stays (root places n a) ia ∙ e))
        (omega arith) (rests (root places (next n a) b) ib ∙ d) ic q)
        (k _ (changed-keeps n (next (next (next n a) b) c) sorts third (ternary_sort o) (omega arith)
        (λ i (h : i < n). rests i (omega arith) ∙ (stays i (omega arith) ∙ keeps i h)))
        (changed-there (next (next (next n a) b) c) third (ternary_sort o) ∙ sym f.0)))))

  module _ (same : Slot → Slot → Bool) (alike : (x s : Slot) → same x s ≡ true → sort_of x ≡ sort_of s) where
    put_lies : (places : Slot → ℕ) (after : ℕ → ℕ) (m : ℕ) (s : Slot) (i : ℕ) → Lie places after m → i < m → after i ≡ sort_of s →
        Lie (put same places s i) after m
    put_lies places after m s i l h e x = go (same x s) refl
      where
        go : (b : Bool) → same x s ≡ b → (cond (same x s) i (places x) < m) × (after (cond (same x s) i (places x)) ≡ sort_of x)
        go true q =
            let p : cond (same x s) i (places x) ≡ i = chosen i (places x) q in
            (omega arith, ap after p ∙ (e ∙ sym (alike x s q)))
        go false q =
            let p : cond (same x s) i (places x) ≡ places x = passed i (places x) q in
            let r = (l x).0 in
            (omega arith, ap after p ∙ (l x).1)

    -- every record of a fitting program's table is formed
    pub program-formed : (P : List (Command Slot)) (places : Slot → ℕ) (n : ℕ) (sorts : ℕ → ℕ) → Lie places sorts n → ProgramFits sort_of bits P →
        all_formed sorts n (compiled same places n P) ≡ true
    unfolding compiled all_formed
    program-formed [] places n sorts l f = refl
    program-formed (sets s t ∷ P) places n sorts l f =
        tree-formed places t n sorts (sort_of s) _ l f.0
        (λ after keeps e.
        program-formed P (put same places s (root places n t)) (next n t) after
        (put_lies places after (next n t) s (root places n t) (later places n (next n t) sorts after (grows t n) keeps l)
        (inside places t n (λ x. (l x).0)) e)
        f.1)
    program-formed (needs t ∷ P) places n sorts l f =
        tree-formed places t n sorts bit_sort _ l f.0
        (λ after keeps e.
        let g = grows t n in
        and_true (constraint-formed after (next n t) (root places n t) (inside places t n (λ x. (l x).0)) e)
        (program-formed P places (suc (next n t)) _
        (later places n (suc (next n t)) sorts _ (omega arith) (changed-keeps n (next n t) sorts after no_sort g keeps) l) f.1))
    program-formed (aims t ∷ P) places n sorts l f =
        tree-formed places t n sorts bit_sort _ l f.0
        (λ after keeps e.
        let g = grows t n in
        and_true (goal-formed after (next n t) (root places n t) (inside places t n (λ x. (l x).0)) e)
        (program-formed P places (suc (next n t)) _
        (later places n (suc (next n t)) sorts _ (omega arith) (changed-keeps n (next n t) sorts after no_sort g keeps) l) f.1))
