-- Programs of trees over slots, which a table is written from, and what they mean without any index. The claims say what this means; a reader need
-- not believe it. Assumes nothing.
use Rattle.std.specs.Prelude.{ℕ, zero, suc, Bool, true, not, cond, ◌&&◌, ◌||◌, List, [], ◌∷◌, ◌++◌, eqb}
use Rattle.base.specs.Words.{plus, minus, times, top_bit}
use Rattle.table.specs.declared.Formula.{Formula}
use Rattle.table.specs.Formulas.{no_sort, bit_sort, word_sort, memory_sort, CHOICE, FIRST, CONSTANT, NOT, AND, OR, EQUAL, IF, PLUS, MINUS, TIMES, READ, WRITE, TOP, CONSTRAINT, GOAL}
use Rattle.table.specs.Values.{Assignment, Value, bit, word, memory, as_bit, as_word, as_memory, memory_with}

-- ---- operations by their number of operands

pub data Leaf : Type 0 where
  choice_bit : (step kind thread : ℕ) → Leaf
  first_memory : Leaf
  constant_bit : Bool → Leaf
  constant_word : ℕ → Leaf

pub data Unary : Type 0 where
  not1 top1 : Unary

pub data Binary : Type 0 where
  and2 or2 equal2 plus2 minus2 times2 read2 : Binary

-- an if has the sort of its two branches
pub data Ternary : Type 0 where
  if3 : ℕ → Ternary
  write3 : Ternary

-- ---- their values

abbrev pub leaf_value : Assignment → Leaf → Value
leaf_value g (choice_bit step kind thread) = bit (g.choice step kind thread)
leaf_value g first_memory = memory g.first
leaf_value g (constant_bit b) = bit b
leaf_value g (constant_word w) = word w

abbrev pub unary_value : Unary → Value → Value
unary_value not1 a = bit (not (as_bit a))
unary_value top1 a = bit (top_bit (as_word a))

abbrev pub binary_value : Binary → Value → Value → Value
binary_value and2 a b = bit (as_bit a && as_bit b)
binary_value or2 a b = bit (as_bit a || as_bit b)
binary_value equal2 a b = bit (eqb (as_word a) (as_word b))
binary_value plus2 a b = word (plus (as_word a) (as_word b))
binary_value minus2 a b = word (minus (as_word a) (as_word b))
binary_value times2 a b = word (times (as_word a) (as_word b))
binary_value read2 a b = word (as_memory a (as_word b))

abbrev pub ternary_value : Ternary → Value → Value → Value → Value
ternary_value (if3 sort) a b c = cond (as_bit a) b c
ternary_value write3 a b c = memory (memory_with (as_memory a) (as_word b) (as_word c))

-- ---- their records

abbrev pub leaf_formula : Leaf → Formula
leaf_formula (choice_bit step kind thread) = record { operation = CHOICE; sort = bit_sort; constant = 0; a = step; b = kind; c = thread }
leaf_formula first_memory = record { operation = FIRST; sort = memory_sort; constant = 0; a = 0; b = 0; c = 0 }
leaf_formula (constant_bit v) = record { operation = CONSTANT; sort = bit_sort; constant = cond v 1 0; a = 0; b = 0; c = 0 }
leaf_formula (constant_word w) = record { operation = CONSTANT; sort = word_sort; constant = w; a = 0; b = 0; c = 0 }

abbrev pub unary_number : Unary → ℕ
unary_number not1 = NOT
unary_number top1 = TOP

abbrev pub binary_number : Binary → ℕ
binary_number and2 = AND
binary_number or2 = OR
binary_number equal2 = EQUAL
binary_number plus2 = PLUS
binary_number minus2 = MINUS
binary_number times2 = TIMES
binary_number read2 = READ

abbrev pub binary_sort : Binary → ℕ
binary_sort and2 = bit_sort
binary_sort or2 = bit_sort
binary_sort equal2 = bit_sort
binary_sort plus2 = word_sort
binary_sort minus2 = word_sort
binary_sort times2 = word_sort
binary_sort read2 = word_sort

abbrev pub ternary_number : Ternary → ℕ
ternary_number (if3 sort) = IF
ternary_number write3 = WRITE

abbrev pub ternary_sort : Ternary → ℕ
ternary_sort (if3 sort) = sort
ternary_sort write3 = memory_sort

abbrev pub unary_formula : Unary → ℕ → Formula
unary_formula o x = record { operation = unary_number o; sort = bit_sort; constant = 0; a = x; b = 0; c = 0 }

abbrev pub binary_formula : Binary → ℕ → ℕ → Formula
binary_formula o x y = record { operation = binary_number o; sort = binary_sort o; constant = 0; a = x; b = y; c = 0 }

abbrev pub ternary_formula : Ternary → ℕ → ℕ → ℕ → Formula
ternary_formula o x y z = record { operation = ternary_number o; sort = ternary_sort o; constant = 0; a = x; b = y; c = z }

abbrev pub constraint : ℕ → Formula
constraint x = record { operation = CONSTRAINT; sort = no_sort; constant = 0; a = x; b = 0; c = 0 }

abbrev pub goal : ℕ → Formula
goal x = record { operation = GOAL; sort = no_sort; constant = 0; a = x; b = 0; c = 0 }

-- ---- trees

-- A slot names a value; a tree is an expression over slots.
pub data Tree (Slot : Type 0) : Type 0 where
  ref : Slot → Tree Slot
  leaf : Leaf → Tree Slot
  unary : Unary → Tree Slot → Tree Slot
  binary : Binary → Tree Slot → Tree Slot → Tree Slot
  ternary : Ternary → Tree Slot → Tree Slot → Tree Slot → Tree Slot

module _ {Slot : Type 0} where
  -- a tree's value where the slots have these
  abbrev pub tree_value : Assignment → (Slot → Value) → Tree Slot → Value
  tree_value g slots (ref s) = slots s
  tree_value g slots (leaf x) = leaf_value g x
  tree_value g slots (unary o a) = unary_value o (tree_value g slots a)
  tree_value g slots (binary o a b) = binary_value o (tree_value g slots a) (tree_value g slots b)
  tree_value g slots (ternary o a b c) = ternary_value o (tree_value g slots a) (tree_value g slots b) (tree_value g slots c)

  -- the next free index after a tree whose first record is number n
  unfoldable pub next : ℕ → Tree Slot → ℕ
  next n (ref s) = n
  next n (leaf x) = suc n
  next n (unary o a) = suc (next n a)
  next n (binary o a b) = suc (next (next n a) b)
  next n (ternary o a b c) = suc (next (next (next n a) b) c)

  -- the index of the tree's own record, where the slots lie at `places`
  unfoldable pub root : (Slot → ℕ) → ℕ → Tree Slot → ℕ
  unfolding next
  root places n (ref s) = places s
  root places n (leaf x) = n
  root places n (unary o a) = next n a
  root places n (binary o a b) = next (next n a) b
  root places n (ternary o a b c) = next (next (next n a) b) c

  -- the tree's records, operands first, before the rest
  unfoldable pub records : (Slot → ℕ) → ℕ → Tree Slot → List Formula → List Formula
  unfolding next root
  records places n (ref s) rest = rest
  records places n (leaf x) rest = leaf_formula x ∷ rest
  records places n (unary o a) rest = records places n a (unary_formula o (root places n a) ∷ rest)
  records places n (binary o a b) rest =
      records places n a (records places (next n a) b
      (binary_formula o (root places n a) (root places (next n a) b) ∷ rest))
  records places n (ternary o a b c) rest =
      records places n a (records places (next n a) b (records places (next (next n a) b) c
      (ternary_formula o (root places n a) (root places (next n a) b) (root places (next (next n a) b) c) ∷ rest)))

-- ---- programs

-- what one number after the other gives, for the numbers below n
unfoldable pub upto : {A : Type 0} → (ℕ → List A) → ℕ → List A
upto f zero = []
upto f (suc n) = upto f n ++ f n

-- One after the other: a slot is set to a tree, a tree must be 1, a tree is the goal.
pub data Command (Slot : Type 0) : Type 0 where
  sets : Slot → Tree Slot → Command Slot
  needs : Tree Slot → Command Slot
  aims : Tree Slot → Command Slot

-- a function changed at one slot
abbrev pub put : {Slot A : Type 0} → (Slot → Slot → Bool) → (Slot → A) → Slot → A → Slot → A
put same f s v x = cond (same x s) v (f x)

module _ {Slot : Type 0} (same : Slot → Slot → Bool) where
  -- the next free index after a program
  unfoldable pub next_after : ℕ → List (Command Slot) → ℕ
  next_after n [] = n
  next_after n (sets s t ∷ program) = next_after (next n t) program
  next_after n (needs t ∷ program) = next_after (suc (next n t)) program
  next_after n (aims t ∷ program) = next_after (suc (next n t)) program

  -- where the slots lie after it
  unfoldable pub places_after : (Slot → ℕ) → ℕ → List (Command Slot) → Slot → ℕ
  places_after places n [] = places
  places_after places n (sets s t ∷ program) = places_after (put same places s (root places n t)) (next n t) program
  places_after places n (needs t ∷ program) = places_after places (suc (next n t)) program
  places_after places n (aims t ∷ program) = places_after places (suc (next n t)) program

  -- its records, from a layout and the next free index on
  unfoldable pub compiled : (Slot → ℕ) → ℕ → List (Command Slot) → List Formula
  compiled places n [] = []
  compiled places n (sets s t ∷ program) = records places n t (compiled (put same places s (root places n t)) (next n t) program)
  compiled places n (needs t ∷ program) = records places n t (constraint (root places n t) ∷ compiled places (suc (next n t)) program)
  compiled places n (aims t ∷ program) = records places n t (goal (root places n t) ∷ compiled places (suc (next n t)) program)

  -- what it means: the slots' values after it, and whether every tree that must be 1 is 1
  unfoldable pub values_after : Assignment → (Slot → Value) → List (Command Slot) → Slot → Value
  values_after g slots [] = slots
  values_after g slots (sets s t ∷ program) = values_after g (put same slots s (tree_value g slots t)) program
  values_after g slots (needs t ∷ program) = values_after g slots program
  values_after g slots (aims t ∷ program) = values_after g slots program

  unfoldable pub program_holds : Assignment → (Slot → Value) → List (Command Slot) → Bool
  program_holds g slots [] = true
  program_holds g slots (sets s t ∷ program) = program_holds g (put same slots s (tree_value g slots t)) program
  program_holds g slots (needs t ∷ program) = as_bit (tree_value g slots t) && program_holds g slots program
  program_holds g slots (aims t ∷ program) = as_bit (tree_value g slots t) && program_holds g slots program
