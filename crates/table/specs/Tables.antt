-- Which tables are well formed (document 01, "Records", formula records). A reader of the calls believes this. Assumes nothing.
use Rattle.std.specs.Prelude.{ℕ, zero, suc, ◌+◌, ◌≤◌, ◌<◌, ◌≡◌, Bool, true, false, cond, ◌&&◌, ◌||◌, List, [], ◌∷◌, ◌++◌, eqb, ltb}
use Rattle.table.specs.declared.Formula.{Formula}
use Rattle.table.specs.Formulas.{no_sort, bit_sort, word_sort, memory_sort, CHOICE, FIRST, CONSTANT, NOT, AND, OR, EQUAL, IF, PLUS, MINUS, TIMES, READ, WRITE, TOP, CONSTRAINT, GOAL}
use Rattle.table.specs.Values.{changed}

-- ---- one record

-- record n among the sorts of the records before it
module _ (sorts : ℕ → ℕ) (n : ℕ) where
  -- an operand is the index of an earlier record of a fitting sort
  abbrev pub operand : ℕ → ℕ → Bool
  operand sort i = ltb i n && eqb (sorts i) sort

  -- an operation of one, two or three operands: its own sort, theirs, and unused fields 0
  abbrev pub unary : ℕ → ℕ → Formula → Bool
  unary own sort f =
      eqb f.sort own && operand sort f.a && eqb f.constant 0 && eqb f.b 0 && eqb f.c 0

  abbrev pub binary : ℕ → ℕ → ℕ → Formula → Bool
  binary own first second f =
      eqb f.sort own && operand first f.a && operand second f.b && eqb f.constant 0 && eqb f.c 0

  abbrev pub ternary : ℕ → ℕ → ℕ → ℕ → Formula → Bool
  ternary own first second third f =
      eqb f.sort own && operand first f.a && operand second f.b && operand third f.c && eqb f.constant 0

  abbrev pub no_operand : Formula → Bool
  no_operand f = eqb f.a 0 && eqb f.b 0 && eqb f.c 0

  abbrev pub is_bit_or_word : ℕ → Bool
  is_bit_or_word sort = eqb sort bit_sort || eqb sort word_sort

  abbrev pub is_sort : ℕ → Bool
  is_sort sort = is_bit_or_word sort || eqb sort memory_sort

  -- Unused fields are 0. Except in operation 1, operands are indexes of earlier records, of fitting sorts.
  unfoldable pub formed : Formula → Bool
  formed f =
      cond (eqb f.operation CHOICE) (eqb f.sort bit_sort && eqb f.constant 0 && ltb f.b 2)
      (cond (eqb f.operation FIRST) (eqb f.sort memory_sort && eqb f.constant 0 && no_operand f)
      (cond (eqb f.operation CONSTANT) ((eqb f.sort bit_sort && ltb f.constant 2 || eqb f.sort word_sort && ltb f.constant 65536) && no_operand f)
      (cond (eqb f.operation NOT) (unary bit_sort bit_sort f)
      (cond (eqb f.operation AND || eqb f.operation OR) (binary bit_sort bit_sort bit_sort f)
      (cond (eqb f.operation EQUAL) (is_bit_or_word (sorts f.a) && binary bit_sort (sorts f.a) (sorts f.a) f)
      (cond (eqb f.operation IF) (is_sort f.sort && ternary f.sort bit_sort f.sort f.sort f)
      (cond (eqb f.operation PLUS || eqb f.operation MINUS || eqb f.operation TIMES) (binary word_sort word_sort word_sort f)
      (cond (eqb f.operation READ) (binary word_sort memory_sort word_sort f)
      (cond (eqb f.operation WRITE) (ternary memory_sort memory_sort word_sort word_sort f)
      (cond (eqb f.operation TOP) (unary bit_sort word_sort f)
      (cond (eqb f.operation CONSTRAINT || eqb f.operation GOAL) (unary no_sort bit_sort f)
      false)))))))))))

-- ---- all records

-- each record is formed among those before it; the next is number n
unfoldable pub all_formed : (ℕ → ℕ) → ℕ → List Formula → Bool
all_formed sorts n [] = true
all_formed sorts n (f ∷ table) = formed sorts n f && all_formed (changed sorts n f.sort) (suc n) table

-- how many records have an operation
unfoldable pub occurrences : ℕ → List Formula → ℕ
occurrences operation [] = 0
occurrences operation (f ∷ table) = cond (eqb f.operation operation) 1 0 + occurrences operation table

-- ---- the order of parts

-- the choice bits of step k for threads from t on: n of them
unfoldable pub bits : (k kind t n : ℕ) → List Formula
bits k kind t zero = []
bits k kind t (suc n) = record { operation = CHOICE; sort = bit_sort; constant = 0; a = k; b = kind; c = t } ∷ bits k kind (suc t) n

-- all 2T choice bits of step k: executes by thread, then flushes by thread
unfoldable pub choice_bits : (threads k : ℕ) → List Formula
choice_bits threads k = bits k 0 0 threads ++ bits k 1 0 threads

-- a part of the table that is no row of choice bits and not the goal
pub record Inner (part : List Formula) : Type 0 where
  pub no_choice : occurrences CHOICE part ≡ 0
  pub no_goal : occurrences GOAL part ≡ 0

-- for each step from k on, n of them: all choice bits, then constraints (at least one) and next values
unfoldable pub steps : (threads : ℕ) → (ℕ → List Formula) → (k n : ℕ) → List Formula
steps threads inner k zero = []
steps threads inner k (suc n) = choice_bits threads k ++ (inner k ++ steps threads inner (suc k) n)

-- The parts come in this order: start values, map constraints, then the steps from 0 to K - 1; one goal last.
pub record InOrder (threads bound cells : ℕ) (table : List Formula) : Type 0 where
  pub starts : List Formula
  pub maps : List Formula
  pub inner : ℕ → List Formula
  pub last : Formula
  pub parts : table ≡ starts ++ (maps ++ (steps threads inner 0 bound ++ (last ∷ [])))
  pub starts_inner : Inner starts
  pub no_constraint : occurrences CONSTRAINT starts ≡ 0
  pub maps_inner : Inner maps
  pub constrained : occurrences CONSTRAINT maps ≡ cells
  pub steps_inner : (k : ℕ) → k < bound → Inner (inner k)
  pub some_constraint : (k : ℕ) → k < bound → 1 ≤ occurrences CONSTRAINT (inner k)
  pub goal : last.operation ≡ GOAL

-- a table for so many threads, bound and map cells is well formed
pub record WellFormedTable (threads bound cells : ℕ) (table : List Formula) : Type 0 where
  pub records : all_formed (λ i. no_sort) 0 table ≡ true
  pub one_memory : occurrences FIRST table ≤ 1
  pub order : InOrder threads bound cells table
