-- The values of a table's records under an assignment, front to back, and when an assignment satisfies (document 01, "Records"). A reader of the
-- calls believes this. Assumes nothing.
use Rattle.std.specs.Prelude.{ℕ, suc, Bool, true, false, not, cond, ◌&&◌, ◌||◌, List, [], ◌∷◌, eqb}
use Rattle.base.specs.Words.{plus, minus, times, top_bit}
use Rattle.table.specs.declared.Formula.{Formula}
use Rattle.table.specs.Formulas.{bit_sort, CHOICE, FIRST, CONSTANT, NOT, AND, OR, EQUAL, IF, PLUS, MINUS, TIMES, READ, WRITE, TOP, CONSTRAINT, GOAL}

-- An assignment gives each choice bit (step, 0 execute or 1 flush, thread) and all first cells a value.
pub record Assignment : Type 0 where
  pub choice : ℕ → ℕ → ℕ → Bool
  pub first : ℕ → ℕ

-- ---- values

-- a bit, a word, a memory, or none: the value of a constraint or goal
pub data Value : Type 0 where
  nil : Value
  bit : Bool → Value
  word : ℕ → Value
  memory : (ℕ → ℕ) → Value

-- a value as a bit, a word or a memory; one of another sort counts as 0
abbrev pub as_bit : Value → Bool
as_bit nil = false
as_bit (bit b) = b
as_bit (word w) = false
as_bit (memory m) = false

-- two bits are equal where the numbers 0 and 1 are, so a bit has one
abbrev pub as_word : Value → ℕ
as_word nil = 0
as_word (bit b) = cond b 1 0
as_word (word w) = w
as_word (memory m) = 0

abbrev pub as_memory : Value → ℕ → ℕ
as_memory nil a = 0
as_memory (bit b) a = 0
as_memory (word w) a = 0
as_memory (memory m) a = m a

-- memory m with v at address a
abbrev pub memory_with : (ℕ → ℕ) → ℕ → ℕ → ℕ → ℕ
memory_with m a v x = cond (eqb x a) v (m x)

-- ---- one record

-- 1 choice bit, 2 first memory, 3 constant, 4 not, 5 and, 6 or, 7 equal, 8 if a then b else c, 9 a plus b, 10 a minus b,
-- 11 a times b, 12 read a at b, 13 write c at b in a, 14 top bit; `values` are those of the other records
unfoldable pub value_of : Assignment → (ℕ → Value) → Formula → Value
value_of g values f =
    let a = values f.a in
    let b = values f.b in
    let c = values f.c in
    cond (eqb f.operation CHOICE) (bit (g.choice f.a f.b f.c))
    (cond (eqb f.operation FIRST) (memory g.first)
    (cond (eqb f.operation CONSTANT) (cond (eqb f.sort bit_sort) (bit (eqb f.constant 1)) (word f.constant))
    (cond (eqb f.operation NOT) (bit (not (as_bit a)))
    (cond (eqb f.operation AND) (bit (as_bit a && as_bit b))
    (cond (eqb f.operation OR) (bit (as_bit a || as_bit b))
    (cond (eqb f.operation EQUAL) (bit (eqb (as_word a) (as_word b)))
    (cond (eqb f.operation IF) (cond (as_bit a) b c)
    (cond (eqb f.operation PLUS) (word (plus (as_word a) (as_word b)))
    (cond (eqb f.operation MINUS) (word (minus (as_word a) (as_word b)))
    (cond (eqb f.operation TIMES) (word (times (as_word a) (as_word b)))
    (cond (eqb f.operation READ) (word (as_memory a (as_word b)))
    (cond (eqb f.operation WRITE) (memory (memory_with (as_memory a) (as_word b) (as_word c)))
    (cond (eqb f.operation TOP) (bit (top_bit (as_word a)))
    nil)))))))))))))

-- ---- the table

-- a function changed at one number
abbrev pub changed : {A : Type 0} → (ℕ → A) → ℕ → A → ℕ → A
changed f n v i = cond (eqb i n) v (f i)

-- the records' values, front to back; the next record is number n
unfoldable pub values_from : Assignment → ℕ → (ℕ → Value) → List Formula → ℕ → Value
values_from g n values [] = values
values_from g n values (f ∷ table) = values_from g (suc n) (changed values n (value_of g values f)) table

abbrev pub values_of : Assignment → List Formula → ℕ → Value
values_of g table = values_from g 0 (λ i. nil) table

abbrev pub is_demand : ℕ → Bool
is_demand operation = eqb operation CONSTRAINT || eqb operation GOAL

-- every constraint and the goal are 1
unfoldable pub met : (ℕ → Value) → List Formula → Bool
met values [] = true
met values (f ∷ table) = cond (is_demand f.operation) (as_bit (values f.a)) true && met values table

-- An assignment satisfies if every constraint and the goal are 1.
unfoldable pub satisfies : Assignment → List Formula → Bool
satisfies g table = met (values_of g table) table
