-- What evaluation does on bytes: a table of n records in the first 16 n, and a word for each record's value behind them. A bit's word is 0 or 1; a
-- memory, a constraint and the goal have 0. This serves the code; no call's promise needs it. Assumes nothing.
use Rattle.std.specs.Prelude.{ℕ, zero, suc, ◌+◌, ◌*◌, ◌/◌, ◌%◌, ◌<◌, ◌≡◌, Bool, cond, not, ◌&&◌, ◌||◌, List, [], ◌∷◌, eqb, ltb, length, get_or, set}
use Rattle.base.specs.Bytes.{word_at}
use Rattle.base.specs.Words.{plus, minus, times, top_bit}
use Rattle.records.specs.Maps.{map_value}
use Rattle.table.specs.Formulas.{formula_at, CHOICE, CONSTANT, NOT, AND, OR, EQUAL, IF, PLUS, MINUS, TIMES, READ, WRITE, TOP, formula_length}
use Rattle.table.specs.Values.{Assignment, as_word, values_of, is_demand}
use Rattle.table.specs.declared.Formula.{Formula}
use Rattle.decoding.specs.Models.{assigned, work_length}

-- ---- records

-- no operation, past the last record
abbrev pub no_formula : Formula
no_formula = record { operation = 0; sort = 0; constant = 0; a = 0; b = 0; c = 0 }

-- record i of a table
abbrev pub record_at : List Formula → ℕ → Formula
record_at table i = get_or table i no_formula

-- record i of n, in bytes
abbrev pub formula_in : List ℕ → ℕ → ℕ → Formula
formula_in s n i = cond (ltb i n) (formula_at s i) no_formula

-- ---- values in bytes

-- the word of record i's value, 0 past the last record
abbrev pub value_in : List ℕ → ℕ → ℕ → ℕ
value_in s n i = cond (ltb i n) (word_at s (formula_length * n + 2 * i)) 0

-- the bytes once the word of record i's value is v
abbrev pub stored : List ℕ → ℕ → ℕ → ℕ → List ℕ
stored s n i v = set (set s (formula_length * n + 2 * i) (v % 256)) (formula_length * n + 2 * i + 1) (v / 256)

-- ---- one record

-- the memory behind a write, and the one that an if of memories chooses
abbrev pub memory_behind : (ℕ → ℕ) → (operation a b c : ℕ) → ℕ
memory_behind values operation a b c = cond (eqb operation WRITE) a (cond (eqb (values a) 1) b c)

-- the cell at address x of memory m, from the last write back: at most `left` memories are looked at
unfoldable pub cell_back : (ℕ → ℕ) → (ℕ → Formula) → (ℕ → ℕ) → (left m x : ℕ) → ℕ
cell_back first formulas values zero m x = 0
cell_back first formulas values (suc left) m x =
    let f = formulas m in
    cond (eqb f.operation WRITE && eqb x (values f.b)) (values f.c)
    (cond (eqb f.operation WRITE || eqb f.operation IF)
    (cell_back first formulas values left (memory_behind values f.operation f.a f.b f.c) x)
    (first x))

-- the memories that are looked at for this cell, in their order
unfoldable pub memories_back : (ℕ → Formula) → (ℕ → ℕ) → (left m x : ℕ) → List ℕ
memories_back formulas values zero m x = []
memories_back formulas values (suc left) m x =
    let f = formulas m in
    m ∷ cond (eqb f.operation WRITE && eqb x (values f.b)) []
    (cond (eqb f.operation WRITE || eqb f.operation IF)
    (memories_back formulas values left (memory_behind values f.operation f.a f.b f.c) x)
    [])

-- the word of a record's value from those of the records before it; `read` gives a memory's cells
unfoldable pub word_of : Assignment → (ℕ → ℕ) → (ℕ → ℕ → ℕ) → (operation constant a b c : ℕ) → ℕ
word_of g values read operation constant a b c =
    cond (eqb operation CHOICE) (cond (g.choice a b c) 1 0)
    (cond (eqb operation CONSTANT) constant
    (cond (eqb operation NOT) (cond (eqb (values a) 0) 1 0)
    (cond (eqb operation AND) (cond (eqb (values a) 1 && eqb (values b) 1) 1 0)
    (cond (eqb operation OR) (cond (eqb (values a) 1 || eqb (values b) 1) 1 0)
    (cond (eqb operation EQUAL) (cond (eqb (values a) (values b)) 1 0)
    (cond (eqb operation IF) (cond (eqb (values a) 1) (values b) (values c))
    (cond (eqb operation PLUS) (plus (values a) (values b))
    (cond (eqb operation MINUS) (minus (values a) (values b))
    (cond (eqb operation TIMES) (times (values a) (values b))
    (cond (eqb operation READ) (read a (values b))
    (cond (eqb operation TOP) (cond (top_bit (values a)) 1 0)
    0)))))))))))

-- a constraint or goal that is 0
abbrev pub is_false : (ℕ → ℕ) → (operation a : ℕ) → Bool
is_false values operation a = is_demand operation && not (eqb (values a) 1)

-- ---- the table

-- the assignment that a model's bits and cells give
unfoldable pub given_by : (threads bound : ℕ) (bits cells : List ℕ) → Assignment
given_by threads bound bits cells = record { choice = (assigned threads bound bits).choice; first = map_value cells }

module _ (g : Assignment) (n : ℕ) where
  -- the cell at address x of memory m
  abbrev pub cell_in : List ℕ → ℕ → ℕ → ℕ
  cell_in s m x = cell_back g.first (formula_in s n) (value_in s n) n m x

  -- the word of a record's value
  abbrev pub word_in : List ℕ → Formula → ℕ
  word_in s f = word_of g (value_in s n) (cell_in s) f.operation f.constant f.a f.b f.c

  -- the bytes when the turn of record i comes: the values of the records before it are stored
  unfoldable pub turned : (i : ℕ) → List ℕ → List ℕ
  turned zero s = s
  turned (suc i) s =
      let t = turned i s in
      stored t n i (word_in t (formula_in t n i))

  -- values are stored front to back, up to the first constraint or goal that is 0; the next of the last `left` records is number i
  unfoldable pub false_from : (i left : ℕ) → List ℕ → ℕ
  false_from i zero s = i
  false_from i (suc left) s =
      let f = formula_in s n i in
      cond (is_false (value_in s n) f.operation f.a) i (false_from (suc i) left (stored s n i (word_in s f)))

  -- the first constraint or goal that is 0, and n where there is none or the bytes are too few
  unfoldable pub false_in : List ℕ → ℕ
  false_in s = cond (ltb (length s) (work_length * n)) n (false_from 0 n s)

-- What stands in work memory when the turn of record i comes: the table's records, and the words of the values of those before i.
pub record AtTurn (g : Assignment) (table : List Formula) (i : ℕ) (formulas : ℕ → Formula) (values : ℕ → ℕ) : Type 0 where
  pub records : (j : ℕ) → j < length table → formulas j ≡ record_at table j
  pub words : (j : ℕ) → j < i → values j ≡ as_word (values_of g table j)
