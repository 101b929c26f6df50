-- Classes of statements, and a table of the statements of each class. This serves the code; no call's promise needs it. Assumes nothing.
use Rattle.std.specs.Prelude.{ℕ, zero, suc, ◌+◌, ◌*◌, ◌≤◌, ◌<◌, ◌≡◌, Bool, true, false, cond, ◌&&◌, List, [], ◌∷◌, ◌++◌, eqb, length, get_or}
use Rattle.records.specs.Instructions.{STORE, MEM, CAS, HALT, EXIT, CHECK, is_jump}
use Rattle.records.specs.Sets.{Set, most_threads, most_statements}
use Rattle.records.specs.declared.Statement.{Statement}
use Rattle.machine.specs.Machine.{needs_empty}
use Rattle.encoding.specs.Steps.{Link, skip, sets_accu, loads, is_conditional}
use Rattle.set_index.specs.declared.members.Class.{Class}
use Rattle.set_index.specs.declared.members.Class.TheVariants.{Store, Mem, SetsAccu, Halt, Cas, Exit, NeedsEmpty, Check, Jump, Loads, Conditional}

-- ---- classes

-- the classes by number
abbrev pub store_class : ℕ
store_class = 0

abbrev pub mem_class : ℕ
mem_class = 1

abbrev pub accu_class : ℕ
accu_class = 2

abbrev pub halt_class : ℕ
halt_class = 3

abbrev pub cas_class : ℕ
cas_class = 4

abbrev pub exit_class : ℕ
exit_class = 5

abbrev pub empty_class : ℕ
empty_class = 6

abbrev pub check_class : ℕ
check_class = 7

abbrev pub jump_class : ℕ
jump_class = 8

abbrev pub load_class : ℕ
load_class = 9

abbrev pub conditional_class : ℕ
conditional_class = 10

-- how many there are
abbrev pub class_count : ℕ
class_count = 11

-- the code's classes
abbrev pub class_number : Class → ℕ
class_number Store = store_class
class_number Mem = mem_class
class_number SetsAccu = accu_class
class_number Halt = halt_class
class_number Cas = cas_class
class_number Exit = exit_class
class_number NeedsEmpty = empty_class
class_number Check = check_class
class_number Jump = jump_class
class_number Loads = load_class
class_number Conditional = conditional_class

-- instruction n is of class c
abbrev pub in_class : (c n : ℕ) → Bool
in_class c n =
    cond (eqb c store_class) (eqb n STORE)
    (cond (eqb c mem_class) (eqb n MEM)
    (cond (eqb c accu_class) (sets_accu n)
    (cond (eqb c halt_class) (eqb n HALT)
    (cond (eqb c cas_class) (eqb n CAS)
    (cond (eqb c exit_class) (eqb n EXIT)
    (cond (eqb c empty_class) (needs_empty n)
    (cond (eqb c check_class) (eqb n CHECK)
    (cond (eqb c jump_class) (is_jump n)
    (cond (eqb c load_class) (loads n)
    (cond (eqb c conditional_class) (is_conditional n) false))))))))))

-- a list with one number more at its end, or as it is
abbrev pub added : Bool → List ℕ → ℕ → List ℕ
added true ms k = ms ++ (k ∷ [])
added false ms k = ms

-- the statements of class c among the first k of thread t, in order
unfoldable pub members : Set → (c t k : ℕ) → List ℕ
members S c t zero = []
members S c t (suc k) = added (in_class c (S.statement t k).number) (members S c t k) k

-- all those of thread t
abbrev pub members_of : Set → (c t : ℕ) → List ℕ
members_of S c t = members S c t (S.count t)

-- of the links of thread t's statements those of class c
abbrev pub of_class : Set → (c t : ℕ) → (ℕ → Link) → ℕ → Link
of_class S c t links i = cond (in_class c (S.statement t i).number) (links i) skip

-- ---- the table

-- the length of the table, and of a row
abbrev pub members_length : ℕ
members_length = 1452

abbrev pub row_length : ℕ
row_length = 33

-- where the row of class c and thread t starts: a class has four rows
abbrev pub row_index : (c t : ℕ) → ℕ
row_index c t = 132 * c + row_length * t

-- a row: how many members, then the members
pub record Row (bytes : List ℕ) (c t : ℕ) (ms : List ℕ) : Type 0 where
  pub many : get_or bytes (row_index c t) 0 ≡ length ms
  pub each : (j : ℕ) → j < length ms → get_or bytes (row_index c t + 1 + j) 0 ≡ get_or ms j 0

-- the bytes are the table of a set whose threads have at most 32 statements each
pub record Members (S : Set) (bytes : List ℕ) : Type 0 where
  pub whole : length bytes ≡ members_length
  pub few : (t : ℕ) → t < most_threads → S.count t ≤ most_statements
  pub row : (c t : ℕ) → c < class_count → t < most_threads → Row bytes c t (members_of S c t)

-- the table while it is made, of the threads before t, of the first i statements of thread t, and for the first m classes of statement i too
pub record Filled (S : Set) (t i m : ℕ) (bytes : List ℕ) : Type 0 where
  pub whole : length bytes ≡ members_length
  pub few : (u : ℕ) → u < most_threads → S.count u ≤ most_statements
  pub before : (c u : ℕ) → c < class_count → u < most_threads → u < t → Row bytes c u (members_of S c u)
  pub done : (c : ℕ) → c < class_count → t < most_threads → c < m → Row bytes c t (members S c t (i + 1))
  pub due : (c : ℕ) → c < class_count → t < most_threads → m ≤ c → Row bytes c t (members S c t i)
  pub after : (c u : ℕ) → c < class_count → u < most_threads → t < u → Row bytes c u []

-- ---- jumps

-- a jump to j
abbrev pub names_target : Statement → ℕ → Bool
names_target s j = is_jump s.number && eqb s.argument j
