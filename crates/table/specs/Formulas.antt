-- Formula records: their operations and sorts, and their bytes (document 01, "Records"). A reader of the calls believes this. Assumes nothing.
use Rattle.std.specs.Prelude.{ℕ, suc, ◌+◌, ◌*◌, ◌/◌, ◌%◌, List, [], ◌∷◌, ◌++◌, get_or}
use Rattle.base.specs.Bytes.{placed, word_at}
use Rattle.table.specs.declared.Formula.{Formula}

-- ---- sorts: 1 bit, 2 word, 3 memory, 0 none

abbrev pub no_sort : ℕ
no_sort = 0

abbrev pub bit_sort : ℕ
bit_sort = 1

abbrev pub word_sort : ℕ
word_sort = 2

abbrev pub memory_sort : ℕ
memory_sort = 3

-- ---- operations

abbrev pub CHOICE : ℕ
CHOICE = 1

abbrev pub FIRST : ℕ
FIRST = 2

abbrev pub CONSTANT : ℕ
CONSTANT = 3

abbrev pub NOT : ℕ
NOT = 4

abbrev pub AND : ℕ
AND = 5

abbrev pub OR : ℕ
OR = 6

abbrev pub EQUAL : ℕ
EQUAL = 7

abbrev pub IF : ℕ
IF = 8

abbrev pub PLUS : ℕ
PLUS = 9

abbrev pub MINUS : ℕ
MINUS = 10

abbrev pub TIMES : ℕ
TIMES = 11

abbrev pub READ : ℕ
READ = 12

abbrev pub WRITE : ℕ
WRITE = 13

abbrev pub TOP : ℕ
TOP = 14

abbrev pub CONSTRAINT : ℕ
CONSTRAINT = 15

abbrev pub GOAL : ℕ
GOAL = 16

-- ---- bytes

-- the bytes of a formula record
abbrev pub formula_length : ℕ
formula_length = 16

-- the four bytes of an index, low byte first, before the rest
abbrev pub long : ℕ → List ℕ → List ℕ
long n rest = n % 256 ∷ n / 256 % 256 ∷ n / 65536 % 256 ∷ n / 16777216 % 256 ∷ rest

-- Formula record, 16 bytes: operation, sort, constant (2), operands a, b, c (4 each).
unfoldable pub formula_bytes : Formula → List ℕ
formula_bytes f =
    f.operation ∷ f.sort ∷ f.constant % 256 ∷ f.constant / 256 % 256 ∷ long f.a (long f.b (long f.c []))

-- the bytes of a table, record after record
unfoldable pub table_bytes : List Formula → List ℕ
table_bytes [] = []
table_bytes (f ∷ table) = formula_bytes f ++ table_bytes table

-- bytes with a table's records written from record n on, each where it fits
unfoldable pub written_at : List ℕ → ℕ → List Formula → List ℕ
written_at out n [] = out
written_at out n (f ∷ table) = written_at (placed out (formula_length * n) (formula_bytes f)) (suc n) table

-- ---- records in bytes

-- the index whose four bytes stand from byte i on, low byte first
abbrev pub long_at : List ℕ → ℕ → ℕ
long_at bytes i = get_or bytes i 0 + 256 * get_or bytes (i + 1) 0 + 65536 * get_or bytes (i + 2) 0 + 16777216 * get_or bytes (i + 3) 0

-- record i of a table's bytes
unfoldable pub formula_at : List ℕ → ℕ → Formula
formula_at bytes i = record {
  operation = get_or bytes (formula_length * i) 0;
  sort = get_or bytes (formula_length * i + 1) 0;
  constant = word_at bytes (formula_length * i + 2);
  a = long_at bytes (formula_length * i + 4);
  b = long_at bytes (formula_length * i + 8);
  c = long_at bytes (formula_length * i + 12);
}
