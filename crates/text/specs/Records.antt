-- The records that a set text gives (document 01, "Set text" and "Records"). A reader of the calls believes this. Assumes nothing.
use Rattle.std.specs.Prelude.{ℕ, zero, suc, ◌+◌, Bool, cond, not, List, [], ◌∷◌, ◌++◌, length, get_or}
use Rattle.base.specs.Below.{least}
use Rattle.base.specs.Bytes.{word, same}
use Rattle.records.specs.declared.Cell.{Cell}
use Rattle.text_lines.specs.Lines.{unlabelled}
use Rattle.text_lines.specs.declared.Stated.{Stated}
use Rattle.text.specs.Sections.{Threads}

-- the bytes of n items, one after the other
unfoldable pub joined : ℕ → (ℕ → List ℕ) → List ℕ
joined zero item = []
joined (suc n) item = joined n item ++ item n

-- ---- statements; x gives a thread's n statements by pc

-- a label, or a jump's target, is there
abbrev pub is_named : List ℕ → Bool
is_named label = not (same label unlabelled)

-- the pc of a label in its thread; n where the thread has no such label
unfoldable pub pc_of : ℕ → (ℕ → Stated) → List ℕ → ℕ
pc_of n x label = least n (λ p. same (x p).label label)

-- Labels become pcs.
unfoldable pub argument_of : ℕ → (ℕ → Stated) → ℕ → ℕ
argument_of n x p = cond (is_named (x p).target) (pc_of n x (x p).target) (x p).argument

-- Statement, 8 bytes: thread, instruction number, mode (1 indirect), 0, argument (2), pc (2).
unfoldable pub statement_bytes : ℕ → ℕ → (ℕ → Stated) → ℕ → List ℕ
statement_bytes t n x p = t ∷ (x p).number ∷ (x p).mode ∷ 0 ∷ word (argument_of n x p) (word p [])

unfoldable pub thread_bytes : Threads → ℕ → List ℕ
thread_bytes T t = joined (T.count t) (statement_bytes t (T.count t) (T.statement t))

unfoldable pub set_bytes : Threads → List ℕ
set_bytes T = joined T.ended (thread_bytes T)

-- how many statements the threads before t have
unfoldable pub statements_before : Threads → ℕ → ℕ
statements_before T zero = 0
statements_before T (suc t) = statements_before T t + T.count t

abbrev pub statements : Threads → ℕ
statements T = statements_before T T.ended

-- ---- the map

abbrev pub map_cell : List Cell → ℕ → Cell
map_cell cs i = get_or cs i (record { address = 0; value = 0 })

-- Map cell, 4 bytes: address, value.
unfoldable pub cell_bytes : List Cell → ℕ → List ℕ
cell_bytes cs i = word (map_cell cs i).address (word (map_cell cs i).value [])

unfoldable pub map_bytes : List Cell → List ℕ
map_bytes cs = joined (length cs) (cell_bytes cs)
