-- What reading keeps of a text before its records are written: statements and cells read so far. This serves the code; no call's promise needs it.
-- Assumes nothing.
use Rattle.std.specs.Prelude.{ℕ, ◌+◌, ◌-◌, ◌*◌, ◌/◌, ◌%◌, cond, List, [], ◌∷◌, ◌++◌, ltb, get_or, take, drop}
use Rattle.records.specs.declared.Cell.{Cell}
use Rattle.text_lines.specs.declared.Stated.{Stated}
use Rattle.text_drafts.specs.Blocks.{block_at}
use Rattle.text.specs.Sections.{Threads, halt, inserted}
use Rattle.records.specs.Sets.{most_statements}

-- the statements of thread t, which has n; its blocks start at 32 * t
unfoldable pub drafted : List ℕ → ℕ → ℕ → ℕ → Stated
drafted draft t n p = cond (ltb p n) (block_at draft (most_statements * t + p)) halt

-- the threads read so far
abbrev pub threads_in : List ℕ → ℕ → List ℕ → Threads
threads_in draft ended counts = record {
  ended = ended;
  count = λ t. get_or counts t 0;
  statement = λ t p. drafted draft t (get_or counts t 0) p;
}

-- a cell as one number, the address above the value
abbrev pub cell_of_key : ℕ → Cell
cell_of_key key = record { address = key / 65536; value = key % 65536 }

unfoldable pub cells_of : List ℕ → List Cell
cells_of [] = []
cells_of (key ∷ keys) = cell_of_key key ∷ cells_of keys

-- the first n cells with one more, which has come to place i: those before it, and it put among the others
abbrev pub carried_at : ℕ → List ℕ → ℕ → ℕ → List Cell
carried_at n keys i carried = cells_of (take i keys) ++ inserted (cell_of_key carried) (cells_of (take (n - i) (drop i keys)))
