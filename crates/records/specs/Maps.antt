-- Map records: the cells that they give, and which maps are accepted (document 01, "Records"). A reader of the calls believes this. Assumes nothing.
use Rattle.std.specs.Prelude.{ℕ, ◌+◌, ◌-◌, ◌*◌, ◌/◌, ◌%◌, Bool, true, cond, ◌&&◌, List, eqb, ltb, leb, length}
use Rattle.base.specs.Below.{every, least}
use Rattle.base.specs.Bytes.{word_at}

-- the bytes of a map cell
abbrev pub cell_length : ℕ
cell_length = 4

-- Map cell, 4 bytes: address, value.
abbrev pub cells : List ℕ → ℕ
cells bytes = length bytes / cell_length

abbrev pub address_at : List ℕ → ℕ → ℕ
address_at bytes k = word_at bytes (cell_length * k)

abbrev pub value_at : List ℕ → ℕ → ℕ
value_at bytes k = word_at bytes (cell_length * k + 2)

-- Addresses strictly ascend.
unfoldable pub ascends_at : List ℕ → ℕ → Bool
ascends_at bytes k = cond (eqb k 0) true (ltb (address_at bytes (k - 1)) (address_at bytes k))

-- A set's map has at most 128 cells, one given to simulation or replay 256.
abbrev pub set_cells : ℕ
set_cells = 128

abbrev pub run_cells : ℕ
run_cells = 256

-- A map is accepted unless 9 refuses it: whole records, at most `limit` of them (128 for a set's map, 256 in simulation and replay).
unfoldable pub map_accepted : ℕ → List ℕ → Bool
map_accepted limit bytes =
    eqb (length bytes % cell_length) 0 && leb (cells bytes) limit && every (cells bytes) (ascends_at bytes)

-- ---- cells by address

-- the first of n cells at address a, n where there is none; `address` gives each cell's
abbrev pub cell_at : (ℕ → ℕ) → ℕ → ℕ → ℕ
cell_at address n a = least n (λ k. eqb (address k) a)

-- one of n cells is at address a
abbrev pub holds : (ℕ → ℕ) → ℕ → ℕ → Bool
holds address n a = ltb (cell_at address n a) n

-- what stands at address a in n cells, 0 where none is at a
abbrev pub content : (ℕ → ℕ) → (ℕ → ℕ) → ℕ → ℕ → ℕ
content address value n a = cond (holds address n a) (value (cell_at address n a)) 0

-- the map has a cell at address a, and its value, 0 where there is none
abbrev pub mapped : List ℕ → ℕ → Bool
mapped bytes a = holds (address_at bytes) (cells bytes) a

abbrev pub map_value : List ℕ → ℕ → ℕ
map_value bytes a = content (address_at bytes) (value_at bytes) (cells bytes) a
