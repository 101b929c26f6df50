-- Bytes in slices: little-endian fields, and bytes written at a place. A reader of the calls believes this. Assumes nothing.
use Rattle.std.specs.Str.{bytes_eq}
use Rattle.std.specs.Prelude.{ℕ, ◌+◌, ◌*◌, ◌/◌, ◌%◌, Bool, cond, List, ◌∷◌, ◌++◌, length, take, drop, nat_le, slice_index}

-- the word whose two bytes stand from index i on, low byte first
abbrev pub word_at : List ℕ → ℕ → ℕ
word_at s i = slice_index s i + 256 * slice_index s (i + 1)

-- the two bytes of a word, low byte first, before the rest
abbrev pub word : ℕ → List ℕ → List ℕ
word n rest = n % 256 ∷ n / 256 ∷ rest

-- xs with ys from index i on
unfoldable pub splice : List ℕ → ℕ → List ℕ → List ℕ
splice xs i ys = take i xs ++ (ys ++ drop (i + length ys) xs)

-- xs with ys from index i on, and xs as it is where ys does not fit there
unfoldable pub placed : List ℕ → ℕ → List ℕ → List ℕ
placed xs i ys = cond (nat_le (i + length ys) (length xs)) (splice xs i ys) xs

-- xs with ys from its start on
unfoldable pub over : List ℕ → List ℕ → List ℕ
over ys xs = ys ++ drop (length ys) xs

-- two lists of bytes are the same
abbrev pub same : List ℕ → List ℕ → Bool
same = bytes_eq
