-- A text printed into a lent output, cut where the output ends. A reader of the calls believes this. Assumes nothing.
use Rattle.std.specs.Prelude.{ℕ, min, List, length, take}
use Rattle.base.specs.Bytes.{over}

-- an output xs with a text printed from its start on, cut where the output ends
unfoldable pub printed : (text xs : List ℕ) → List ℕ
printed text xs = take (length xs) (over text xs)

-- how many bytes of a text are printed
abbrev pub count : (text xs : List ℕ) → ℕ
count text xs = min (length text) (length xs)
