-- Records that repeat earlier ones of the same table, with their operands moved on. This serves the code; no call's promise needs it. Assumes
-- nothing.
use Rattle.std.specs.Prelude.{ℕ, ◌+◌, ◌-◌, ◌*◌, Bool, cond, ◌&&◌, List, [], ◌∷◌, leb, ltb, length}
use Rattle.table.specs.declared.Formula.{Formula}
use Rattle.table.specs.Formulas.{formula_at, written_at, formula_length}
use Rattle.table.specs.Programs.{upto}

-- what lies before record `first` stays, the others lie `stride` records further
unfoldable pub moved_by : (first stride x : ℕ) → ℕ
moved_by first stride x = cond (ltb x first) x (x + stride)

-- a record with its operands moved; the operations up to 3 have none
unfoldable pub repeated : (first stride : ℕ) → Formula → Formula
repeated first stride x =
    cond (ltb 3 x.operation) (record {
      operation = x.operation;
      sort = x.sort;
      constant = x.constant;
      a = moved_by first stride x.a;
      b = moved_by first stride x.b;
      c = moved_by first stride x.c;
    }) x

-- the last index that the encoder writes from
abbrev pub last_index : ℕ
last_index = 2000000000

-- whether so many records from record `at` on can repeat those `stride` before them: these are all written earlier, and there is room
abbrev pub repeatable : (size at count stride : ℕ) → Bool
repeatable size at count stride = leb count stride && leb stride at && leb (at + count) last_index && leb (formula_length * (at + count)) size

-- bytes with `count` records from record `at` on, each repeating the one `stride` before it; the bytes as they are where that cannot be
unfoldable pub repeated_at : (out : List ℕ) (at count first stride : ℕ) → List ℕ
repeated_at out at count first stride =
    cond (repeatable (length out) at count stride)
    (written_at out at (upto (λ j. repeated first stride (formula_at out (at - stride + j)) ∷ []) count)) out
