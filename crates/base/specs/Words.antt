-- Words of 16 bits (document 01, "Machine"). A reader of the calls believes this. Assumes nothing.
use Rattle.std.specs.Prelude.{ℕ, ◌+◌, ◌-◌, ◌*◌, ◌%◌, Bool, nat_le}

-- ADD, SUB and MUL and their I forms keep the low 16 bits.
abbrev pub plus : ℕ → ℕ → ℕ
plus a b = (a + b) % 65536

abbrev pub minus : ℕ → ℕ → ℕ
minus a b = (a + (65536 - b)) % 65536

abbrev pub times : ℕ → ℕ → ℕ
times a b = (a * b) % 65536

-- the top bit of a word
abbrev pub top_bit : ℕ → Bool
top_bit a = nat_le 32768 a
