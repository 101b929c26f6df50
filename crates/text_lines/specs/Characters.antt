-- The bytes of a set text: blanks, digits, letters, and runs of them (document 01, "Set text"). A reader of the calls believes this. Assumes nothing.
use Rattle.std.specs.Prelude.{ℕ, ◌+◌, ◌-◌, ◌*◌, Bool, cond, not, ◌&&◌, ◌||◌, List, [], ◌∷◌, eqb, leb, length, get_or, take, drop}
use Rattle.std.specs.List.{prefix_len}

-- ---- bytes

-- tab, LF and 32 to 126
abbrev pub allowed_byte : ℕ → Bool
allowed_byte b = eqb b 9 || eqb b 10 || leb 32 b && leb b 126

-- A blank is a space or tab.
abbrev pub is_blank : ℕ → Bool
is_blank b = eqb b 32 || eqb b 9

-- 0 to 9
abbrev pub is_digit : ℕ → Bool
is_digit b = leb 48 b && leb b 57

-- letters, digits or underscores
abbrev pub is_name_byte : ℕ → Bool
is_name_byte b = leb 65 b && leb b 90 || leb 97 b && leb b 122 || is_digit b || eqb b 95

-- all but "#"
abbrev pub is_code : ℕ → Bool
is_code b = not (eqb b 35)

-- all but LF
abbrev pub is_in_line : ℕ → Bool
is_in_line b = not (eqb b 10)

-- ---- runs of bytes

-- how many bytes at the start of s pass a test, up to the first that does not
abbrev pub run : (ℕ → Bool) → List ℕ → ℕ
run test s = prefix_len test s

abbrev pub blanks : List ℕ → ℕ
blanks s = run is_blank s

abbrev pub digits : List ℕ → ℕ
digits s = run is_digit s

abbrev pub name_bytes : List ℕ → ℕ
name_bytes s = run is_name_byte s

-- s past the blanks at its start
abbrev pub skip : List ℕ → List ℕ
skip s = drop (blanks s) s

-- s holds only blanks
abbrev pub only_blanks : List ℕ → Bool
only_blanks s = eqb (blanks s) (length s)

-- the name at the start of s, and s past it
abbrev pub name : List ℕ → List ℕ
name s = take (name_bytes s) s

abbrev pub past_name : List ℕ → List ℕ
past_name s = drop (name_bytes s) s

-- s past the digits at its start
abbrev pub past_digits : List ℕ → List ℕ
past_digits s = drop (digits s) s

-- Numbers are decimal digits: the value of those at the start of s, after digits of value v.
unfoldable pub value_after : ℕ → List ℕ → ℕ
value_after v [] = v
value_after v (b ∷ s) = cond (is_digit b) (value_after (v * 10 + (b - 48)) s) v

abbrev pub value : List ℕ → ℕ
value s = value_after 0 s

-- the byte that s starts with, 0 where it has none
abbrev pub first : List ℕ → ℕ
first s = get_or s 0 0

-- s is byte b and nothing after it but blanks
abbrev pub ends_with : ℕ → List ℕ → Bool
ends_with b s = eqb (first s) b && only_blanks (drop 1 s)
