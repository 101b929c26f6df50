-- The lines of a set text, and what each may hold (document 01, "Set text"). A reader of the calls believes this. Assumes nothing.
use Rattle.std.specs.Prelude.{ℕ, Bool, cond, not, ◌&&◌, ◌||◌, List, [], ◌∷◌, Option, None, Some, Result, Ok, Err, eqb, ltb, leb, length, take, drop}
use Rattle.base.specs.Below.{least}
use Rattle.base.specs.Bytes.{same, over}
use Rattle.records.specs.Instructions.{instructions, is_memory, is_jump, is_bare, word_of}
use Rattle.text_lines.specs.Characters.{allowed_byte, is_blank, is_digit, is_code, is_in_line, run, digits, skip, only_blanks, name, past_name, past_digits, value, first, ends_with}
use Rattle.records.specs.declared.Cell.{Cell}
use Rattle.records.specs.declared.refusals.Refusal.{Refusal}
use Rattle.records.specs.declared.refusals.Refusal.TheVariants.{Malformed, Number}
use Rattle.text_lines.specs.declared.Stated.{Stated}

-- ---- lines

-- the bytes up to the first LF
abbrev pub first_line : List ℕ → List ℕ
first_line text = take (run is_in_line text) text

-- a byte more at the start of the first line
abbrev pub extended : ℕ → List (List ℕ) → List (List ℕ)
extended b [] = (b ∷ []) ∷ []
extended b (l ∷ ls) = (b ∷ l) ∷ ls

-- the lines of a text, parted by LF
unfoldable pub lines : List ℕ → List (List ℕ)
lines [] = [] ∷ []
lines (b ∷ s) = let ls = lines s in cond (is_in_line b) (extended b ls) ([] ∷ ls)

-- Sections end at a line holding only "." and blanks; such a line has no comment.
unfoldable pub is_dot : List ℕ → Bool
is_dot l = ends_with 46 (skip l)

-- A line may end in a comment from "#".
abbrev pub uncommented : List ℕ → List ℕ
uncommented l = take (run is_code l) l

-- no byte is forbidden, in a comment neither
abbrev pub is_allowed : List ℕ → Bool
is_allowed l = eqb (run allowed_byte l) (length l)

-- what a line that is not empty holds
abbrev pub held : {A : Type 0} → Result A Refusal → Result (Option A) Refusal
held (Ok x) = Ok (Some x)
held (Err refusal) = Err refusal

-- ---- statements

-- sixteen bytes 0: no label
abbrev pub unlabelled : List ℕ
unlabelled = 0 ∷ 0 ∷ 0 ∷ 0 ∷ 0 ∷ 0 ∷ 0 ∷ 0 ∷ 0 ∷ 0 ∷ 0 ∷ 0 ∷ 0 ∷ 0 ∷ 0 ∷ 0 ∷ []

-- a label's bytes filled up to sixteen with 0, which is in no label
unfoldable pub padded : List ℕ → List ℕ
padded label = over label unlabelled

-- the most bytes of a label
abbrev pub longest_label : ℕ
longest_label = 16

-- Labels have 1 to 16 letters, digits or underscores, no digit first; w is a name.
unfoldable pub is_label : List ℕ → Bool
is_label w = ltb 0 (length w) && leb (length w) longest_label && not (is_digit (first w))

-- a statement whose argument, if it has one, is a number
unfoldable pub stated : List ℕ → ℕ → ℕ → ℕ → Result Stated Refusal
stated label number mode argument =
    cond (ltb 65535 argument) (Err Number)
    (Ok (record { label = label; number = number; mode = mode; argument = argument; target = unlabelled }))

-- number, and nothing after it
unfoldable pub numbered : List ℕ → ℕ → List ℕ → Result Stated Refusal
numbered label number s =
    cond (ltb 0 (digits s) && only_blanks (past_digits s)) (stated label number 0 (value s)) (Err Malformed)

-- number and "]", and nothing after it
unfoldable pub bracketed : List ℕ → ℕ → List ℕ → Result Stated Refusal
bracketed label number s =
    cond (ltb 0 (digits s) && ends_with 93 (skip (past_digits s))) (stated label number 1 (value s)) (Err Malformed)

-- label, and nothing after it
unfoldable pub targeted : List ℕ → ℕ → List ℕ → Result Stated Refusal
targeted label number s =
    cond (is_label (name s) && only_blanks (past_name s))
    (Ok (record { label = label; number = number; mode = 0; argument = 0; target = padded (name s) })) (Err Malformed)

-- Number or [number] for LOAD, STORE, ADD, SUB, MUL, MEM, CAS; number or label for jumps; number otherwise.
unfoldable pub argued : List ℕ → ℕ → List ℕ → Result Stated Refusal
argued label number s =
    cond (is_memory number && eqb (first s) 91) (bracketed label number (skip (drop 1 s)))
    (cond (is_jump number && not (is_digit (first s))) (targeted label number s)
    (numbered label number s))

-- What follows the word: no argument for FENCE and HALT; blanks part word and argument.
unfoldable pub after_word : List ℕ → ℕ → List ℕ → Result Stated Refusal
after_word label number s =
    cond (leb instructions number) (Err Malformed)
    (cond (is_bare number) (cond (only_blanks s) (stated label number 0 0) (Err Malformed))
    (cond (is_blank (first s)) (argued label number (skip s)) (Err Malformed)))

-- An instruction word matches letter for letter, in capitals.
unfoldable pub worded : List ℕ → List ℕ → Result Stated Refusal
worded label s = after_word label (least instructions (λ n. same (name s) (word_of n))) (past_name s)

-- A statement is an optional label and ":", a word, and its argument.
unfoldable pub labelled : List ℕ → Result Stated Refusal
labelled s =
    cond (eqb (first (skip (past_name s))) 58)
    (cond (is_label (name s)) (worded (padded (name s)) (skip (drop 1 (skip (past_name s))))) (Err Malformed))
    (worded unlabelled s)

-- A line may be empty.
unfoldable pub statement : List ℕ → Result (Option Stated) Refusal
statement s = cond (only_blanks s) (Ok None) (held (labelled (skip s)))

-- what a thread's line holds
unfoldable pub statement_line : List ℕ → Result (Option Stated) Refusal
statement_line l = cond (is_allowed l) (statement (uncommented l)) (Err Malformed)

-- ---- map cells

-- an address and a value
unfoldable pub cell_of : ℕ → ℕ → Result Cell Refusal
cell_of address value = cond (ltb 65535 address || ltb 65535 value) (Err Number) (Ok (record { address = address; value = value }))

-- the value, and nothing after it
unfoldable pub valued : ℕ → List ℕ → Result Cell Refusal
valued address s = cond (ltb 0 (digits s) && only_blanks (past_digits s)) (cell_of address (value s)) (Err Malformed)

-- "address value"; blanks part address and value.
unfoldable pub addressed : List ℕ → Result Cell Refusal
addressed s =
    cond (ltb 0 (digits s) && is_blank (first (past_digits s))) (valued (value s) (skip (past_digits s))) (Err Malformed)

-- A line may be empty.
unfoldable pub cell : List ℕ → Result (Option Cell) Refusal
cell s = cond (only_blanks s) (Ok None) (held (addressed (skip s)))

-- what a line of the map holds
unfoldable pub map_line : List ℕ → Result (Option Cell) Refusal
map_line l = cond (is_allowed l) (cell (uncommented l)) (Err Malformed)
