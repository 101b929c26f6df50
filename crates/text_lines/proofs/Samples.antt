-- The definitions run on samples: lines that hold a statement or a cell, lines that hold nothing, and lines refused for each reason. Assumes nothing.
use Prim.Native.Nat.{ℕ, zero, suc}
use Prim.Native.Char.{code}
use Prim.Native.String.{String, [] as none, ◌∷◌ as ◌then◌}
use mathlib.Core.Path.{◌≡◌, refl}
use Rattle.std.specs.Prelude.{Option, None, Some, Result, Ok, Err}
use mathlib.Core.Bool.{true, false}
use mathlib.Core.List.{List, [], ◌∷◌, ◌++◌, map}
use Rattle.base.specs.Below.{least}
use Rattle.base.specs.Bytes.{over}
use Rattle.records.specs.Instructions.{LOAD, FENCE, ADDI, JMP, JNZNS, HALT, CHECK, words, word_of}
use Rattle.text_lines.specs.Characters.{value_after}
use Rattle.text_lines.specs.Lines.{lines, is_dot, padded, is_label, stated, numbered, bracketed, targeted, argued, after_word, worded, labelled, statement, statement_line}
use Rattle.text_lines.specs.Lines.{cell_of, valued, addressed, cell, map_line}
use Rattle.records.specs.declared.Cell.{Cell}
use Rattle.records.specs.declared.refusals.Refusal.{Refusal}
use Rattle.records.specs.declared.refusals.Refusal.TheVariants.{Malformed, Number}
use Rattle.text_lines.specs.declared.Stated.{Stated}

-- the bytes of a text
bytes : String → List ℕ
bytes none = []
bytes (c then s) = code c ∷ bytes s

-- each of some texts, and what a function makes of it, in order
abbrev Gives : {A : Type 0} → (List ℕ → A) → List (String × A) → Type 0
Gives f samples = map (λ s. f (bytes s.0)) samples ≡ map (λ s. s.1) samples

-- a function makes the same of each of some texts
abbrev Each : {A : Type 0} → (List ℕ → A) → List String → A → Type 0
Each f texts x = map (λ s. f (bytes s)) texts ≡ map (λ _. x) texts

-- a well-formed statement: label, word, mode, argument, target
holds : String → ℕ → ℕ → ℕ → String → Result (Option Stated) Refusal
holds label number mode argument target =
    Ok (Some (record { label = padded (bytes label); number = number; mode = mode; argument = argument; target = padded (bytes target) }))

-- ---- statements

-- numbers, brackets, and comments straight after an item
good-arguments :
    Gives statement_line
    (("ADDI 1", holds "" ADDI 0 1 "")
    ∷ ("ADDI 0000000001", holds "" ADDI 0 1 "")
    ∷ ("ADDI 65535", holds "" ADDI 0 65535 "")
    ∷ ("LOAD [5]", holds "" LOAD 1 5 "")
    ∷ ("LOAD\t[ 5 ]", holds "" LOAD 1 5 "")
    ∷ ("LOAD 5#x", holds "" LOAD 0 5 "")
    ∷ ("HALT#x", holds "" HALT 0 0 "")
    ∷ (" FENCE\t# a # . :", holds "" FENCE 0 0 "")
    ∷ ("CHECK 7", holds "" CHECK 0 7 "")
    ∷ ("JMP 65535", holds "" JMP 0 65535 "") ∷ [])
unfolding bytes value_after padded over is_label stated numbered bracketed targeted argued after_word worded labelled statement statement_line least words word_of holds
good-arguments = refl

-- a label with and without blanks around the colon; one that is an instruction's word, in both places; one of 16 characters
good-labels :
    Gives statement_line
    (("a:HALT", holds "a" HALT 0 0 "")
    ∷ ("a :HALT", holds "a" HALT 0 0 "")
    ∷ ("a: HALT", holds "a" HALT 0 0 "")
    ∷ (" a : HALT ", holds "a" HALT 0 0 "")
    ∷ ("LOAD: LOAD 5", holds "LOAD" LOAD 0 5 "")
    ∷ ("JMP HALT", holds "" JMP 0 0 "HALT")
    ∷ ("JMP: JMP JMP", holds "JMP" JMP 0 0 "JMP")
    ∷ ("CMP: HALT", holds "CMP" HALT 0 0 "")
    ∷ ("_b23456789012345: JNZNS _b23456789012345", holds "_b23456789012345" JNZNS 0 0 "_b23456789012345") ∷ [])
unfolding bytes value_after padded over is_label stated numbered bracketed targeted argued after_word worded labelled statement statement_line least words word_of holds
good-labels = refl

-- n zeros before the rest
zeros : ℕ → List ℕ → List ℕ
zeros zero rest = rest
zeros (suc n) rest = 48 ∷ zeros n rest

-- any number of leading zeros
five_thousand_zeros : statement_line (bytes "ADDI " ++ zeros 5000 (bytes "1")) ≡ holds "" ADDI 0 1 ""
unfolding bytes value_after padded over is_label stated numbered bracketed targeted argued after_word worded labelled statement statement_line least words word_of holds zeros
five_thousand_zeros = refl

-- lines without a statement
empty-lines :
    Each statement_line
    ("" ∷ " \t " ∷  -- nothing, blanks
    "# HALT" ∷ "\t#" ∷ [])  -- comments
    (Ok None)
unfolding bytes value_after padded over is_label stated numbered bracketed targeted argued after_word worded labelled statement statement_line least words word_of
empty-lines = refl

-- a number above 65,535
large-lines :
    Each statement_line
    ("ADDI 65536" ∷ "JMP 65536" ∷ "LOAD [65536]" ∷  -- in each kind of argument
    "a: EXIT 99999999999999999999999999" ∷ [])  -- of many digits
    (Err Number)
unfolding bytes value_after padded over is_label stated numbered bracketed targeted argued after_word worded labelled statement statement_line least words word_of
large-lines = refl

-- malformed lines and forbidden bytes
malformed-lines :
    Each statement_line
    ("a:" ∷ ": HALT" ∷ "a: b: HALT" ∷  -- label or statement lacking, two labels
    "_b234567890123456: HALT" ∷ "JMP _b234567890123456" ∷  -- a label of 17 characters
    "a-b: HALT" ∷ "JMP a-b" ∷ "1a: HALT" ∷ "JMP 1a" ∷  -- another character in a label, a digit first
    "LOAD[5]" ∷  -- no blank before the bracket
    "ADDI [1]" ∷ "JMP [5]" ∷ "LOAD [5" ∷ "LOAD 5]" ∷ "LOAD []" ∷  -- brackets not allowed, or not whole
    "LOAD" ∷ "JMP " ∷ "HALT 0" ∷ "FENCE -" ∷ "ADDI 1 2" ∷  -- no argument, or too much
    "ADDI +1" ∷ "ADDI -1" ∷ "ADDI 0x1" ∷ "ADDI 1," ∷ "ADDI 1;" ∷ "ADDI a" ∷  -- not decimal digits
    "CMP 1" ∷ "FLUSH" ∷ "halt" ∷ "HALTS" ∷ "1 2" ∷  -- no word of the table
    ".." ∷ ". ." ∷ ". # x" ∷ ".#" ∷  -- not dot lines
    "ADDI 65536 x" ∷ "ADDI 65536 #\r" ∷ "FENCE 65536" ∷ "JMP [65536]" ∷  -- 2 before 3 in a line
    "HALT\r" ∷ "HALT # \r" ∷ "# \0" ∷ "\u{b}" ∷ "HALT \u{c}" ∷ "# \u{7f}" ∷ "# \u{80}" ∷ [])  -- forbidden bytes, in a comment too
    (Err Malformed)
unfolding bytes value_after padded over is_label stated numbered bracketed targeted argued after_word worded labelled statement statement_line least words word_of
malformed-lines = refl

-- ---- map cells

-- an address and a value
pair : ℕ → ℕ → Result (Option Cell) Refusal
pair address value = Ok (Some (record { address = address; value = value }))

good-cells : Gives map_line (("1 2", pair 1 2) ∷ (" 01\t2 # x", pair 1 2) ∷ ("65535 0#", pair 65535 0) ∷ [])
unfolding bytes value_after cell_of valued addressed cell map_line pair
good-cells = refl

-- lines without a cell
empty-map-lines :
    Each map_line
    ("" ∷ " \t " ∷ "# 1 2" ∷ [])  -- nothing, blanks, a comment
    (Ok None)
unfolding bytes value_after cell_of valued addressed cell map_line
empty-map-lines = refl

-- a number above 65,535
large-cells :
    Each map_line
    ("65536 1" ∷ "1 65536" ∷ "99999999999999999999999999 65536" ∷ [])  -- either, or both
    (Err Number)
unfolding bytes value_after cell_of valued addressed cell map_line
large-cells = refl

-- malformed lines and forbidden bytes
malformed-cells :
    Each map_line
    ("1" ∷ "1 " ∷ "1 2 3" ∷  -- one number, three
    "EXIT 1" ∷ "1 -2" ∷ "1,2" ∷ "[1] 2" ∷  -- not two numbers parted by blanks
    ".." ∷ ". # x" ∷  -- not dot lines
    "65536" ∷ "65536 x" ∷ "1 65536 x" ∷  -- 2 before 3 in a line
    "1 2 # \r" ∷ [])  -- a forbidden byte in a comment
    (Err Malformed)
unfolding bytes value_after cell_of valued addressed cell map_line
malformed-cells = refl

-- ---- lines

-- one dot and blanks
dots : Each is_dot ("." ∷ " .\t" ∷ []) true
unfolding bytes is_dot
dots = refl

-- two dots, a comment, another byte, nothing
no-dots : Each is_dot (".." ∷ ". ." ∷ ". # x" ∷ ".#" ∷ ".\r" ∷ "a." ∷ "" ∷ []) false
unfolding bytes is_dot
no-dots = refl

-- with and without a last LF
texts :
    Gives lines
    (("EXIT 1\n.\n", bytes "EXIT 1" ∷ bytes "." ∷ [] ∷ [])
    ∷ ("EXIT 1\n.", bytes "EXIT 1" ∷ bytes "." ∷ [])
    ∷ ("\na\n\nb", [] ∷ bytes "a" ∷ [] ∷ bytes "b" ∷ [])
    ∷ ("", [] ∷ []) ∷ [])
unfolding bytes lines
texts = refl
