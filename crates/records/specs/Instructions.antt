-- The twenty instructions by number, word and class (document 01, the table of "Machine"). A reader of the calls believes this. Assumes nothing.
use Rattle.std.specs.Prelude.{ℕ, Bool, ◌||◌, List, [], ◌∷◌, eqb, get_or}

-- ---- numbers

abbrev pub LOAD : ℕ
LOAD = 0

abbrev pub STORE : ℕ
STORE = 1

abbrev pub FENCE : ℕ
FENCE = 2

abbrev pub ADD : ℕ
ADD = 3

abbrev pub ADDI : ℕ
ADDI = 4

abbrev pub SUB : ℕ
SUB = 5

abbrev pub SUBI : ℕ
SUBI = 6

abbrev pub MUL : ℕ
MUL = 7

abbrev pub MULI : ℕ
MULI = 8

abbrev pub JMP : ℕ
JMP = 9

abbrev pub JZ : ℕ
JZ = 10

abbrev pub JNZ : ℕ
JNZ = 11

abbrev pub JS : ℕ
JS = 12

abbrev pub JNS : ℕ
JNS = 13

abbrev pub JNZNS : ℕ
JNZNS = 14

abbrev pub MEM : ℕ
MEM = 15

abbrev pub CAS : ℕ
CAS = 16

abbrev pub HALT : ℕ
HALT = 17

abbrev pub EXIT : ℕ
EXIT = 18

abbrev pub CHECK : ℕ
CHECK = 19

-- how many instructions there are; as a number it names none, and a flush in a trace
abbrev pub instructions : ℕ
instructions = 20

-- ---- classes

-- memory words: LOAD, STORE, ADD, SUB, MUL, MEM, CAS
abbrev pub is_memory : ℕ → Bool
is_memory n = eqb n LOAD || eqb n STORE || eqb n ADD || eqb n SUB || eqb n MUL || eqb n MEM || eqb n CAS

-- jumps: JMP, JZ, JNZ, JS, JNS, JNZNS
abbrev pub is_jump : ℕ → Bool
is_jump n = eqb n JMP || eqb n JZ || eqb n JNZ || eqb n JS || eqb n JNS || eqb n JNZNS

-- no argument: FENCE, HALT
abbrev pub is_bare : ℕ → Bool
is_bare n = eqb n FENCE || eqb n HALT

-- what a thread may end in: EXIT, JMP, HALT
abbrev pub is_last : ℕ → Bool
is_last n = eqb n EXIT || eqb n JMP || eqb n HALT

-- ---- words

-- the twenty words by number, as the bytes of their letters
unfoldable pub words : List (List ℕ)
words =
    (76 ∷ 79 ∷ 65 ∷ 68 ∷ []) ∷  -- LOAD
    (83 ∷ 84 ∷ 79 ∷ 82 ∷ 69 ∷ []) ∷  -- STORE
    (70 ∷ 69 ∷ 78 ∷ 67 ∷ 69 ∷ []) ∷  -- FENCE
    (65 ∷ 68 ∷ 68 ∷ []) ∷  -- ADD
    (65 ∷ 68 ∷ 68 ∷ 73 ∷ []) ∷  -- ADDI
    (83 ∷ 85 ∷ 66 ∷ []) ∷  -- SUB
    (83 ∷ 85 ∷ 66 ∷ 73 ∷ []) ∷  -- SUBI
    (77 ∷ 85 ∷ 76 ∷ []) ∷  -- MUL
    (77 ∷ 85 ∷ 76 ∷ 73 ∷ []) ∷  -- MULI
    (74 ∷ 77 ∷ 80 ∷ []) ∷  -- JMP
    (74 ∷ 90 ∷ []) ∷  -- JZ
    (74 ∷ 78 ∷ 90 ∷ []) ∷  -- JNZ
    (74 ∷ 83 ∷ []) ∷  -- JS
    (74 ∷ 78 ∷ 83 ∷ []) ∷  -- JNS
    (74 ∷ 78 ∷ 90 ∷ 78 ∷ 83 ∷ []) ∷  -- JNZNS
    (77 ∷ 69 ∷ 77 ∷ []) ∷  -- MEM
    (67 ∷ 65 ∷ 83 ∷ []) ∷  -- CAS
    (72 ∷ 65 ∷ 76 ∷ 84 ∷ []) ∷  -- HALT
    (69 ∷ 88 ∷ 73 ∷ 84 ∷ []) ∷  -- EXIT
    (67 ∷ 72 ∷ 69 ∷ 67 ∷ 75 ∷ []) ∷ []  -- CHECK

-- the word of instruction n; [] where no instruction has that number
unfoldable pub word_of : ℕ → List ℕ
word_of n = get_or words n []
