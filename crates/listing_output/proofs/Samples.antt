-- Listings computed by the definition: document 01's own, and one for each last line and each form of an item. Assumes nothing.
use Prim.Native.Nat.{ℕ, zero, suc}
use mathlib.Core.Path.{◌≡◌, refl}
use mathlib.Core.List.{List, [], ◌∷◌, ◌++◌, map}
use Rattle.base.specs.Below.{every, some, number, least}
use Rattle.base.specs.Bytes.{word}
use Rattle.records.specs.Sets.{threads_of, count_of, start_of, follows, argument_fits, record_fits, opens_at, set_accepted}
use Rattle.records.specs.Instructions.{LOAD, STORE, FENCE, ADDI, JMP, JZ, MEM, CAS, HALT, EXIT, CHECK, words, word_of}
use Rattle.records.specs.Maps.{ascends_at, map_accepted}
use Rattle.machine.specs.Machine.{address, word_taken, cells_read, row, jumps, next_pc, executed, cas_matches, contains, opened, waiting, permitted, acted, leaves_mark, cleared, written, step, reads}
use Rattle.machine.specs.Maps.{begin, outcome, advanced}
use Rattle.machine.specs.Runs.{some_permitted, end_of}
use Rattle.machine.specs.Traces.{shown}
use Rattle.listing_output.specs.Listings.{text, places, decimal, name, argument, cell, line_of, line, last_line, refused_line, lowest, listing_from, listing}

-- a statement: instruction, mode, argument
pub record Row : Type 0 where
  pub instruction : ℕ
  pub mode : ℕ
  pub argument : ℕ

-- a direct statement
does : ℕ → ℕ → Row
does instruction argument = record { instruction = instruction; mode = 0; argument = argument }

indirect : ℕ → ℕ → Row
indirect instruction argument = record { instruction = instruction; mode = 1; argument = argument }

-- the records of thread t's statements from pc on
statements : ℕ → ℕ → List Row → List ℕ
statements t pc [] = []
statements t pc (r ∷ rows) = t ∷ r.instruction ∷ r.mode ∷ 0 ∷ word r.argument (word pc (statements t (suc pc) rows))

-- the records of threads from number t on
threads : ℕ → List (List Row) → List ℕ
threads t [] = []
threads t (rows ∷ more) = statements t 0 rows ++ threads (suc t) more

-- a text n times
times : ℕ → List ℕ → List ℕ
times zero bytes = []
times (suc n) bytes = bytes ++ times n bytes

-- a word for each length, and the largest
numbers : map decimal (0 ∷ 9 ∷ 10 ∷ 100 ∷ 999 ∷ 1000 ∷ 9999 ∷ 10000 ∷ 65535 ∷ [])
    ≡ map (λ s. text s) ("0" ∷ "9" ∷ "10" ∷ "100" ∷ "999" ∷ "1000" ∷ "9999" ∷ "10000" ∷ "65535" ∷ [])
unfolding decimal places
numbers = refl

-- document 01's listing; the first thread has gained its HALT
two-threads :
    listing (threads 0 ((does ADDI 1 ∷ does STORE 0 ∷ does HALT 0 ∷ []) ∷ (does LOAD 0 ∷ does JZ 3 ∷ does EXIT 0 ∷ does EXIT 7 ∷ []) ∷ [])) (word 0 (word 0 []))
    ≡ text "0 0 ADDI 1 0 0 0 0 0 {}\n"
    ++ text "0 1 STORE 0 1 0 0 0 0 {}\n"
    ++ text "1 0 LOAD 0 0 0 0 0 0 {}\n"
    ++ text "1 1 JZ 3 0 0 0 0 0 {}\n"
    ++ text "1 3 EXIT 7 0 0 0 0 0 {}\n"
    ++ text "end 7\n"
unfolding does threads statements listing listing_from lowest refused_line last_line line line_of cell argument name decimal places words word_of begin outcome advanced end_of some_permitted shown step reads written cleared leaves_mark acted permitted waiting opened contains cas_matches executed next_pc jumps row cells_read word_taken address ascends_at map_accepted set_accepted opens_at record_fits argument_fits follows start_of count_of threads_of every some number least
two-threads = refl

-- an indirect argument, a flush, and the cell that it wrote
flushes :
    listing (threads 0 ((does ADDI 10 ∷ indirect STORE 5 ∷ does FENCE 0 ∷ does HALT 0 ∷ []) ∷ [])) (word 5 (word 7 []))
    ≡ text "0 0 ADDI 10 0 0 0 0 0 {}\n"
    ++ text "0 1 STORE [5] 10 0 0 0 0 {}\n"
    ++ text "0 2 FLUSH - 10 0 7 10 1 {}\n"
    ++ text "0 2 FENCE - 10 0 7 10 0 {(7,10)}\n"
    ++ text "0 3 HALT - 10 0 7 10 0 {}\n"
    ++ text "end 0\n"
unfolding does indirect threads statements listing listing_from lowest refused_line last_line line line_of cell argument name decimal places words word_of begin outcome advanced end_of some_permitted shown step reads written cleared leaves_mark acted permitted waiting opened contains cas_matches executed next_pc jumps row cells_read word_taken address ascends_at map_accepted set_accepted opens_at record_fits argument_fits follows start_of count_of threads_of every some number least
flushes = refl

-- every execute comes before a flush, and the lowest flush before the other
two-flushes :
    listing (threads 0 ((does STORE 1 ∷ does HALT 0 ∷ []) ∷ (does STORE 2 ∷ does HALT 0 ∷ []) ∷ [])) []
    ≡ text "0 0 STORE 1 0 0 0 0 0 {}\n"
    ++ text "1 0 STORE 2 0 0 0 0 0 {}\n"
    ++ text "0 1 FLUSH - 0 0 1 0 1 {}\n"
    ++ text "0 1 HALT - 0 0 1 0 0 {(1,0)}\n"
    ++ text "1 1 FLUSH - 0 0 2 0 1 {}\n"
    ++ text "1 1 HALT - 0 0 2 0 0 {(2,0)}\n"
    ++ text "end 0\n"
unfolding does threads statements listing listing_from lowest refused_line last_line line line_of cell argument name decimal places words word_of begin outcome advanced end_of some_permitted shown step reads written cleared leaves_mark acted permitted waiting opened contains cas_matches executed next_pc jumps row cells_read word_taken address ascends_at map_accepted set_accepted opens_at record_fits argument_fits follows start_of count_of threads_of every some number least
two-flushes = refl

-- a CAS that matched
matches :
    listing (threads 0 ((does MEM 4 ∷ does ADDI 1 ∷ does CAS 4 ∷ does HALT 0 ∷ []) ∷ [])) (word 4 (word 9 []))
    ≡ text "0 0 MEM 4 0 0 0 0 0 {}\n"
    ++ text "0 1 ADDI 1 9 9 0 0 0 {}\n"
    ++ text "0 2 CAS 4 10 9 0 0 0 {}\n"
    ++ text "0 3 HALT - 1 9 0 0 0 {(4,10)}\n"
    ++ text "end 0\n"
unfolding does threads statements listing listing_from lowest refused_line last_line line line_of cell argument name decimal places words word_of begin outcome advanced end_of some_permitted shown step reads written cleared leaves_mark acted permitted waiting opened contains cas_matches executed next_pc jumps row cells_read word_taken address ascends_at map_accepted set_accepted opens_at record_fits argument_fits follows start_of count_of threads_of every some number least
matches = refl

-- a thread waits at a checkpoint that a halted thread contains
gets-stuck :
    listing (threads 0 ((does CHECK 1 ∷ does HALT 0 ∷ []) ∷ (does HALT 0 ∷ does CHECK 1 ∷ does HALT 0 ∷ []) ∷ [])) []
    ≡ text "0 0 CHECK 1 0 0 0 0 0 {}\n"
    ++ text "1 0 HALT - 0 0 0 0 0 {}\n"
    ++ text "stuck\n"
unfolding does threads statements listing listing_from lowest refused_line last_line line line_of cell argument name decimal places words word_of begin outcome advanced end_of some_permitted shown step reads written cleared leaves_mark acted permitted waiting opened contains cas_matches executed next_pc jumps row cells_read word_taken address ascends_at map_accepted set_accepted opens_at record_fits argument_fits follows start_of count_of threads_of every some number least
gets-stuck = refl

-- 64 steps, and a choice is still permitted
stays_open : listing (threads 0 ((does JMP 0 ∷ []) ∷ [])) [] ≡ times 64 (text "0 0 JMP 0 0 0 0 0 0 {}\n") ++ text "open\n"
unfolding does threads statements times listing listing_from lowest refused_line last_line line line_of cell argument name decimal places words word_of begin outcome advanced end_of some_permitted shown step reads written cleared leaves_mark acted permitted waiting opened contains cas_matches executed next_pc jumps row cells_read word_taken address ascends_at map_accepted set_accepted opens_at record_fits argument_fits follows start_of count_of threads_of every some number least
stays_open = refl

-- a first cell read that the map lacks, after the line of the step before; no set
is-refused :
    (listing (threads 0 ((does ADDI 65535 ∷ does LOAD 9 ∷ does HALT 0 ∷ []) ∷ [])) [] ≡ text "0 0 ADDI 65535 0 0 0 0 0 {}\nrefused 14\n")
    × (listing [] [] ≡ text "refused 9\n")
unfolding does threads statements listing listing_from lowest refused_line last_line line line_of cell argument name decimal places words word_of begin outcome advanced end_of some_permitted shown step reads written cleared leaves_mark acted permitted waiting opened contains cas_matches executed next_pc jumps row cells_read word_taken address ascends_at map_accepted set_accepted opens_at record_fits argument_fits follows start_of count_of threads_of every some number least
is-refused = (refl, refl)
