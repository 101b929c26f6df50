-- The definitions run on samples: sets and maps that are accepted, and one for each reason to refuse. Assumes nothing.
use Prim.Native.Nat.{ℕ, zero, suc}
use mathlib.Core.Path.{◌≡◌, refl}
use mathlib.Core.Bool.{true, not, ◌&&◌}
use mathlib.Core.List.{List, [], ◌∷◌}
use Rattle.base.specs.Below.{every, some, number, least}
use Rattle.base.specs.Bytes.{word, same}
use Rattle.records.specs.Instructions.{LOAD, STORE, ADDI, JMP, JZ, HALT, EXIT, CHECK, words, word_of}
use Rattle.records.specs.Maps.{ascends_at, map_accepted}
use Rattle.records.specs.Sets.{threads_of, count_of, start_of, follows, argument_fits, record_fits, opens_at, set_accepted, layout_of}

-- a record before the rest: thread, instruction, mode, argument, pc
row : ℕ → ℕ → ℕ → ℕ → ℕ → List ℕ → List ℕ
row thread instruction mode argument pc rest = thread ∷ instruction ∷ mode ∷ 0 ∷ word argument (word pc rest)

-- threads (ADDI 1, STORE 0) and (LOAD 0, JZ 3, EXIT 0, EXIT 7), with the HALT that the first gains
two_threads : List ℕ
two_threads = row 0 ADDI 0 1 0 (row 0 STORE 0 0 1 (row 0 HALT 0 0 2 (row 1 LOAD 0 0 0 (row 1 JZ 0 3 1 (row 1 EXIT 0 0 2 (row 1 EXIT 0 7 3 []))))))

two-threads : layout_of two_threads ≡ record { threads = 2; starts = 0 ∷ 3 ∷ 7 ∷ 7 ∷ []; counts = 3 ∷ 4 ∷ 0 ∷ 0 ∷ [] }
unfolding two_threads row layout_of set_accepted every follows record_fits argument_fits opens_at some number threads_of count_of start_of
two-threads = refl

-- n statements of one thread, ADDI 1 and a last HALT
adds : ℕ → ℕ → List ℕ
adds zero pc = row 0 HALT 0 0 pc []
adds (suc n) pc = row 0 ADDI 0 1 pc (adds n (suc pc))

-- n CHECKs of different checkpoints and a last HALT
checks : ℕ → ℕ → List ℕ
checks zero pc = row 0 HALT 0 0 pc []
checks (suc n) pc = row 0 CHECK 0 pc pc (checks n (suc pc))

accepted-sets : (set_accepted (row 0 EXIT 0 1 0 []) && set_accepted (row 0 LOAD 1 5 0 (row 0 JMP 0 1 1 [])) && set_accepted (adds 31 0) && set_accepted (checks 8 0)) ≡ true
unfolding row adds checks set_accepted every follows record_fits argument_fits opens_at some number count_of
accepted-sets = refl

-- no record; no whole record; a thread not ended; a jump beyond; mode 1 on ADDI; HALT with an argument; a gap in pcs; thread 1 first; an unknown instruction
refused-sets :
    (not (set_accepted []) && not (set_accepted (0 ∷ row 0 EXIT 0 1 0 [])) && not (set_accepted (row 0 ADDI 0 1 0 []))
    && not (set_accepted (row 0 JMP 0 1 0 [])) && not (set_accepted (row 0 ADDI 1 1 0 (row 0 HALT 0 0 1 [])))
    && not (set_accepted (row 0 HALT 0 1 0 [])) && not (set_accepted (row 0 ADDI 0 1 0 (row 0 HALT 0 0 2 [])))
    && not (set_accepted (row 1 HALT 0 0 0 [])) && not (set_accepted (row 0 20 0 0 0 (row 0 HALT 0 0 1 []))))
    ≡ true
unfolding row set_accepted every follows record_fits argument_fits opens_at some number count_of
refused-sets = refl

-- 33 statements; 9 checkpoints; 5 threads
refused-limits :
    (not (set_accepted (adds 32 0)) && not (set_accepted (checks 9 0))
    && not (set_accepted (row 0 HALT 0 0 0 (row 1 HALT 0 0 0 (row 2 HALT 0 0 0 (row 3 HALT 0 0 0 (row 4 HALT 0 0 0 [])))))))
    ≡ true
unfolding row adds checks set_accepted every follows record_fits argument_fits opens_at some number count_of
refused-limits = refl

-- an empty map; two cells; addresses that do not ascend; no whole record; more than the limit
maps :
    (map_accepted 128 [] && map_accepted 2 (word 4 (word 9 (word 5 (word 9 [])))) && not (map_accepted 2 (word 4 (word 9 (word 4 (word 9 [])))))
    && not (map_accepted 2 (word 4 [])) && not (map_accepted 1 (word 4 (word 9 (word 5 (word 9 []))))))
    ≡ true
unfolding map_accepted ascends_at every
maps = refl

-- JNZ is 11, and FLUSH no word
known-words : least 20 (λ n. same (74 ∷ 78 ∷ 90 ∷ []) (word_of n)) ∷ least 20 (λ n. same (70 ∷ 76 ∷ 85 ∷ 83 ∷ 72 ∷ []) (word_of n)) ∷ [] ≡ 11 ∷ 20 ∷ []
unfolding least words word_of
known-words = refl
