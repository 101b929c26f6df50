-- Document 01's samples, and one run for each rule of checkpoints, waiting and lacking cells, computed by the definitions. Assumes nothing.
use Prim.Native.Nat.{ℕ}
use mathlib.Core.Path.{◌≡◌, refl}
use mathlib.Core.Bool.{true, false}
use mathlib.Core.List.{List, [], ◌∷◌, ◌++◌}
use lib.ListN.{replicate, drop}
use Rattle.base.specs.Below.{every, some, number, least}
use Rattle.records.specs.Sets.{set_of, threads_of, count_of, start_of, follows, argument_fits, record_fits, opens_at, set_accepted}
use Rattle.records.specs.Instructions.{ADDI, MULI, JNZNS}
use Rattle.records.specs.Maps.{ascends_at, map_accepted, map_value}
use Rattle.machine.specs.Machine.{State, start, fresh, no_write, with_accu, address, word_taken, cells_read, row, jumps, next_pc, executed, cas_matches, contains, opened, waiting, permitted, acted, leaves_mark, cleared, written, step, reads}
use Rattle.machine.specs.Runs.{choice_of, choices, some_permitted, end_of, after}
use Rattle.machine.specs.Traces.{step_bytes, trace_step, shown, trace}
use Rattle.machine.specs.Maps.{begin, outcome, advanced, ran, refused_at, follow}
use Rattle.records.specs.declared.refusals.Refusal.TheVariants.{NotPermitted, LacksCell}
use Rattle.machine.specs.declared.End.TheVariants.{Code, Open}
use Rattle.simulation.specs.Simulation.{simulated, limited}

-- a record of thread t's statement p: number n and argument a below 256, direct
statement : (t n a p : ℕ) → List ℕ → List ℕ
statement t n a p more = t ∷ n ∷ 0 ∷ 0 ∷ a ∷ 0 ∷ p ∷ 0 ∷ more

-- ADDI 1, STORE 5, LOAD 5, JZ 5, EXIT 0, EXIT 1
set2 : List ℕ
set2 = statement 0 4 1 0 (statement 0 1 5 1 (statement 0 0 5 2 (statement 0 10 5 3 (statement 0 18 0 4 (statement 0 18 1 5 [])))))

-- JMP 0; ADDI 1, EXIT 3
set4 : List ℕ
set4 = statement 0 9 0 0 (statement 1 4 1 0 (statement 1 18 3 1 []))

-- MEM 4, ADDI 1, CAS 4, HALT
set7 : List ℕ
set7 = statement 0 15 4 0 (statement 0 4 1 1 (statement 0 16 4 2 (statement 0 17 0 3 [])))

-- STORE 0, then FENCE or CHECK 0, HALT
set8 : ℕ → List ℕ
set8 n = statement 0 1 0 0 (statement 0 n 0 1 (statement 0 17 0 2 []))

-- CHECK 1, HALT in each of two threads
meeting : List ℕ
meeting = statement 0 19 1 0 (statement 0 17 0 1 (statement 1 19 1 0 (statement 1 17 0 1 [])))

-- LOAD 9, HALT
unmapped : List ℕ
unmapped = statement 0 0 9 0 (statement 0 17 0 1 [])

-- the load of 5 is forwarded from the buffer: EXIT 0
case2 : simulated set2 (5 ∷ 0 ∷ 0 ∷ 0 ∷ []) (0 ∷ 0 ∷ 0 ∷ 0 ∷ 0 ∷ []) 120 ≡ ran 5 (Code 0)
unfolding set2 statement simulated limited follow begin outcome advanced choices choice_of end_of some_permitted step reads written cleared leaves_mark acted permitted waiting opened contains cas_matches executed next_pc jumps row cells_read word_taken address ascends_at map_accepted set_accepted opens_at record_fits argument_fits follows start_of count_of threads_of every some number least
case2 = refl

case4 : simulated set4 [] (1 ∷ 0 ∷ 1 ∷ []) 72 ≡ ran 3 (Code 3)
unfolding set4 statement simulated limited follow begin outcome advanced choices choice_of end_of some_permitted step reads written cleared leaves_mark acted permitted waiting opened contains cas_matches executed next_pc jumps row cells_read word_taken address ascends_at map_accepted set_accepted opens_at record_fits argument_fits follows start_of count_of threads_of every some number least
case4 = refl

case4-long : simulated set4 [] (replicate 60 0 ++ (1 ∷ 0 ∷ 1 ∷ [])) 1536 ≡ ran 63 (Code 3)
unfolding set4 statement simulated limited follow begin outcome advanced choices choice_of end_of some_permitted step reads written cleared leaves_mark acted permitted waiting opened contains cas_matches executed next_pc jumps row cells_read word_taken address ascends_at map_accepted set_accepted opens_at record_fits argument_fits follows start_of count_of threads_of every some number least
case4-long = refl

case6 : ((row ADDI 1 0 0 (with_accu 65535 fresh)).accu ≡ 0) × ((row MULI 300 0 0 (with_accu 300 fresh)).accu ≡ 24464)
    × (jumps JNZNS 32767 ≡ true) × (jumps JNZNS 0 ≡ false) × (jumps JNZNS 32768 ≡ false)
unfolding row jumps
case6 = (refl, refl, refl, refl, refl)

-- the state after MEM 4, ADDI 1, CAS 4 over 4→9, and the trace step of the HALT after them
state7 : State
state7 = after (set_of set7) (start (map_value (4 ∷ 0 ∷ 9 ∷ 0 ∷ []))) (choices (0 ∷ 0 ∷ 0 ∷ []))

case7 : (state7.memory 4 ≡ 10) × ((state7.threads 0).accu ≡ 1)
    × (drop 72 (trace (set_of set7) (start (map_value (4 ∷ 0 ∷ 9 ∷ 0 ∷ []))) no_write (choices (0 ∷ 0 ∷ 0 ∷ 0 ∷ [])))
    ≡ 0 ∷ 17 ∷ 3 ∷ 0 ∷ 0 ∷ 0 ∷ 0 ∷ 0 ∷ 1 ∷ 0 ∷ 9 ∷ 0 ∷ 0 ∷ 0 ∷ 0 ∷ 0 ∷ 1 ∷ 0 ∷ 4 ∷ 0 ∷ 10 ∷ 0 ∷ 0 ∷ 0 ∷ [])
unfolding state7 after trace trace_step step_bytes shown set7 statement simulated limited follow begin outcome advanced choices choice_of end_of some_permitted step reads written cleared leaves_mark acted permitted waiting opened contains cas_matches executed next_pc jumps row cells_read word_taken address ascends_at map_accepted set_accepted opens_at record_fits argument_fits follows start_of count_of threads_of every some number least
case7 = (refl, refl, refl)

-- FENCE with full 1 is not permitted; CHECK runs
case8 : (simulated (set8 2) [] (0 ∷ 0 ∷ []) 48 ≡ refused_at NotPermitted 1) × (simulated (set8 19) [] (0 ∷ 0 ∷ []) 48 ≡ ran 2 Open)
unfolding set8 statement simulated limited follow begin outcome advanced choices choice_of end_of some_permitted step reads written cleared leaves_mark acted permitted waiting opened contains cas_matches executed next_pc jumps row cells_read word_taken address ascends_at map_accepted set_accepted opens_at record_fits argument_fits follows start_of count_of threads_of every some number least
case8 = (refl, refl)

-- a marked thread waits; once both are marked, both go on
waits : (simulated meeting [] (0 ∷ 0 ∷ []) 48 ≡ refused_at NotPermitted 1) × (simulated meeting [] (0 ∷ 1 ∷ 0 ∷ 1 ∷ []) 96 ≡ ran 4 (Code 0))
unfolding meeting statement simulated limited follow begin outcome advanced choices choice_of end_of some_permitted step reads written cleared leaves_mark acted permitted waiting opened contains cas_matches executed next_pc jumps row cells_read word_taken address ascends_at map_accepted set_accepted opens_at record_fits argument_fits follows start_of count_of threads_of every some number least
waits = (refl, refl)

-- a first cell read that the map lacks
lacks : simulated unmapped [] (0 ∷ []) 24 ≡ refused_at LacksCell 0
unfolding unmapped statement simulated limited follow begin outcome advanced choices choice_of end_of some_permitted step reads written cleared leaves_mark acted permitted waiting opened contains cas_matches executed next_pc jumps row cells_read word_taken address ascends_at map_accepted set_accepted opens_at record_fits argument_fits follows start_of count_of threads_of every some number least
lacks = refl
