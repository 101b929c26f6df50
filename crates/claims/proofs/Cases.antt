-- Document 01's starred cases and those of request 2026-05 (specs/Cases.antt states them): explorations and runs by computation. Assumes nothing.
use Prim.Native.Nat.{ℕ, suc, ◌≤◌}
use mathlib.Core.Path.{◌≡◌, refl, ap, subst⁻¹}
use mathlib.Core.Bool.{true, false}
use mathlib.Core.List.{List, [], ◌∷◌}
use native.Mathlib.Omega.{arith}
use Rattle.base.specs.Below.{every, some, number, least}
use Rattle.base.specs.Words.{plus, times}
use Rattle.records.specs.Instructions.{FENCE, ADDI, MULI, JMP, HALT, CHECK}
use Rattle.records.specs.Maps.{value_at, ascends_at, map_accepted}
use Rattle.records.specs.Sets.{set_of, threads_of, count_of, start_of, follows, argument_fits, record_fits, opens_at, set_accepted}
use Rattle.machine.specs.Machine.{start, address, word_taken, cells_read, row, jumps, next_pc, executed, cas_matches, contains, opened, waiting, permitted, acted, leaves_mark, cleared, written, step, reads}
use Rattle.machine.specs.Runs.{choice_of, choices, is_run, after, some_permitted, end_of}
use Rattle.machine.specs.Maps.{begin, outcome, advanced, follow, ran}
use Rattle.machine.specs.declared.Choice.{Choice}
use Rattle.machine.specs.declared.Choice.TheVariants.{Execute}
use Rattle.machine.specs.declared.End.TheVariants.{Code, Open}
use Rattle.machine.specs.declared.Thread.{Thread}
use Rattle.simulation.specs.Simulation.{simulated, limited}
use Rattle.encoding.specs.Assignments.{assignment_of}
use Rattle.claims.specs.Cases.{set1, set2, set3, set4, set5, set7, set8, set_alone, set_meeting, cell, statement, Accepted, Satisfiable, after7, marked_alone, StarredCases, Refuses}
use Rattle.claims.specs.Tables.{IsMemory, Agrees, Fails, Satisfying}
use Rattle.claims.proofs.Explored.{explored, mapped_over, agrees-over, unsatisfiable}
use Rattle.claims.proofs.Tables.{table_means_the_program, assignments_match_runs}

-- ---- sets and maps are accepted

accepted1 : (code : ℕ) → Accepted (set1 code) []
unfolding set1 ascends_at map_accepted set_accepted opens_at record_fits argument_fits follows start_of count_of threads_of every some number least
accepted1 code = record { accepted_set = refl; accepted_map = refl }

accepted2 : Accepted set2 (cell 5 0)
unfolding set2 cell ascends_at map_accepted set_accepted opens_at record_fits argument_fits follows start_of count_of threads_of every some number least
accepted2 = record { accepted_set = refl; accepted_map = refl }

accepted3 : (v : ℕ) → Accepted set3 (cell 0 v)
unfolding set3 cell ascends_at map_accepted set_accepted opens_at record_fits argument_fits follows start_of count_of threads_of every some number least
accepted3 v = record { accepted_set = refl; accepted_map = refl }

accepted4 : Accepted set4 []
unfolding set4 ascends_at map_accepted set_accepted opens_at record_fits argument_fits follows start_of count_of threads_of every some number least
accepted4 = record { accepted_set = refl; accepted_map = refl }

accepted5 : Accepted set5 []
unfolding set5 ascends_at map_accepted set_accepted opens_at record_fits argument_fits follows start_of count_of threads_of every some number least
accepted5 = record { accepted_set = refl; accepted_map = refl }

accepted-jumps : Accepted (set_meeting JMP) []
unfolding set_meeting ascends_at map_accepted set_accepted opens_at record_fits argument_fits follows start_of count_of threads_of every some number least
accepted-jumps = record { accepted_set = refl; accepted_map = refl }

accepted_halts : Accepted (set_meeting HALT) []
unfolding set_meeting ascends_at map_accepted set_accepted opens_at record_fits argument_fits follows start_of count_of threads_of every some number least
accepted_halts = record { accepted_set = refl; accepted_map = refl }

-- ---- explorations from every first memory with the map's cells

explored1 : (memory : ℕ → ℕ) → explored (set_of (set1 0)) 64 (start (mapped_over [] memory)) ≡ true
unfolding set1 explored step written cleared leaves_mark acted permitted waiting opened contains cas_matches executed next_pc jumps row word_taken address start_of count_of threads_of every some number least
explored1 memory = refl

explored2 : (memory : ℕ → ℕ) → explored (set_of set2) 64 (start (mapped_over (cell 5 0) memory)) ≡ true
unfolding set2 cell explored step written cleared leaves_mark acted permitted waiting opened contains cas_matches executed next_pc jumps row word_taken address start_of count_of threads_of every some number least
explored2 memory = refl

explored3 : (memory : ℕ → ℕ) → explored (set_of set3) 64 (start (mapped_over (cell 0 1) memory)) ≡ true
unfolding set3 cell explored step written cleared leaves_mark acted permitted waiting opened contains cas_matches executed next_pc jumps row word_taken address start_of count_of threads_of every some number least
explored3 memory = refl

explored3-two : (memory : ℕ → ℕ) → explored (set_of set3) 2 (start (mapped_over (cell 0 0) memory)) ≡ true
unfolding set3 cell explored step written cleared leaves_mark acted permitted waiting opened contains cas_matches executed next_pc jumps row word_taken address start_of count_of threads_of every some number least
explored3-two memory = refl

explored-five : (memory : ℕ → ℕ) → explored (set_of (set_meeting JMP)) 5 (start (mapped_over [] memory)) ≡ true
unfolding set_meeting explored step written cleared leaves_mark acted permitted waiting opened contains cas_matches executed next_pc jumps row word_taken address start_of count_of threads_of every some number least
explored-five memory = refl

explored_halts : (memory : ℕ → ℕ) → explored (set_of (set_meeting HALT)) 64 (start (mapped_over [] memory)) ≡ true
unfolding set_meeting explored step written cleared leaves_mark acted permitted waiting opened contains cas_matches executed next_pc jumps row word_taken address start_of count_of threads_of every some number least
explored_halts memory = refl

-- ---- failing runs

-- a first memory for the cases that are satisfiable
abbrev zeros : ℕ → ℕ
zeros a = 0

zeros-memory : IsMemory zeros
zeros-memory = record { words = λ a. omega arith; beyond = λ a h. refl }

not-zero : (n : ℕ) → suc n ≡ 0 → ⊥
not-zero n e = omega arith

fails1 : Fails (set_of (set1 1)) 1 zeros (Execute 0 ∷ [])
unfolding set1 is_run after step written cleared leaves_mark acted permitted waiting opened contains cas_matches executed next_pc jumps row word_taken address start_of count_of threads_of every some number least
fails1 = record { permitted = refl; bounded = omega arith; before = []; thread = 0; last = refl; exit = refl; code = not-zero 0 }

fails3 : Fails (set_of set3) 3 zeros (Execute 1 ∷ Execute 1 ∷ Execute 1 ∷ [])
unfolding set3 is_run after step written cleared leaves_mark acted permitted waiting opened contains cas_matches executed next_pc jumps row word_taken address start_of count_of threads_of every some number least
fails3 = record { permitted = refl; bounded = omega arith; before = Execute 1 ∷ Execute 1 ∷ []; thread = 1; last = refl; exit = refl; code = not-zero 6 }

fails4 : (memory : ℕ → ℕ) → Fails (set_of set4) 3 memory (choices (1 ∷ 0 ∷ 1 ∷ []))
unfolding set4 choices choice_of is_run after step written cleared leaves_mark acted permitted waiting opened contains cas_matches executed next_pc jumps row word_taken address start_of count_of threads_of every some number least
fails4 memory = record { permitted = refl; bounded = omega arith; before = Execute 1 ∷ Execute 0 ∷ []; thread = 1; last = refl; exit = refl; code = not-zero 2 }

fails5 : Fails (set_of set5) 3 zeros (Execute 0 ∷ Execute 0 ∷ Execute 0 ∷ [])
unfolding set5 is_run after step written cleared leaves_mark acted permitted waiting opened contains cas_matches executed next_pc jumps row word_taken address start_of count_of threads_of every some number least
fails5 = record { permitted = refl; bounded = omega arith; before = Execute 0 ∷ Execute 0 ∷ []; thread = 0; last = refl; exit = refl; code = not-zero 1 }

fails_six : Fails (set_of (set_meeting JMP)) 6 zeros (Execute 0 ∷ Execute 1 ∷ Execute 0 ∷ Execute 1 ∷ Execute 1 ∷ Execute 0 ∷ [])
unfolding set_meeting is_run after step written cleared leaves_mark acted permitted waiting opened contains cas_matches executed next_pc jumps row word_taken address start_of count_of threads_of every some number least
fails_six = record { permitted = refl; bounded = omega arith; before = Execute 0 ∷ Execute 1 ∷ Execute 0 ∷ Execute 1 ∷ Execute 1 ∷ []; thread = 0; last = refl; exit = refl; code = not-zero 0 }

agrees-empty : (memory : ℕ → ℕ) → Agrees [] memory
agrees-empty memory j h = absurd (omega arith)

agrees3 : Agrees (cell 0 0) zeros
unfolding cell
agrees3 j h = let e : j ≡ 0 = omega arith in subst⁻¹ (λ (k : ℕ). 0 ≡ value_at (cell 0 0) k) e refl

satisfiable : (set map : List ℕ) (bound : ℕ) → Accepted set map → Agrees map zeros → 1 ≤ bound → bound ≤ 64 →
    (run : List Choice) → Fails (set_of set) bound zeros run → Satisfiable set map bound
satisfiable set map bound accepted agrees low high run fails =
    (table_means_the_program set map bound accepted.accepted_set accepted.accepted_map low high).1
    (zeros, (run, record { is_memory = zeros-memory; agrees = agrees; fails = fails }))

satisfying4 : (memory : ℕ → ℕ) → IsMemory memory → Satisfying set4 [] 3 (assignment_of memory (choices (1 ∷ 0 ∷ 1 ∷ [])))
satisfying4 memory is_memory =
    (assignments_match_runs set4 [] 3 accepted4.accepted_set accepted4.accepted_map (omega arith) (omega arith)
    ).assignment memory (choices (1 ∷ 0 ∷ 1 ∷ [])) (record { is_memory = is_memory; agrees = agrees-empty memory; fails = fails4 memory })

-- ---- simulated runs

ran4 : simulated set4 [] (1 ∷ 0 ∷ 1 ∷ []) 72 ≡ ran 3 (Code 3)
unfolding set4 simulated limited follow begin outcome advanced choices choice_of end_of some_permitted step reads written cleared leaves_mark acted permitted waiting opened contains cas_matches executed next_pc jumps row cells_read word_taken address ascends_at map_accepted set_accepted opens_at record_fits argument_fits follows start_of count_of threads_of every some number least
ran4 = refl

refused8 : Refuses (simulated (set8 FENCE) [] (0 ∷ 0 ∷ []) 48) 12 1
unfolding set8 simulated limited follow begin outcome advanced choices choice_of end_of some_permitted step reads written cleared leaves_mark acted permitted waiting opened contains cas_matches executed next_pc jumps row cells_read word_taken address ascends_at map_accepted set_accepted opens_at record_fits argument_fits follows start_of count_of threads_of every some number least
refused8 = (_, refl, refl, refl)

ran8 : simulated (set8 CHECK) [] (0 ∷ 0 ∷ []) 48 ≡ ran 2 Open
unfolding set8 simulated limited follow begin outcome advanced choices choice_of end_of some_permitted step reads written cleared leaves_mark acted permitted waiting opened contains cas_matches executed next_pc jumps row cells_read word_taken address ascends_at map_accepted set_accepted opens_at record_fits argument_fits follows start_of count_of threads_of every some number least
ran8 = refl

ran_alone : simulated set_alone [] (0 ∷ 0 ∷ 0 ∷ 0 ∷ []) 96 ≡ ran 4 Open
unfolding set_alone simulated limited follow begin outcome advanced choices choice_of end_of some_permitted step reads written cleared leaves_mark acted permitted waiting opened contains cas_matches executed next_pc jumps row cells_read word_taken address ascends_at map_accepted set_accepted opens_at record_fits argument_fits follows start_of count_of threads_of every some number least
ran_alone = refl

marked_alone_lem : (memory : ℕ → ℕ) → (marked_alone memory (0 ∷ []) ≡ true) × ((marked_alone memory (0 ∷ 0 ∷ []) ≡ false) × (marked_alone memory (0 ∷ 0 ∷ 0 ∷ []) ≡ true))
unfolding set_alone choices choice_of after step written cleared leaves_mark acted permitted waiting opened contains cas_matches executed next_pc jumps row word_taken address start_of count_of threads_of every some number least
marked_alone_lem memory = (refl, (refl, refl))

ran-three : simulated (set_meeting JMP) [] (0 ∷ 1 ∷ 0 ∷ []) 72 ≡ ran 3 Open
unfolding set_meeting simulated limited follow begin outcome advanced choices choice_of end_of some_permitted step reads written cleared leaves_mark acted permitted waiting opened contains cas_matches executed next_pc jumps row cells_read word_taken address ascends_at map_accepted set_accepted opens_at record_fits argument_fits follows start_of count_of threads_of every some number least
ran-three = refl

refused-four : Refuses (simulated (set_meeting JMP) [] (0 ∷ 1 ∷ 0 ∷ 0 ∷ []) 96) 12 3
unfolding set_meeting simulated limited follow begin outcome advanced choices choice_of end_of some_permitted step reads written cleared leaves_mark acted permitted waiting opened contains cas_matches executed next_pc jumps row cells_read word_taken address ascends_at map_accepted set_accepted opens_at record_fits argument_fits follows start_of count_of threads_of every some number least
refused-four = (_, refl, refl, refl)

ran_six : simulated (set_meeting JMP) [] (0 ∷ 1 ∷ 0 ∷ 1 ∷ 1 ∷ 0 ∷ []) 144 ≡ ran 6 (Code 1)
unfolding set_meeting simulated limited follow begin outcome advanced choices choice_of end_of some_permitted step reads written cleared leaves_mark acted permitted waiting opened contains cas_matches executed next_pc jumps row cells_read word_taken address ascends_at map_accepted set_accepted opens_at record_fits argument_fits follows start_of count_of threads_of every some number least
ran_six = refl

-- ---- registers and cells

adds6 : (memory : ℕ → ℕ) (x : Thread) → x.accu ≡ 65535 → (executed (statement ADDI 1) memory x).accu ≡ 0
unfolding executed row
adds6 memory x e = ap (λ (v : ℕ). plus v 1) e

multiplies6 : (memory : ℕ → ℕ) (x : Thread) → x.accu ≡ 300 → (executed (statement MULI 300) memory x).accu ≡ 24464
unfolding executed row
multiplies6 memory x e = ap (λ (v : ℕ). times v 300) e

abbrev Ends7 : (ℕ → ℕ) → Type 0
Ends7 memory =
    (is_run (set_of set7) (start memory) (choices (0 ∷ 0 ∷ 0 ∷ [])) ≡ true) × (((after7 memory).memory 4 ≡ 10) × (((after7 memory).threads 0).accu ≡ 1))

mapped7 : (memory : ℕ → ℕ) → Ends7 (mapped_over (cell 4 9) memory)
unfolding set7 cell choices choice_of is_run after step written cleared leaves_mark acted permitted waiting opened contains cas_matches executed next_pc jumps row word_taken address start_of count_of threads_of every some number least
mapped7 memory = (refl, (refl, refl))

ends7 : (memory : ℕ → ℕ) → Agrees (cell 4 9) memory → Ends7 memory
ends7 memory agrees = subst⁻¹ Ends7 (agrees-over (cell 4 9) memory agrees) (mapped7 memory)

-- ---- the table

pub starred_cases : StarredCases
starred_cases = record {
  case1_exit1 = (accepted1 1, satisfiable (set1 1) [] 1 (accepted1 1) (agrees-empty zeros) (omega arith) (omega arith) _ fails1);
  case1_exit0 = (accepted1 0, λ bound low high. unsatisfiable (set1 0) [] 64 bound (accepted1 0) explored1 low high high);
  case2 = (accepted2, λ bound low high. unsatisfiable set2 (cell 5 0) 64 bound accepted2 explored2 low high high);
  case3_map0 = (
    accepted3 0,
    (
      unsatisfiable set3 (cell 0 0) 2 2 (accepted3 0) explored3-two (omega arith) (omega arith) (omega arith),
      satisfiable set3 (cell 0 0) 3 (accepted3 0) agrees3 (omega arith) (omega arith) _ fails3,
    ),
  );
  case3_map1 = (accepted3 1, λ bound low high. unsatisfiable set3 (cell 0 1) 64 bound (accepted3 1) explored3 low high high);
  case4 = (ran4, (accepted4, satisfying4));
  case5 = (accepted5, satisfiable set5 [] 3 accepted5 (agrees-empty zeros) (omega arith) (omega arith) _ fails5);
  case6_addi = adds6;
  case6_muli = multiplies6;
  case7 = ends7;
  case8 = (refused8, ran8);
  ping_alone = (ran_alone, marked_alone_lem);
  ping_clearing = (ran-three, (refused-four, ran_six));
  ping_bounds = (
    accepted-jumps,
    (
      unsatisfiable (set_meeting JMP) [] 5 5 accepted-jumps explored-five (omega arith) (omega arith) (omega arith),
      satisfiable (set_meeting JMP) [] 6 accepted-jumps (agrees-empty zeros) (omega arith) (omega arith) _ fails_six,
    ),
  );
  ping_halts = (accepted_halts, λ bound low high. unsatisfiable (set_meeting HALT) [] 64 bound accepted_halts explored_halts low high high);
}
