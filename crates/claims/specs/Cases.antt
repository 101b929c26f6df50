-- Document 01's starred cases ("Sample runs") and the cases of change request 2026-05 as one table, a field for each, stated by the machine, the
-- table and simulation. Statements alone; proofs/Cases.antt proves them. Assumes nothing.
use Rattle.std.specs.Prelude.{ℕ, suc, ◌≤◌, ◌≡◌, Bool, true, false, List, [], ◌∷◌, ◌++◌, Result, Err}
use Rattle.base.specs.Bytes.{word}
use Rattle.records.specs.Instructions.{LOAD, STORE, FENCE, ADDI, MULI, JMP, JZ, MEM, CAS, HALT, EXIT, CHECK}
use Rattle.records.specs.Maps.{map_accepted}
use Rattle.records.specs.Refusals.{number}
use Rattle.records.specs.declared.refusals.Refused.{Refused}
use Rattle.records.specs.Sets.{set_of, set_accepted}
use Rattle.records.specs.declared.Statement.{Statement}
use Rattle.machine.specs.Machine.{State, start, executed}
use Rattle.machine.specs.Maps.{ran}
use Rattle.machine.specs.Runs.{choices, is_run, after}
use Rattle.machine.specs.declared.Run.{Run}
use Rattle.machine.specs.declared.End.TheVariants.{Code, Open}
use Rattle.machine.specs.declared.Thread.{Thread}
use Rattle.simulation.specs.Simulation.{simulated}
use Rattle.table.specs.Values.{Assignment}
use Rattle.encoding.specs.Assignments.{assignment_of}
use Rattle.claims.specs.Marks.{block}
use Rattle.claims.specs.Tables.{IsMemory, Agrees, Satisfying}

-- ---- sets and maps

-- the records of thread t's statements from pc p on: instruction numbers with their arguments, none indirect
abbrev pub statements : (t p : ℕ) → List (ℕ × ℕ) → List ℕ
statements t p [] = []
statements t p ((number, argument) ∷ more) = t ∷ number ∷ 0 ∷ 0 ∷ word argument (word p (statements t (suc p) more))

-- the records of thread t
abbrev pub thread : ℕ → List (ℕ × ℕ) → List ℕ
thread t = statements t 0

-- one thread EXIT code
unfoldable pub set1 : ℕ → List ℕ
set1 code = thread 0 ((EXIT, code) ∷ [])

unfoldable pub set2 : List ℕ
set2 = thread 0 ((ADDI, 1) ∷ (STORE, 5) ∷ (LOAD, 5) ∷ (JZ, 5) ∷ (EXIT, 0) ∷ (EXIT, 1) ∷ [])

-- the first thread gains a HALT
unfoldable pub set3 : List ℕ
set3 = thread 0 ((ADDI, 1) ∷ (STORE, 0) ∷ (HALT, 0) ∷ []) ++ thread 1 ((LOAD, 0) ∷ (JZ, 3) ∷ (EXIT, 0) ∷ (EXIT, 7) ∷ [])

unfoldable pub set4 : List ℕ
set4 = thread 0 ((JMP, 0) ∷ []) ++ thread 1 ((ADDI, 1) ∷ (EXIT, 3) ∷ [])

unfoldable pub set5 : List ℕ
set5 = thread 0 ((ADDI, 1) ∷ (JZ, 2) ∷ (EXIT, 2) ∷ [])

-- the thread gains a HALT
unfoldable pub set7 : List ℕ
set7 = thread 0 ((MEM, 4) ∷ (ADDI, 1) ∷ (CAS, 4) ∷ (HALT, 0) ∷ [])

-- a STORE makes full 1 before the statement n 0; the thread gains a HALT
unfoldable pub set8 : ℕ → List ℕ
set8 n = thread 0 ((STORE, 0) ∷ (n, 0) ∷ (HALT, 0) ∷ [])

-- request 2026-05, one thread
unfoldable pub set_alone : List ℕ
set_alone = thread 0 ((CHECK, 0) ∷ (JMP, 0) ∷ [])

-- and two threads, the second of which ends in JMP 0 or HALT
unfoldable pub set_meeting : ℕ → List ℕ
set_meeting last = thread 0 ((CHECK, 0) ∷ (CHECK, 0) ∷ (EXIT, 1) ∷ []) ++ thread 1 ((CHECK, 0) ∷ (last, 0) ∷ [])

-- map a→v
unfoldable pub cell : (a v : ℕ) → List ℕ
cell a v = word a (word v [])

-- a direct statement
abbrev pub statement : (number argument : ℕ) → Statement
statement number argument = record { number = number; mode = 0; argument = argument }

-- ---- what the cases say

-- 9 refuses neither the set nor its map
pub record Accepted (set map : List ℕ) : Type 0 where
  pub accepted_set : set_accepted set ≡ true
  pub accepted_map : map_accepted 128 map ≡ true

abbrev pub Satisfiable : (set map : List ℕ) (bound : ℕ) → Type 0
Satisfiable set map bound = (g : Assignment) × Satisfying set map bound g

abbrev pub Unsatisfiable : (set map : List ℕ) (bound : ℕ) → Type 0
Unsatisfiable set map bound = (g : Assignment) → Satisfying set map bound g → ⊥

-- a bound is 1 to 64
abbrev pub ForNoBound : (set map : List ℕ) → Type 0
ForNoBound set map = (bound : ℕ) → 1 ≤ bound → bound ≤ 64 → Unsatisfiable set map bound

-- the state after case 7's three statements
abbrev pub after7 : (ℕ → ℕ) → State
after7 memory = after (set_of set7) (start memory) (choices (0 ∷ 0 ∷ 0 ∷ []))

-- the one thread is marked at checkpoint 0 after this schedule
abbrev pub marked_alone : (ℕ → ℕ) → List ℕ → Bool
marked_alone memory schedule = block (after (set_of set_alone) (start memory) (choices schedule)) 0 0

-- a run is refused by this number at this step
abbrev pub Refuses : Result Run Refused → (digits step : ℕ) → Type 0
Refuses answer digits step = (r : Refused) × (answer ≡ Err r) × (number r.refusal ≡ digits) × (r.place ≡ step)

-- ---- the table

pub record StarredCases : Type 0 where
  -- 1. One thread EXIT 1, K 1: satisfiable.
  pub case1_exit1 : Accepted (set1 1) [] × Satisfiable (set1 1) [] 1
  -- EXIT 0: for no K.
  pub case1_exit0 : Accepted (set1 0) [] × ForNoBound (set1 0) []
  -- 2. ADDI 1, STORE 5, LOAD 5, JZ 5, EXIT 0, EXIT 1, map 5→0: for no K (forwarding).
  pub case2 : Accepted set2 (cell 5 0) × ForNoBound set2 (cell 5 0)
  -- 3. Threads (ADDI 1, STORE 0) and (LOAD 0, JZ 3, EXIT 0, EXIT 7), map 0→0: not for K 2, yes for K 3.
  pub case3_map0 : Accepted set3 (cell 0 0) × (Unsatisfiable set3 (cell 0 0) 2 × Satisfiable set3 (cell 0 0) 3)
  -- Map 0→1: for no K.
  pub case3_map1 : Accepted set3 (cell 0 1) × ForNoBound set3 (cell 0 1)
  -- 4. Threads (JMP 0) and (ADDI 1, EXIT 3): schedule 1, 0, 1 runs and ends with 3.
  -- The run's assignment satisfies the table: the jump to itself keeps its statement where it did not run ("Traps in the encoding").
  pub case4 : (simulated set4 [] (1 ∷ 0 ∷ 1 ∷ []) 72 ≡ ran 3 (Code 3))
      × (Accepted set4 [] × ((memory : ℕ → ℕ) → IsMemory memory → Satisfying set4 [] 3 (assignment_of memory (choices (1 ∷ 0 ∷ 1 ∷ [])))))
  -- 5. ADDI 1, JZ 2, EXIT 2: yes for K 3.
  pub case5 : Accepted set5 [] × Satisfiable set5 [] 3
  -- 6. accu 65,535, ADDI 1: 0.
  pub case6_addi : (memory : ℕ → ℕ) (x : Thread) → x.accu ≡ 65535 → (executed (statement ADDI 1) memory x).accu ≡ 0
  -- accu 300, MULI 300: 24,464.
  pub case6_muli : (memory : ℕ → ℕ) (x : Thread) → x.accu ≡ 300 → (executed (statement MULI 300) memory x).accu ≡ 24464
  -- 7. Map 4→9; MEM 4, ADDI 1, CAS 4: cell 4 is 10, accu 1.
  pub case7 : (memory : ℕ → ℕ) → Agrees (cell 4 9) memory →
      (is_run (set_of set7) (start memory) (choices (0 ∷ 0 ∷ 0 ∷ [])) ≡ true) × (((after7 memory).memory 4 ≡ 10) × (((after7 memory).threads 0).accu ≡ 1))
  -- 8. FENCE with full 1: refusal 12; CHECK runs.
  pub case8 : Refuses (simulated (set8 FENCE) [] (0 ∷ 0 ∷ []) 48) 12 1 × (simulated (set8 CHECK) [] (0 ∷ 0 ∷ []) 48 ≡ ran 2 Open)
  -- Request 2026-05. "One thread (CHECK 0, JMP 0) whose second CHECK comes two steps after its first": marked, cleared by the jump, marked again;
  -- it never waits.
  pub ping_alone : (simulated set_alone [] (0 ∷ 0 ∷ 0 ∷ 0 ∷ []) 96 ≡ ran 4 Open)
      × ((memory : ℕ → ℕ) → (marked_alone memory (0 ∷ []) ≡ true) × ((marked_alone memory (0 ∷ 0 ∷ []) ≡ false) × (marked_alone memory (0 ∷ 0 ∷ 0 ∷ []) ≡ true)))
  -- "One of two threads where it falls in the clearing step": (CHECK 0, CHECK 0, EXIT 1) and (CHECK 0, JMP 0). Schedule 0, 1, 0 runs; then thread 0
  -- waits, so a further 0 is refusal 12; once thread 1 has come again it ends with 1.
  pub ping_clearing : (simulated (set_meeting JMP) [] (0 ∷ 1 ∷ 0 ∷ []) 72 ≡ ran 3 Open)
      × (Refuses (simulated (set_meeting JMP) [] (0 ∷ 1 ∷ 0 ∷ 0 ∷ []) 96) 12 3
      × (simulated (set_meeting JMP) [] (0 ∷ 1 ∷ 0 ∷ 1 ∷ 1 ∷ 0 ∷ []) 144 ≡ ran 6 (Code 1)))
  -- By the table: not for K 5, yes for K 6.
  pub ping_bounds : Accepted (set_meeting JMP) [] × (Unsatisfiable (set_meeting JMP) [] 5 × Satisfiable (set_meeting JMP) [] 6)
  -- With (CHECK 0, HALT) as the second thread: for no K.
  pub ping_halts : Accepted (set_meeting HALT) [] × ForNoBound (set_meeting HALT) []
