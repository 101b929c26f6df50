-- How many records a step and a table have, in closed form (docs/TABLE.md, "The size"), for any set and any checkpoints. This serves the code; no
-- call's promise needs it. Assumes nothing.
use Rattle.std.specs.Prelude.{ℕ, zero, suc, ◌+◌, ◌*◌, ◌≤◌, cond, List, [], ◌∷◌, eqb, ltb, get_or, length}
use Rattle.base.specs.Below.{number}
use Rattle.records.specs.Instructions.{CHECK}
use Rattle.records.specs.Maps.{cells}
use Rattle.records.specs.Sets.{Set, most_threads, most_statements}
use Rattle.records.specs.declared.Statement.{Statement}
use Rattle.machine.specs.Machine.{contains}
use Rattle.encoding.specs.Steps.{is_conditional, is_one_way, rests}
use Rattle.records.specs.declared.Layout.{Layout}

-- what the layout of an accepted set keeps to: at most 4 threads of 32 statements
pub record Limits (layout : Layout) : Type 0 where
  pub four_threads : layout.threads ≤ most_threads
  pub few_statements : (t : ℕ) → get_or layout.counts t 0 ≤ most_statements

-- no table of an accepted set, its map and a bound has more records
abbrev pub table_room : ℕ
table_room = 210248

-- the sum of f over the numbers below n
unfoldable pub total : (ℕ → ℕ) → ℕ → ℕ
total f zero = 0
total f (suc n) = total f n + f n

-- by instruction: the records of a direct statement, without those of the links that lead from it and that raise its mark; in rows LOAD STORE FENCE,
-- ADD ADDI SUB SUBI MUL MULI, JMP JZ JNZ JS JNS JNZNS, MEM CAS, HALT EXIT CHECK
unfoldable pub own_list : List ℕ
own_list =
    7 ∷ 6 ∷ 3
    ∷ 8 ∷ 4 ∷ 8 ∷ 4 ∷ 8 ∷ 4
    ∷ 2 ∷ 4 ∷ 4 ∷ 4 ∷ 4 ∷ 6
    ∷ 8 ∷ 10
    ∷ 3 ∷ 3 ∷ 2 ∷ []

abbrev pub own_records : ℕ → ℕ
own_records n = get_or own_list n 2

-- 1 for a statement j that a thread of `count` statements has
abbrev pub within : (j count : ℕ) → ℕ
within j count = cond (ltb j count) 1 0

-- to how many statements of its thread statement i leads
unfoldable pub lead_records : (n target i count : ℕ) → ℕ
lead_records n target i count =
    cond (rests n) 0
    (cond (is_one_way n target i) (within target count)
    (cond (is_conditional n) (within target count + within (suc i) count)
    (within (suc i) count)))

-- how many of the checkpoints a statement is a CHECK of
unfoldable pub check_records : List ℕ → (n argument : ℕ) → ℕ
check_records cs n argument = cond (eqb n CHECK) (number (length cs) (λ p. eqb argument (get_or cs p 0))) 0

-- of statement i in a thread of `count`; an indirect one has the 4 records of a load more
abbrev pub statement_records : List ℕ → (count i : ℕ) → Statement → ℕ
statement_records cs count i s =
    own_records s.number + cond (eqb s.mode 1) 4 0 + lead_records s.number s.argument i count + check_records cs s.number s.argument

-- how many of the checkpoints thread t contains: its marks
abbrev pub marks_of : Set → List ℕ → ℕ → ℕ
marks_of S cs t = number (length cs) (λ p. contains S t (get_or cs p 0))

-- of thread t: its statements, its marks, 15
unfoldable pub thread_records : Set → List ℕ → ℕ → ℕ
thread_records S cs t = total (λ i. statement_records cs (S.count t) i (S.statement t i)) (S.count t) + 4 * marks_of S cs t + 15

-- of a step
unfoldable pub step_records : Set → List ℕ → ℕ
step_records S cs = total (thread_records S cs) S.threads + length cs + 5

-- of a table: the first five and the arguments, the map, the steps, the goal
unfoldable pub table_records : Set → (cs map : List ℕ) (bound : ℕ) → ℕ
table_records S cs map bound = 5 + total S.count S.threads + 5 * cells map + bound * step_records S cs + 3
