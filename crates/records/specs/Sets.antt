-- Statement records: the set that they hold, and which sets are accepted (document 01, "Records"). A reader of the calls believes this. Assumes
-- nothing.
use Rattle.std.specs.Prelude.{ℕ, zero, suc, ◌+◌, ◌-◌, ◌*◌, ◌/◌, ◌%◌, ◌≤◌, ◌<◌, ◌≡◌, Bool, true, cond, not, ◌&&◌, List, [], ◌∷◌, eqb, ltb, leb, length, get_or}
use Rattle.base.specs.Below.{every, some, number}
use Rattle.base.specs.Bytes.{word_at}
use Rattle.records.specs.Instructions.{CHECK, instructions, is_memory, is_jump, is_bare, is_last}
use Rattle.records.specs.declared.Statement.{Statement}
use Rattle.records.specs.declared.Layout.{Layout}

-- ---- limits

-- At most 4 threads of at most 32 statements, and at most 8 different checkpoints.
abbrev pub most_threads : ℕ
most_threads = 4

abbrev pub most_statements : ℕ
most_statements = 32

abbrev pub most_checkpoints : ℕ
most_checkpoints = 8

-- the most statements of a set
abbrev pub most_records : ℕ
most_records = most_threads * most_statements

-- ---- fields

-- the bytes of a statement record
abbrev pub record_length : ℕ
record_length = 8

-- Statement, 8 bytes: thread, instruction number, mode (1 indirect), 0, argument (2), pc (2).
abbrev pub records : List ℕ → ℕ
records bytes = length bytes / record_length

abbrev pub thread_at : List ℕ → ℕ → ℕ
thread_at bytes k = get_or bytes (record_length * k) 0

abbrev pub number_at : List ℕ → ℕ → ℕ
number_at bytes k = get_or bytes (record_length * k + 1) 0

abbrev pub mode_at : List ℕ → ℕ → ℕ
mode_at bytes k = get_or bytes (record_length * k + 2) 0

abbrev pub spare_at : List ℕ → ℕ → ℕ
spare_at bytes k = get_or bytes (record_length * k + 3) 0

abbrev pub argument_at : List ℕ → ℕ → ℕ
argument_at bytes k = word_at bytes (record_length * k + 4)

abbrev pub pc_at : List ℕ → ℕ → ℕ
pc_at bytes k = word_at bytes (record_length * k + 6)

abbrev pub statement_at : List ℕ → ℕ → Statement
statement_at bytes k = record { number = number_at bytes k; mode = mode_at bytes k; argument = argument_at bytes k }

-- ---- the set

-- A set has threads, each with statements numbered from 0 (its pc).
pub record Set : Type 0 where
  pub threads : ℕ
  pub count : ℕ → ℕ
  pub statement : ℕ → ℕ → Statement

-- what stands past a thread's last statement: no instruction has this number
abbrev pub nothing : Statement
nothing = record { number = instructions; mode = 0; argument = 0 }

-- how many threads there are: one more than the last record's
unfoldable pub threads_of : List ℕ → ℕ
threads_of bytes = thread_at bytes (records bytes - 1) + 1

-- how many statements thread t has
unfoldable pub count_of : List ℕ → ℕ → ℕ
count_of bytes t = number (records bytes) (λ k. eqb (thread_at bytes k) t)

-- where thread t's records begin: after those of the threads before it
unfoldable pub start_of : List ℕ → ℕ → ℕ
start_of bytes zero = 0
start_of bytes (suc t) = start_of bytes t + count_of bytes t

-- the set in statement records
abbrev pub set_of : List ℕ → Set
set_of bytes = record {
  threads = threads_of bytes;
  count = count_of bytes;
  statement = λ t p. cond (ltb p (count_of bytes t)) (statement_at bytes (start_of bytes t + p)) nothing;
}

-- ---- acceptance

-- Threads, and pcs in each, count up from 0 without gaps; each thread ends in EXIT, JMP or HALT.
unfoldable pub follows : List ℕ → ℕ → Bool
follows bytes k =
    cond (eqb k 0)
    (eqb (thread_at bytes k) 0 && eqb (pc_at bytes k) 0)
    (cond (eqb (thread_at bytes k) (thread_at bytes (k - 1)))
    (eqb (pc_at bytes k) (pc_at bytes (k - 1) + 1))
    (eqb (thread_at bytes k) (thread_at bytes (k - 1) + 1) && eqb (pc_at bytes k) 0 && is_last (number_at bytes (k - 1))))

-- FENCE and HALT have argument 0; a jump's target is not beyond its thread's last statement.
unfoldable pub argument_fits : List ℕ → ℕ → Bool
argument_fits bytes k =
    cond (is_bare (number_at bytes k)) (eqb (argument_at bytes k) 0)
    (cond (is_jump (number_at bytes k)) (ltb (argument_at bytes k) (count_of bytes (thread_at bytes k))) true)

-- At most 4 threads of at most 32 statements; only memory words have mode 1.
unfoldable pub record_fits : List ℕ → ℕ → Bool
record_fits bytes k =
    ltb (thread_at bytes k) most_threads
    && ltb (pc_at bytes k) most_statements
    && ltb (number_at bytes k) instructions
    && leb (mode_at bytes k) (cond (is_memory (number_at bytes k)) 1 0)
    && eqb (spare_at bytes k) 0
    && argument_fits bytes k

-- record k is a CHECK of checkpoint c
abbrev pub checks_at : List ℕ → ℕ → ℕ → Bool
checks_at bytes c k = eqb (number_at bytes k) CHECK && eqb (argument_at bytes k) c

-- record k is the first CHECK of its checkpoint
unfoldable pub opens_at : List ℕ → ℕ → Bool
opens_at bytes k = eqb (number_at bytes k) CHECK && not (some k (checks_at bytes (argument_at bytes k)))

-- A set is accepted unless 9 refuses it: whole records, 1 to 4 threads of 1 to 32 statements, at most 8 different checkpoints.
unfoldable pub set_accepted : List ℕ → Bool
set_accepted bytes =
    eqb (length bytes % record_length) 0
    && ltb 0 (records bytes)
    && every (records bytes) (λ k. follows bytes k && record_fits bytes k)
    && is_last (number_at bytes (records bytes - 1))
    && leb (number (records bytes) (opens_at bytes)) most_checkpoints

-- what acceptance says of the set itself: 1 to 4 threads of 1 to 32 statements, each one of the twenty, no jump beyond its thread,
-- and EXIT, JMP or HALT at each thread's end
pub record WellFormedSet (S : Set) : Type 0 where
  pub some_thread : 1 ≤ S.threads
  pub four_threads : S.threads ≤ most_threads
  pub some_statement : (t : ℕ) → t < S.threads → 1 ≤ S.count t
  pub few_statements : (t : ℕ) → t < S.threads → S.count t ≤ most_statements
  pub no_thread : (t : ℕ) → S.threads ≤ t → S.count t ≡ 0
  pub numbers : (t p : ℕ) → p < S.count t → (S.statement t p).number < instructions
  pub modes : (t p : ℕ) → p < S.count t → (S.statement t p).mode ≤ cond (is_memory (S.statement t p).number) 1 0
  pub bare : (t p : ℕ) → p < S.count t → is_bare (S.statement t p).number ≡ true → (S.statement t p).argument ≡ 0
  pub targets : (t p : ℕ) → p < S.count t → is_jump (S.statement t p).number ≡ true → (S.statement t p).argument < S.count t
  pub lasts : (t : ℕ) → t < S.threads → is_last (S.statement t (S.count t - 1)).number ≡ true

-- ---- what the code keeps of a set beside its bytes

-- how many statements each of four threads has
abbrev pub counts_of : List ℕ → List ℕ
counts_of bytes = count_of bytes 0 ∷ count_of bytes 1 ∷ count_of bytes 2 ∷ count_of bytes 3 ∷ []

-- the threads of an accepted set, with the place and the number of each one's statements; no threads where the set is refused
unfoldable pub layout_of : List ℕ → Layout
layout_of bytes =
    cond (set_accepted bytes)
    (record {
      threads = threads_of bytes;
      starts = start_of bytes 0 ∷ start_of bytes 1 ∷ start_of bytes 2 ∷ start_of bytes 3 ∷ [];
      counts = count_of bytes 0 ∷ count_of bytes 1 ∷ count_of bytes 2 ∷ count_of bytes 3 ∷ [];
    })
    (record { threads = 0; starts = 0 ∷ 0 ∷ 0 ∷ 0 ∷ []; counts = 0 ∷ 0 ∷ 0 ∷ 0 ∷ [] })

-- the set that bytes and a layout give
abbrev pub set_by : List ℕ → Layout → Set
set_by bytes layout = record {
  threads = layout.threads;
  count = λ t. get_or layout.counts t 0;
  statement = λ t p. cond (ltb p (get_or layout.counts t 0)) (statement_at bytes (get_or layout.starts t 0 + p)) nothing;
}
