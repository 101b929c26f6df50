-- The machine (document 01, "Machine"; of marks change request 2026-05): its state, which choices are permitted, and one step. The step rule that
-- every crate stands on. Memory gives every address a word. A reader of the calls believes this. Assumes nothing.
use Rattle.std.specs.Prelude.{ℕ, suc, Bool, true, false, cond, not, ◌&&◌, ◌||◌, List, [], ◌∷◌, ◌++◌, eqb, ltb, Option, Some, None, is_some, unwrap_or}
use Rattle.base.specs.Below.{every, some}
use Rattle.base.specs.Words.{plus, minus, times, top_bit}
use Rattle.records.specs.Instructions.{LOAD, STORE, FENCE, ADD, ADDI, SUB, SUBI, MUL, MULI, JMP, JZ, JNZ, JS, JNS, JNZNS, MEM, CAS, HALT, EXIT, CHECK, instructions, is_memory}
use Rattle.records.specs.Sets.{Set}
use Rattle.records.specs.declared.Statement.{Statement}
use Rattle.machine.specs.declared.Choice.{Choice}
use Rattle.machine.specs.declared.Choice.TheVariants.{Execute, Flush}
use Rattle.machine.specs.declared.Thread.{Thread}
use Rattle.records.specs.declared.Cell.{Cell}

-- ---- state

-- Threads and marks by thread number, shared memory by address. A thread has at most one mark: with one at a checkpoint that
-- is not open it waits, and the step after a checkpoint opened clears its marks.
pub record State : Type 0 where
  pub threads : ℕ → Thread
  pub marks : ℕ → Option ℕ
  pub memory : ℕ → ℕ
  pub ended : Bool
  pub code : ℕ

-- A fresh thread has accu, mem, adr, val and full all 0, and pc 0.
abbrev pub fresh : Thread
fresh = record { accu = 0; mem = 0; adr = 0; val = 0; full = false; pc = 0; halted = false }

-- no mark
abbrev pub unmarked : Option ℕ
unmarked = None

-- the checkpoint of a mark, 0 where there is none
abbrev pub checkpoint_of : Option ℕ → ℕ
checkpoint_of mark = unwrap_or mark 0

-- fresh threads, no marks and a first memory
abbrev pub start : (ℕ → ℕ) → State
start first = record { threads = λ t. fresh; marks = λ t. unmarked; memory = first; ended = false; code = 0 }

-- ---- the store buffer; beside these a flush's write and the trace step name adr, val and full

-- the buffer holds no store
abbrev pub is_empty : Thread → Bool
is_empty x = not x.full

-- the buffer holds a store to address a
abbrev pub forwards : Thread → ℕ → Bool
forwards x a = x.full && eqb x.adr a

-- A load of address a gives val if full = 1 and adr = a, else cell a.
abbrev pub load : Thread → (ℕ → ℕ) → ℕ → ℕ
load x memory a = cond (forwards x a) x.val (memory a)

-- STORE: adr = address, val = accu, full = 1
abbrev pub buffered : ℕ → Thread → Thread
buffered a x = record { accu = x.accu; mem = x.mem; adr = a; val = x.accu; full = true; pc = x.pc; halted = x.halted }

-- Flush clears full. adr and val stay.
abbrev pub flushed : Thread → Thread
flushed x = record { accu = x.accu; mem = x.mem; adr = x.adr; val = x.val; full = false; pc = x.pc; halted = x.halted }

-- ---- other registers

-- the registers with accu v
abbrev pub with_accu : ℕ → Thread → Thread
with_accu v x = record { accu = v; mem = x.mem; adr = x.adr; val = x.val; full = x.full; pc = x.pc; halted = x.halted }

-- the registers with mem v
abbrev pub with_mem : ℕ → Thread → Thread
with_mem v x = record { accu = x.accu; mem = v; adr = x.adr; val = x.val; full = x.full; pc = x.pc; halted = x.halted }

-- the registers with pc p
abbrev pub with_pc : ℕ → Thread → Thread
with_pc p x = record { accu = x.accu; mem = x.mem; adr = x.adr; val = x.val; full = x.full; pc = p; halted = x.halted }

-- the registers of a thread that has halted
abbrev pub with_halt : Thread → Thread
with_halt x = record { accu = x.accu; mem = x.mem; adr = x.adr; val = x.val; full = x.full; pc = x.pc; halted = true }

-- ---- what a statement reads

-- Arguments in square brackets are indirect: the address is the load of the argument, forwarding included. 0 for other than memory words.
unfoldable pub address : Statement → Thread → (ℕ → ℕ) → ℕ
address i x memory =
    cond (is_memory i.number) (cond (eqb i.mode 1) (load x memory i.argument) i.argument) 0

-- LOAD, ADD, SUB, MUL, MEM and CAS take a word at their address; STORE takes none.
abbrev pub takes_word : ℕ → Bool
takes_word n = is_memory n && not (eqb n STORE)

-- the word taken: the load of the address; of CAS the cell. 0 where none is taken
unfoldable pub word_taken : Statement → Thread → (ℕ → ℕ) → ℕ
word_taken i x memory =
    cond (takes_word i.number)
    (cond (eqb i.number CAS) (memory (address i x memory)) (load x memory (address i x memory)))
    0

-- the address word is read from its cell: it is indirect and not forwarded
abbrev pub reads_argument : Statement → Thread → Bool
reads_argument i x = is_memory i.number && eqb i.mode 1 && not (forwards x i.argument)

-- the word taken is read from its cell: by a load not forwarded or a CAS
abbrev pub reads_address : Statement → Thread → ℕ → Bool
reads_address i x a = takes_word i.number && (eqb i.number CAS || not (forwards x a))

-- the cells that a statement reads, the address word first
unfoldable pub cells_read : Statement → Thread → (ℕ → ℕ) → List ℕ
cells_read i x memory =
    cond (reads_argument i x) (i.argument ∷ []) []
    ++ cond (reads_address i x (address i x memory)) (address i x memory ∷ []) []

-- ---- the table of instructions

-- the registers after statement number n, its pc apart: a is its address, w the word taken
unfoldable pub row : ℕ → (argument a w : ℕ) → Thread → Thread
row n argument a w x =
    cond (eqb n LOAD) (with_accu w x)
    (cond (eqb n STORE) (buffered a x)
    (cond (eqb n FENCE) x
    (cond (eqb n ADD) (with_accu (plus x.accu w) x)
    (cond (eqb n ADDI) (with_accu (plus x.accu argument) x)
    (cond (eqb n SUB) (with_accu (minus x.accu w) x)
    (cond (eqb n SUBI) (with_accu (minus x.accu argument) x)
    (cond (eqb n MUL) (with_accu (times x.accu w) x)
    (cond (eqb n MULI) (with_accu (times x.accu argument) x)
    (cond (eqb n MEM) (with_accu w (with_mem w x))
    (cond (eqb n CAS) (with_accu (cond (eqb w x.mem) 1 0) x)
    (cond (eqb n HALT) (with_halt x) x)))))))))))

-- jumps: always; accu zero, not zero; top bit set, unset, unset and accu not 0
unfoldable pub jumps : ℕ → ℕ → Bool
jumps n accu =
    cond (eqb n JMP) true
    (cond (eqb n JZ) (eqb accu 0)
    (cond (eqb n JNZ) (not (eqb accu 0))
    (cond (eqb n JS) (top_bit accu)
    (cond (eqb n JNS) (not (top_bit accu))
    (cond (eqb n JNZNS) (not (top_bit accu) && not (eqb accu 0)) false)))))

-- A statement that neither jumps, halts nor exits goes to pc + 1.
unfoldable pub next_pc : Statement → Thread → ℕ
next_pc i x =
    cond (eqb i.number HALT || eqb i.number EXIT || not (ltb i.number instructions)) x.pc
    (cond (jumps i.number x.accu) i.argument (suc x.pc))

-- the registers after a statement
unfoldable pub executed : Statement → (ℕ → ℕ) → Thread → Thread
executed i memory x =
    with_pc (next_pc i x) (row i.number i.argument (address i x memory) (word_taken i x memory) x)

-- a CAS whose cell equals mem
unfoldable pub cas_matches : Statement → Thread → (ℕ → ℕ) → Bool
cas_matches i x memory = eqb i.number CAS && eqb (word_taken i x memory) x.mem

-- ---- checkpoints

-- thread t's statement p is CHECK c
abbrev pub is_check : Set → ℕ → ℕ → ℕ → Bool
is_check S t c p = eqb (S.statement t p).number CHECK && eqb (S.statement t p).argument c

-- thread t contains CHECK c
unfoldable pub contains : Set → ℕ → ℕ → Bool
contains S t c = some (S.count t) (is_check S t c)

-- the mark is one at checkpoint c
abbrev pub marked_at : Option ℕ → ℕ → Bool
marked_at m c = is_some m && eqb (checkpoint_of m) c

-- A checkpoint opens when every thread containing that CHECK is marked.
unfoldable pub opened : Set → (ℕ → Option ℕ) → ℕ → Bool
opened S marks c = every S.threads (λ t. not (contains S t c) || marked_at (marks t) c)

-- A marked thread waits until then.
unfoldable pub waiting : Set → (ℕ → Option ℕ) → ℕ → Bool
waiting S marks t = is_some (marks t) && not (opened S marks (checkpoint_of (marks t)))

-- ---- permitted choices

-- the statement that thread t executes next
abbrev pub current : Set → State → ℕ → Statement
current S s t = S.statement t (s.threads t).pc

-- STORE, FENCE, CAS and HALT also need full = 0.
abbrev pub needs_empty : ℕ → Bool
needs_empty n = eqb n STORE || eqb n FENCE || eqb n CAS || eqb n HALT

-- Executing needs that the thread has not halted and is not waiting. Flush needs full = 1; waiting does not forbid it.
unfoldable pub permitted : Set → State → Choice → Bool
permitted S s (Execute t) =
    ltb t S.threads
    && not (s.threads t).halted
    && not (waiting S s.marks t)
    && (not (needs_empty (current S s t).number) || is_empty (s.threads t))
permitted S s (Flush t) = ltb t S.threads && not (is_empty (s.threads t))

-- ---- one step

-- the thread that acts
abbrev pub actor : Choice → ℕ
actor (Execute t) = t
actor (Flush t) = t

-- its registers afterwards
unfoldable pub acted : Set → State → Choice → Thread
acted S s (Execute t) = executed (current S s t) s.memory (s.threads t)
acted S s (Flush t) = flushed (s.threads t)

-- One step changes the acting thread's registers and none of another thread's.
abbrev pub threads_after : Set → State → Choice → ℕ → Thread
threads_after S s c u = cond (eqb u (actor c)) (acted S s c) (s.threads u)

-- CHECK marks the thread at that checkpoint.
unfoldable pub leaves_mark : Set → State → Choice → Bool
leaves_mark S s (Execute t) = eqb (current S s t).number CHECK
leaves_mark S s (Flush t) = false

-- The next step, by anyone, clears an open checkpoint's marks.
unfoldable pub cleared : Set → (ℕ → Option ℕ) → ℕ → Option ℕ
cleared S marks u = cond (is_some (marks u) && opened S marks (checkpoint_of (marks u))) unmarked (marks u)

-- the marks after a step: a CHECK's own is set after the clearing, also where this very step clears that checkpoint (request 2026-05)
abbrev pub marks_after : Set → State → Choice → ℕ → Option ℕ
marks_after S s c u =
    cond (leaves_mark S s c && eqb u (actor c))
    (Some (current S s (actor c)).argument)
    (cleared S s.marks u)

-- no cell written
abbrev pub no_write : Option Cell
no_write = None

-- v written at address a
abbrev pub wrote : (a v : ℕ) → Option Cell
wrote a v = Some (record { address = a; value = v })

-- the cell of a write, 0 with 0 where there is none
abbrev pub cell_of : Option Cell → Cell
cell_of w = unwrap_or w (record { address = 0; value = 0 })

-- the cell that a step writes: a flush val at adr, a CAS that matches accu at its address
unfoldable pub written : Set → State → Choice → Option Cell
written S s (Execute t) =
    cond (cas_matches (current S s t) (s.threads t) s.memory)
    (wrote (address (current S s t) (s.threads t) s.memory) (s.threads t).accu)
    no_write
written S s (Flush t) = wrote (s.threads t).adr (s.threads t).val

-- the memory once the write is made, if there is one
abbrev pub memory_after : Option Cell → (ℕ → ℕ) → ℕ → ℕ
memory_after w memory a = cond (is_some w && eqb (cell_of w).address a) (cell_of w).value (memory a)

-- EXIT: the machine ends, its code the argument.
abbrev pub exits : Set → State → Choice → Bool
exits S s (Execute t) = eqb (current S s t).number EXIT
exits S s (Flush t) = false

-- When all threads have halted the machine ends, its code 0: the one it starts with, which EXIT alone changes.
abbrev pub all_halted : Set → (ℕ → Thread) → Bool
all_halted S threads = every S.threads (λ t. (threads t).halted)

-- the state after a step
unfoldable pub step : Set → State → Choice → State
step S s c = record {
  threads = threads_after S s c;
  marks = marks_after S s c;
  memory = memory_after (written S s c) s.memory;
  ended = s.ended || exits S s c || all_halted S (threads_after S s c);
  code = cond (exits S s c) (current S s (actor c)).argument s.code;
}

-- the cells that a step reads: by a load not forwarded or a CAS
unfoldable pub reads : Set → State → Choice → List ℕ
reads S s (Execute t) = cells_read (current S s t) (s.threads t) s.memory
reads S s (Flush t) = []
