-- A step by the acting thread alone, as `acting` makes it. This serves the code; no call's promise needs it. Assumes nothing.
use Rattle.std.specs.Prelude.{ℕ, ◌+◌, ◌≤◌, ◌<◌, ◌≡◌, Bool, cond, not, ◌&&◌, ◌||◌, List, [], eqb, ltb, Option, Some, is_some}
use Rattle.records.specs.Instructions.{EXIT, CHECK, instructions}
use Rattle.records.specs.Sets.{Set, nothing}
use Rattle.records.specs.declared.Layout.{Layout}
use Rattle.records.specs.declared.Statement.{Statement}
use Rattle.machine.specs.Held.{permitted_by, cells_of}
use Rattle.machine.specs.Machine.{State, fresh, flushed, with_pc, row, next_pc, current, address, word_taken, cells_read, executed, cas_matches, actor, opened, cleared, memory_after, wrote, no_write, checkpoint_of}
use Rattle.machine.specs.Maps.{knows_all, known_after}
use Rattle.machine.specs.declared.Choice.{Choice}
use Rattle.machine.specs.declared.Choice.TheVariants.{Execute, Flush}
use Rattle.machine.specs.declared.Outcome.{Outcome}
use Rattle.machine.specs.declared.Outcome.TheVariants.{Taken, NotPermitted, Lacking}
use Rattle.machine.specs.declared.Read.{Read}
use Rattle.machine.specs.declared.Thread.{Thread}
use Rattle.records.specs.declared.Cell.{Cell}
use Rattle.step.specs.Step.{on_taken}
use Rattle.step.specs.declared.acting.Stepped.{Stepped}

-- ---- the state afterwards

-- the threads once thread t has registers y
abbrev pub threads_settled : (ℕ → Thread) → ℕ → Thread → ℕ → Thread
threads_settled threads t y u = cond (eqb u t) y (threads u)

-- the marks after thread t's statement i
abbrev pub marks_settled : Set → (ℕ → Option ℕ) → ℕ → Statement → ℕ → Option ℕ
marks_settled S marks t i u =
    cond (eqb i.number CHECK && eqb u t)
    (Some i.argument)
    (cleared S marks u)

-- a step taken with statement i and registers y afterwards changes neither marks nor end
abbrev pub quiet : (ℕ → Option ℕ) → Statement → Thread → Bool
quiet marks i y =
    not (is_some (marks 0) || is_some (marks 1) || is_some (marks 2) || is_some (marks 3)) && not y.halted
    && not (eqb i.number CHECK) && not (eqb i.number EXIT)

-- ---- the acting thread: its statement i, its registers x and whether it waits

-- its thread is there, the machine has not ended, and the arrays have room for one cell more: every run of at most 64 steps
-- over at most 256 cells has it in arrays of 320
abbrev pub can_step : Layout → Bool → (addresses values filled : ℕ) → Choice → Bool
can_step layout ended addresses values filled c = ltb filled addresses && ltb filled values && ltb (actor c) layout.threads && not ended

-- a thread with this mark waits
abbrev pub waits : Set → (ℕ → Option ℕ) → Option ℕ → Bool
waits S marks mark = is_some mark && not (opened S marks (checkpoint_of mark))

-- the statement executed, none in a flush
abbrev pub statement_by : Set → Choice → Thread → Statement
statement_by S (Execute t) x = S.statement t x.pc
statement_by S (Flush t) x = nothing

-- the registers afterwards
abbrev pub thread_by : Choice → Statement → Thread → (ℕ → ℕ) → Thread
thread_by (Execute t) i x memory = executed i memory x
thread_by (Flush t) i x memory = flushed x

-- the cell written
abbrev pub written_by : Choice → Statement → Thread → (ℕ → ℕ) → Option Cell
written_by (Execute t) i x memory = cond (cas_matches i x memory) (wrote (address i x memory) x.accu) no_write
written_by (Flush t) i x memory = wrote x.adr x.val

-- the cells read
abbrev pub reads_by : Choice → Statement → Thread → (ℕ → ℕ) → List ℕ
reads_by (Execute t) i x memory = cells_read i x memory
reads_by (Flush t) i x memory = []

-- the outcome, where the thread can step at all
abbrev pub outcome_by : Bool → Choice → Statement → Thread → Bool → (ℕ → ℕ) → (ℕ → Bool) → Outcome
outcome_by can c i x waiting memory known =
    cond (can && permitted_by c i x waiting) (cond (knows_all known (reads_by c i x memory)) Taken Lacking) NotPermitted

-- ---- its registers, from the address and the word that its statement takes

-- the next pc of an instruction is a word: every statement of a set has one, since a thread's count is a word
abbrev pub PcFits : Statement → Thread → Type 0
PcFits i x = i.number < instructions → x.pc < 65535

-- the registers afterwards
abbrev pub thread_from : Choice → Statement → (address word : ℕ) → Thread → Thread
thread_from (Execute t) i address word x = with_pc (next_pc i x) (row i.number i.argument address word x)
thread_from (Flush t) i address word x = flushed x

-- in state s the choice executes statement i, which takes this address and this word; a flush takes none
abbrev pub Operands : Set → State → Choice → Statement → (addressed taken : ℕ) → Type 0
Operands S s (Execute t) i addressed taken =
    (i ≡ current S s t) × (addressed ≡ address i (s.threads t) s.memory) × (taken ≡ word_taken i (s.threads t) s.memory)
Operands S s (Flush t) i addressed taken = Unit {0}

-- ---- what a call that takes a step gives

-- a step that is not taken gives no registers
abbrev pub not_taken : Outcome → Statement → ℕ → Read → Stepped
not_taken o i filled read = record { outcome = o; statement = i; thread = fresh; filled = filled; wrote = no_write; read = read }

-- x where the step was permitted, else y
abbrev pub on_permitted : {A : Type 0} → Outcome → A → A → A
on_permitted Taken x y = x
on_permitted NotPermitted x y = y
on_permitted Lacking x y = x

-- what a call that takes a step promises of its answer r and of the memory and the cells known afterwards
pub record Advances (can : Bool) (c : Choice) (i : Statement) (x : Thread) (waiting : Bool) (memory : ℕ → ℕ) (known : ℕ → Bool) (filled : ℕ)
    (r : Stepped) (later : ℕ → ℕ) (knows : ℕ → Bool) : Type 0 where
  pub came : r.outcome ≡ outcome_by can c i x waiting memory known
  pub stated : r.statement ≡ i
  pub thread : r.thread ≡ on_taken r.outcome (thread_by c i x memory) fresh
  pub memory-is : later ≡ on_taken r.outcome (memory_after (written_by c i x memory) memory) memory
  pub known_is : knows ≡ on_taken r.outcome (known_after (written_by c i x memory) known) known
  pub wrote : r.wrote ≡ on_taken r.outcome (written_by c i x memory) no_write
  pub read : cells_of r.read ≡ on_permitted r.outcome (reads_by c i x memory) []
  pub more : r.filled ≤ filled + 1
