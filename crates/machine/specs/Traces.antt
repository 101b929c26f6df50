-- Trace steps and the trace of a run (document 01, "Records"). A reader of the calls believes this. Assumes nothing.
use Rattle.std.specs.Prelude.{ℕ, ◌*◌, Bool, cond, List, [], ◌∷◌, ◌++◌, eqb, get_or, Option, is_some}
use Rattle.base.specs.Bytes.{word}
use Rattle.records.specs.Instructions.{instructions}
use Rattle.records.specs.Sets.{Set}
use Rattle.records.specs.declared.Statement.{Statement}
use Rattle.machine.specs.Machine.{State, current, actor, step, cell_of, written}
use Rattle.machine.specs.Runs.{most_steps}
use Rattle.machine.specs.declared.Choice.{Choice}
use Rattle.machine.specs.declared.Choice.TheVariants.{Execute, Flush}
use Rattle.machine.specs.declared.Thread.{Thread}
use Rattle.records.specs.declared.Cell.{Cell}

-- 1 or 0
abbrev pub bit : Bool → ℕ
bit b = cond b 1 0

-- A flush stands in a trace as number 20 with argument and mode 0.
abbrev pub flush_record : Statement
flush_record = record { number = instructions; mode = 0; argument = 0 }

-- what a choice does, as a trace step names it
unfoldable pub shown : Set → State → Choice → Statement
shown S s (Execute t) = current S s t
shown S s (Flush t) = flush_record

-- the bytes of a trace step
abbrev pub step_length : ℕ
step_length = 24

-- the bytes of the longest trace
abbrev pub longest_trace : ℕ
longest_trace = step_length * most_steps

-- Trace step, 24 bytes, the state before the step: thread; instruction number, 20 for a flush; pc (2); argument (2); mode; full;
-- accu, mem, adr, val (2 each); byte 16 is 1 if the previous step wrote, then 0, and the address and value written; two bytes 0.
unfoldable pub step_bytes : ℕ → Statement → Thread → Option Cell → List ℕ
step_bytes t i x w =
    t ∷ i.number ∷ word x.pc (word i.argument (i.mode ∷ bit x.full
    ∷ word x.accu (word x.mem (word x.adr (word x.val
    (bit (is_some w) ∷ 0 ∷ word (cell_of w).address (word (cell_of w).value (0 ∷ 0 ∷ []))))))))

-- the record of a step; w is what the previous step wrote
unfoldable pub trace_step : Set → State → Option Cell → Choice → List ℕ
trace_step S s w c = step_bytes (actor c) (shown S s c) (s.threads (actor c)) w

-- A run's trace is one such record for each step, in order.
unfoldable pub trace : Set → State → Option Cell → List Choice → List ℕ
trace S s w [] = []
trace S s w (c ∷ run) = trace_step S s w c ++ trace S (step S s c) (written S s c) run

-- Replay takes the choice from a step's thread and from whether its number is 20.
unfoldable pub step_choice : List ℕ → Choice
step_choice bytes = cond (eqb (get_or bytes 1 0) instructions) (Flush (get_or bytes 0 0)) (Execute (get_or bytes 0 0))
