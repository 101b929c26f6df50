-- Runs and their ends (document 01, "Machine"), and the choices that a schedule names ("Records"). A reader of the calls believes this. Assumes
-- nothing.
use Rattle.std.specs.Prelude.{ℕ, ◌-◌, Bool, true, cond, not, ◌&&◌, ◌||◌, List, [], ◌∷◌, ltb}
use Rattle.base.specs.Below.{some}
use Rattle.records.specs.Sets.{Set}
use Rattle.machine.specs.Machine.{State, permitted, step}
use Rattle.machine.specs.declared.Choice.{Choice}
use Rattle.machine.specs.declared.Choice.TheVariants.{Execute, Flush}
use Rattle.machine.specs.declared.End.{End}
use Rattle.machine.specs.declared.End.TheVariants.{Code, Stuck, Open}

-- the most steps of a schedule and of a trace
abbrev pub most_steps : ℕ
most_steps = 64

-- schedule bytes from here on flush
abbrev pub flush_byte : ℕ
flush_byte = 128

-- Schedule byte: t executes thread t, 128 + t flushes it; any other byte is a choice not permitted.
unfoldable pub choice_of : ℕ → Choice
choice_of k = cond (ltb k flush_byte) (Execute k) (Flush (k - flush_byte))

-- the choices of a schedule, byte by byte
unfoldable pub choices : List ℕ → List Choice
choices [] = []
choices (k ∷ schedule) = choice_of k ∷ choices schedule

-- A choice can be taken where the machine has not ended and it is permitted.
abbrev pub takes : Set → State → Choice → Bool
takes S s c = not s.ended && permitted S s c

-- A run is a list of choices, each permitted when taken and none after the end.
unfoldable pub is_run : Set → State → List Choice → Bool
is_run S s [] = true
is_run S s (c ∷ run) = takes S s c && is_run S (step S s c) run

-- the state after a run
unfoldable pub after : Set → State → List Choice → State
after S s [] = s
after S s (c ∷ run) = after S (step S s c) run

-- thread t is permitted a choice
abbrev pub can_act : Set → State → ℕ → Bool
can_act S s t = permitted S s (Execute t) || permitted S s (Flush t)

-- some choice is permitted
unfoldable pub some_permitted : Set → State → Bool
some_permitted S s = some S.threads (can_act S s)

-- A run that has not ended is stuck if no choice is permitted, else open.
unfoldable pub end_of : Set → State → End
end_of S s = cond s.ended (Code s.code) (cond (some_permitted S s) Open Stuck)
