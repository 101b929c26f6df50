-- How it holds a state and what is known of memory. Four threads and marks, and the sparse memory's two arrays with a filled count. This serves the
-- code; no call's promise needs it. Assumes nothing.
use Rattle.std.specs.Prelude.{ℕ, Bool, not, ◌&&◌, ◌||◌, List, [], ◌∷◌, ◌++◌, Option, Some, None, length, get_or}
use Rattle.records.specs.Maps.{holds, content}
use Rattle.records.specs.declared.Statement.{Statement}
use Rattle.machine.specs.Machine.{State, fresh, unmarked, is_empty, needs_empty}
use Rattle.machine.specs.Maps.{Held}
use Rattle.machine.specs.declared.Choice.{Choice}
use Rattle.machine.specs.declared.Choice.TheVariants.{Execute, Flush}
use Rattle.machine.specs.declared.Machine.{Machine}
use Rattle.machine.specs.declared.Read.{Read}
use Rattle.machine.specs.declared.Thread.{Thread}

-- the state of a machine with this memory
abbrev pub state_of : Machine → (ℕ → ℕ) → State
state_of m memory = record {
  threads = λ t. get_or m.threads t fresh;
  marks = λ t. get_or m.marks t unmarked;
  memory = memory;
  ended = m.ended;
  code = m.code;
}

-- the first `filled` cells of the sparse memory
abbrev pub memory_of : List ℕ → List ℕ → ℕ → ℕ → ℕ
memory_of addresses values filled a = content (λ k. get_or addresses k 0) (λ k. get_or values k 0) filled a

-- the addresses of these cells are known
abbrev pub known_of : List ℕ → ℕ → ℕ → Bool
known_of addresses filled a = holds (λ k. get_or addresses k 0) filled a

-- the whole of two slices
abbrev pub memory_in : List ℕ → List ℕ → ℕ → ℕ
memory_in addresses values = memory_of addresses values (length addresses)

-- every address of a slice is known
abbrev pub known_in : List ℕ → ℕ → Bool
known_in addresses = known_of addresses (length addresses)

-- what a machine and its sparse memory hold
abbrev pub held_of : Machine → List ℕ → List ℕ → ℕ → Held
held_of m addresses values filled = record { state = state_of m (memory_of addresses values filled); known = known_of addresses filled }

-- the choice of a thread that is there is permitted, by its statement i, its registers x and whether it waits
abbrev pub permitted_by : Choice → Statement → Thread → Bool → Bool
permitted_by (Execute t) i x waiting = not x.halted && not waiting && (not (needs_empty i.number) || is_empty x)
permitted_by (Flush t) i x waiting = not (is_empty x)

-- the cells that a step read, as the code reports them
abbrev pub listed : Option ℕ → List ℕ
listed None = []
listed (Some a) = a ∷ []

abbrev pub cells_of : Read → List ℕ
cells_of r = listed r.argument ++ listed r.word

-- no cell read
abbrev pub no_read : Read
no_read = record { argument = None; word = None }
