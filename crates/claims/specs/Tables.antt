-- Demand 3, what a table means: "F has a satisfying assignment exactly when, from some first memory that agrees with the map, S has a run of at most
-- K steps whose last step executes EXIT and gives a code other than 0. Satisfying assignments match such pairs of memory and run one to one: the
-- cells are the memory, and the bit that is 1 in a step names the choice the run takes there." Statements alone; proofs/Tables.antt proves them.
-- Assumes nothing.
use Rattle.std.specs.Prelude.{ℕ, ◌≤◌, ◌<◌, ◌≡◌, true, List, [], ◌∷◌, ◌++◌, ◌↔◌, length}
use Rattle.records.specs.Instructions.{EXIT}
use Rattle.records.specs.Maps.{cells, address_at, value_at, map_accepted}
use Rattle.records.specs.Sets.{Set, set_of, set_accepted}
use Rattle.machine.specs.Machine.{start, current}
use Rattle.machine.specs.Runs.{is_run, after}
use Rattle.machine.specs.declared.Choice.{Choice}
use Rattle.machine.specs.declared.Choice.TheVariants.{Execute}
use Rattle.table.specs.Tables.{WellFormedTable}
use Rattle.table.specs.Values.{Assignment, satisfies}
use Rattle.encoding.specs.Assignments.{assignment_of}
use Rattle.encoding.specs.Encodings.{table_of}
use Rattle.claims.specs.Runs.{AreBytes}

-- ---- memories and runs

-- Shared memory has 65,536 cells of 16 bits; what a function has beyond them is 0.
pub record IsMemory (memory : ℕ → ℕ) : Type 0 where
  pub words : (a : ℕ) → memory a < 65536
  pub beyond : (a : ℕ) → 65536 ≤ a → memory a ≡ 0

-- a first memory that agrees with the map
abbrev pub Agrees : List ℕ → (ℕ → ℕ) → Type 0
Agrees map memory = (j : ℕ) → j < cells map → memory (address_at map j) ≡ value_at map j

-- a run of at most so many steps whose last step executes EXIT and gives a code other than 0
pub record Fails (S : Set) (bound : ℕ) (memory : ℕ → ℕ) (run : List Choice) : Type 0 where
  pub permitted : is_run S (start memory) run ≡ true
  pub bounded : length run ≤ bound
  pub before : List Choice
  pub thread : ℕ
  pub last : run ≡ before ++ (Execute thread ∷ [])
  pub exit : (current S (after S (start memory) before) thread).number ≡ EXIT
  pub code : (after S (start memory) run).code ≡ 0 → ⊥

-- such a pair of memory and run
pub record Failure (set map : List ℕ) (bound : ℕ) (memory : ℕ → ℕ) (run : List Choice) : Type 0 where
  pub is_memory : IsMemory memory
  pub agrees : Agrees map memory
  pub fails : Fails (set_of set) bound memory run

-- ---- assignments

-- An assignment gives each choice bit of the table and all 65,536 first cells a value; there are no other bits.
pub record IsAssignment (threads bound : ℕ) (g : Assignment) : Type 0 where
  pub bits : (k kind t : ℕ) → g.choice k kind t ≡ true → (k < bound) × ((kind < 2) × (t < threads))
  pub is_memory : IsMemory g.first

-- an assignment that satisfies the table
pub record Satisfying (set map : List ℕ) (bound : ℕ) (g : Assignment) : Type 0 where
  pub is_assignment : IsAssignment (set_of set).threads bound g
  pub satisfied : satisfies g (table_of set map bound) ≡ true

-- ---- the claims

-- for every accepted set with its map and every bound from 1 to 64
abbrev pub ForAccepted : ((set map : List ℕ) (bound : ℕ) → Type 0) → Type 0
ForAccepted Claim =
    (set map : List ℕ) (bound : ℕ) → set_accepted set ≡ true → map_accepted 128 map ≡ true → 1 ≤ bound → bound ≤ 64 → Claim set map bound

-- F has a satisfying assignment exactly when some first memory that agrees with the map has a failing run.
abbrev pub SatisfiableExactly : (set map : List ℕ) (bound : ℕ) → Type 0
SatisfiableExactly set map bound =
    ((g : Assignment) × Satisfying set map bound g)
    ↔ ((memory : ℕ → ℕ) × ((run : List Choice) × Failure set map bound memory run))

-- Satisfying assignments match such pairs of memory and run one to one.
pub record OneToOne (set map : List ℕ) (bound : ℕ) : Type 0 where
  -- each pair has its assignment
  pub assignment : (memory : ℕ → ℕ) (run : List Choice) → Failure set map bound memory run → Satisfying set map bound (assignment_of memory run)
  -- each satisfying assignment is that of a pair
  pub pair : (g : Assignment) → Satisfying set map bound g →
      (run : List Choice) × ((g ≡ assignment_of g.first run) × Failure set map bound g.first run)
  -- two pairs with one assignment are one
  pub apart : (memory other : ℕ → ℕ) (run another : List Choice) → Failure set map bound memory run → Failure set map bound other another →
      assignment_of memory run ≡ assignment_of other another → (memory ≡ other) × (run ≡ another)

-- The table is well formed by document 01's rules.
abbrev pub TableWellFormed : (set map : List ℕ) (bound : ℕ) → Type 0
TableWellFormed set map bound = WellFormedTable (set_of set).threads bound (cells map) (table_of set map bound)

abbrev pub TableMeansTheProgram : Type 0
TableMeansTheProgram = ForAccepted SatisfiableExactly

abbrev pub AssignmentsMatchRuns : Type 0
AssignmentsMatchRuns = ForAccepted OneToOne

-- A set's and a map's records are bytes, as every lent slice is; a list of numbers need not be.
abbrev pub TablesAreWellFormed : Type 0
TablesAreWellFormed = ForAccepted (λ set map bound. AreBytes set → AreBytes map → TableWellFormed set map bound)
