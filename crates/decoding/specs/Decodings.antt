-- What decoding makes of an assignment: its run, the run's trace, and the map (document 01, "Records"). A reader of the calls believes this. Assumes
-- nothing.
use Rattle.std.specs.Prelude.{ℕ, zero, suc, ◌+◌, ◌-◌, Bool, false, cond, not, ◌&&◌, ◌||◌, List, [], ◌∷◌, ◌++◌, eqb, ltb, Option, is_some}
use Rattle.base.specs.Below.{some, least}
use Rattle.base.specs.Bytes.{word}
use Rattle.records.specs.Maps.{mapped}
use Rattle.records.specs.Sets.{Set, set_of}
use Rattle.machine.specs.Machine.{State, start, step, reads, written, no_write, cell_of}
use Rattle.machine.specs.Traces.{trace}
use Rattle.machine.specs.declared.Choice.{Choice}
use Rattle.machine.specs.declared.Choice.TheVariants.{Execute, Flush}
use Rattle.records.specs.declared.Cell.{Cell}
use Rattle.table.specs.Values.{Assignment}
use Rattle.encoding.specs.Checkpoints.{member}

-- ---- the run

-- the bit of choice j in step k: executes by thread, then flushes by thread
abbrev pub bit_at : (threads : ℕ) → Assignment → (k j : ℕ) → Bool
bit_at threads g k j = cond (ltb j threads) (g.choice k 0 j) (g.choice k 1 (j - threads))

-- choice j of a step
abbrev pub choice_number : (threads j : ℕ) → Choice
choice_number threads j = cond (ltb j threads) (Execute j) (Flush (j - threads))

-- The bit that is 1 in a step names the choice the run takes there; the run is over where none is. n steps from step k on.
unfoldable pub run_from : (threads : ℕ) → Assignment → (k n : ℕ) → List Choice
run_from threads g k zero = []
run_from threads g k (suc n) =
    cond (some (threads + threads) (bit_at threads g k))
    (choice_number threads (least (threads + threads) (bit_at threads g k)) ∷ run_from threads g (suc k) n)
    []

-- the run of an assignment
abbrev pub run_of : (threads bound : ℕ) → Assignment → List Choice
run_of threads bound g = run_from threads g 0 bound

-- ---- the trace

-- the trace of that run
unfoldable pub decoded_trace : (set : List ℕ) (bound : ℕ) → Assignment → List ℕ
decoded_trace set bound g = trace (set_of set) (start g.first) no_write (run_of (set_of set).threads bound g)

-- ---- the map

-- a step wrote address a
abbrev pub writes : Option Cell → ℕ → Bool
writes w a = is_some w && eqb (cell_of w).address a

-- a first cell read: by a load not forwarded or a CAS, before any write to it
unfoldable pub reads_first : Set → State → List Choice → ℕ → Bool
reads_first S s [] a = false
reads_first S s (c ∷ run) a = member a (reads S s c) || not (writes (written S s c) a) && reads_first S (step S s c) run a

-- the map records of the addresses below n that pass, ascending, with a memory's values
unfoldable pub cells_below : (ℕ → Bool) → (ℕ → ℕ) → ℕ → List ℕ
cells_below test memory zero = []
cells_below test memory (suc a) = cells_below test memory a ++ cond (test a) (word a (word (memory a) [])) []

-- the bytes of the longest map, one of 256 cells
abbrev pub longest_map : ℕ
longest_map = 1024

-- a map: the set's cells and every first cell read, with first values
unfoldable pub decoded_map : (set map : List ℕ) (bound : ℕ) → Assignment → List ℕ
decoded_map set map bound g =
    cells_below (λ a. mapped map a || reads_first (set_of set) (start g.first) (run_of (set_of set).threads bound g) a) g.first 65536
