-- The assignment that stands for a first memory and a run (demand 3). A reader of the calls believes this. Assumes nothing.
use Rattle.std.specs.Prelude.{ℕ, zero, suc, Bool, false, ◌&&◌, List, [], ◌∷◌, eqb}
use Rattle.machine.specs.declared.Choice.{Choice}
use Rattle.machine.specs.declared.Choice.TheVariants.{Execute, Flush}
use Rattle.table.specs.Values.{Assignment}

-- the bits of a step that takes a choice: 0 execute or 1 flush, by thread
abbrev pub named : Choice → ℕ → ℕ → Bool
named (Execute t) kind u = eqb kind 0 && eqb u t
named (Flush t) kind u = eqb kind 1 && eqb u t

-- The bit that is 1 in a step names the choice the run takes there.
unfoldable pub bits_of : List Choice → ℕ → ℕ → ℕ → Bool
bits_of [] k kind t = false
bits_of (c ∷ run) zero kind t = named c kind t
bits_of (c ∷ run) (suc k) kind t = bits_of run k kind t

-- The cells are the memory.
abbrev pub assignment_of : (ℕ → ℕ) → List Choice → Assignment
assignment_of memory run = record { choice = bits_of run; first = memory }
