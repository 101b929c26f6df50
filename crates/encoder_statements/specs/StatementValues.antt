-- The values of one kind written for a thread's statements. This serves the code; no call's promise needs it. Assumes nothing.
use Rattle.std.specs.Prelude.{ℕ, List}
use Rattle.records.specs.Sets.{Set}
use Rattle.encoding.specs.Slots.{Kind}
use Rattle.encoding.specs.Steps.{line as line_of}
use Rattle.encoder_slots.specs.Pieces.{Writes, Ready}
use Rattle.records.specs.StatementRecords.{Stands}

-- the values of a kind are written for these statements, in any set that has them, from output, slots and next index to those afterwards
abbrev pub Line : Kind → (set : List ℕ) (first count t : ℕ) (out slots : List ℕ) (n : ℕ) (out_after slots_after : List ℕ) (after : ℕ) → Type 0
Line kind set first count t out slots n out_after slots_after after =
    (S : Set) (cs members lists : List ℕ) (k : ℕ) → Stands S set first count t → Ready S cs members lists slots n →
    Writes (line_of S cs k kind t) out slots n out_after slots_after after

-- the same in any set whose members these bytes list
abbrev pub Listed : Kind → (set members : List ℕ) (first t : ℕ) (out slots : List ℕ) (n : ℕ) (out_after slots_after : List ℕ) (after : ℕ) → Type 0
Listed kind set members first t out slots n out_after slots_after after =
    (S : Set) (cs lists : List ℕ) (k count : ℕ) → Stands S set first count t → Ready S cs members lists slots n →
    Writes (line_of S cs k kind t) out slots n out_after slots_after after
