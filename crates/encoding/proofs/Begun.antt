-- What the table of a set means, without any index: its program from the start values on. Assumes nothing.
use Prim.Native.Nat.{ℕ, ◌<◌}
use mathlib.Core.Path.{◌≡◌, refl}
use mathlib.Core.Bool.{◌&&◌, ◌||◌}
use mathlib.Core.List.{List}
use native.Mathlib.Omega.{arith}
use lib.Dec.{eqb}
use Rattle.base.proofs.Choice.{cond_both}
use Rattle.records.specs.Sets.{Set}
use Rattle.table.specs.Formulas.{word_sort, memory_sort}
use Rattle.table.specs.Programs.{program_holds}
use Rattle.table.specs.Values.{Assignment, Value, satisfies}
use Rattle.table.proofs.Meaning.{start_value, means}
use Rattle.encoding.specs.Slots.{bit_one, flag, Slot, slot, same, kind_number, kind_sort, start_place}
use Rattle.encoding.specs.Encodings.{encoded, program}

-- every slot lies in one of the first four records
pub start-below : (s : Slot) → start_place s < 4
start-below (slot k a b) =
    let first : 0 < 4 = omega arith in
    let second : 1 < 4 = omega arith in
    let third : 2 < 4 = omega arith in
    let fourth : 3 < 4 = omega arith in
    cond_both (λ (n : ℕ). n < 4) (eqb (kind_number k) (kind_number bit_one) || eqb (kind_number k) (kind_number flag) && eqb b 0) second
    (cond_both (λ (n : ℕ). n < 4) (eqb (kind_sort k) memory_sort) fourth
    (cond_both (λ (n : ℕ). n < 4) (eqb (kind_sort k) word_sort) third first))

-- the slots' values at the start
abbrev pub start_values : Assignment → Slot → Value
start_values g s = start_value g (start_place s)

pub begun : (g : Assignment) (S : Set) (cs map : List ℕ) (bound : ℕ) →
    satisfies g (encoded S cs map bound) ≡ program_holds same g (start_values g) (program S cs map bound)
unfolding encoded
begun g S cs map bound = means same g (program S cs map bound) start_place start-below (start_values g) (λ s. refl)
