-- A tree of at most four records as the code writes it: its records, and the index of its own. This serves the code; no call's promise needs it.
-- Assumes nothing.
use Rattle.std.specs.Prelude.{ℕ, ◌+◌, ◌≤◌, ◌≡◌, List, [], ◌∷◌, take}
use Rattle.table.specs.declared.Formula.{Formula}
use Rattle.table.specs.Formulas.{written_at}
use Rattle.table.specs.Programs.{next, root, records}
use Rattle.encoding.specs.Slots.{Slot, slot, Term, full, adr, val, shared_memory}
use Rattle.encoder_slots.specs.Pieces.{tree_room}
use Rattle.encoder_bases.specs.declared.written.Load.{Load}
use Rattle.encoder_bases.specs.declared.written.WrittenTree.{WrittenTree}

-- how many records, the index of the tree's own, and the records
pub record SmallTree : Type 0 where
  pub count : ℕ
  pub root : ℕ
  pub first : Formula
  pub second : Formula
  pub third : Formula
  pub fourth : Formula

abbrev pub formulas : SmallTree → List Formula
formulas few = take few.count (few.first ∷ few.second ∷ few.third ∷ few.fourth ∷ [])

-- these are a tree's records from index n on
pub record Gives (given : SmallTree) (places : Slot → ℕ) (n : ℕ) (t : Term) : Type 0 where
  pub formulas_are : formulas given ≡ records places n t []
  pub root_is : given.root ≡ root places n t
  pub count_is : n + given.count ≡ next n t
  pub few : given.count ≤ tree_room

-- a tree's records are written to an output from index n on
pub record Puts (put : WrittenTree) (places : Slot → ℕ) (n : ℕ) (t : Term) (out after : List ℕ) : Type 0 where
  pub written : after ≡ written_at out n (records places n t [])
  pub root_put : put.root ≡ root places n t
  pub count_put : n + put.count ≡ next n t
  pub few_put : put.count ≤ tree_room

-- where the values lie that every load of thread t uses
abbrev pub load_of : (Slot → ℕ) → ℕ → Load
load_of at t = record { full = at (slot full t 0); adr = at (slot adr t 0); val = at (slot val t 0); memory = at (slot shared_memory 0 0) }

-- ---- what the code's parts give

-- a record without a constant
abbrev pub plain : (operation sort a b c : ℕ) → Formula
plain operation sort a b c = record { operation = operation; sort = sort; constant = 0; a = a; b = b; c = c }

-- one record at index n
abbrev pub One : SmallTree → ℕ → Formula → Type 0
One few n first = (few.count ≡ 1) × ((few.root ≡ n) × (few.first ≡ first))

-- three records, the last at index n + 2
abbrev pub Three : SmallTree → ℕ → (first second third : Formula) → Type 0
Three few n first second third =
    (few.count ≡ 3) × ((few.root ≡ n + 2) × ((few.first ≡ first) × ((few.second ≡ second) × (few.third ≡ third))))

-- the same as trees
abbrev pub one_record : ℕ → Formula → SmallTree
one_record n first = record { count = 1; root = n; first = first; second = first; third = first; fourth = first }

abbrev pub three_records : ℕ → (first second third : Formula) → SmallTree
three_records n first second third = record { count = 3; root = n + 2; first = first; second = second; third = third; fourth = third }
