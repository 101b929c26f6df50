-- A piece of a program written to a table: the output, the places and the next index afterwards. This serves the code; no call's promise needs it.
-- Assumes nothing.
use Rattle.std.specs.Prelude.{ℕ, ◌+◌, ◌*◌, ◌<◌, ◌≡◌, List, [], length}
use Rattle.records.specs.Sets.{Set, most_threads, most_statements}
use Rattle.table.specs.Formulas.{written_at}
use Rattle.table.specs.Programs.{Command, next, root, records, compiled, next_after, places_after}
use Rattle.encoding.specs.Slots.{Slot, same, Term}
use Rattle.encoder_slots.specs.Places.{place_of, size}
use Rattle.set_index.specs.Members.{Members}
use Rattle.set_index.specs.ListTables.{ListTable}
use Rattle.encoder_slots.specs.Idle.{Idle}

-- from output, slots and next index to those afterwards
pub record Writes (program : List (Command Slot)) (out slots : List ℕ) (n : ℕ) (out_after slots_after : List ℕ) (after : ℕ) : Type 0 where
  pub written : out_after ≡ written_at out n (compiled same (place_of slots) n program)
  pub places : place_of slots_after ≡ places_after same (place_of slots) n program
  pub next : after ≡ next_after same n program
  pub slots_stay : length slots_after ≡ length slots

-- a tree written from index n on: the output, the next index and the tree's own index afterwards
pub record WritesTree (places : Slot → ℕ) (tree : Term) (out : List ℕ) (n : ℕ) (out_after : List ℕ) (after at : ℕ) : Type 0 where
  pub tree_written : out_after ≡ written_at out n (records places n tree [])
  pub tree_next : after ≡ next n tree
  pub tree_root : at ≡ root places n tree

-- what the code keeps to while it writes the table of a set: the set's statements are listed, by class and by what they name (so there are at most 4 threads
-- of 32 statements, and 8 checkpoints), every slot lies below the next index, and values that a statement does not have lie where their constant lies
pub record Ready (S : Set) (cs members lists slots : List ℕ) (n : ℕ) : Type 0 where
  pub by_class : Members S members
  pub by_name : ListTable S cs lists
  pub all_places : length slots ≡ size
  pub below : (s : Slot) → place_of slots s < n
  pub idle : Idle S (place_of slots)

-- the most records of a value's base, of the links over it (one for each statement of a thread), and of both
abbrev pub tree_room : ℕ
tree_room = 4

abbrev pub chain_room : ℕ
chain_room = most_statements

abbrev pub entry_room : ℕ
entry_room = tree_room + chain_room

-- the most records of a kind's values for one thread, and for all threads
abbrev pub line_room : ℕ
line_room = most_statements * entry_room

abbrev pub block_room : ℕ
block_room = most_threads * line_room
