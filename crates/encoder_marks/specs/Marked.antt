-- The kinds of values that a thread has for each checkpoint that it contains, and what the values of a kind need. This serves the code; no call's promise needs it. Assumes nothing.
use Rattle.std.specs.Prelude.{ℕ, ◌+◌, ◌≤◌, ◌≡◌, Bool, ◌||◌, List, eqb, length}
use Rattle.records.specs.Sets.{most_threads, most_checkpoints}
use Rattle.table.specs.Repeats.{last_index}
use Rattle.encoding.specs.Slots.{kind_number, held, raised, mark}
use Rattle.set_index.specs.ListTables.{lists_length}
use Rattle.encoder_slots.specs.Places.{size}
use Rattle.encoder_slots.specs.Pieces.{block_room}

-- these kinds by number
abbrev pub marked : ℕ → Bool
marked kind = eqb kind (kind_number held) || eqb kind (kind_number raised) || eqb kind (kind_number mark)

-- the values of a kind for so many threads and checkpoints have room from index n on, over lists and slots as long as they are
pub record Fits (lists slots : List ℕ) (threads count n : ℕ) : Type 0 where
  pub room : n + block_room ≤ last_index
  pub all_places : length slots ≡ size
  pub whole : length lists ≡ lists_length
  pub few_threads : threads ≤ most_threads
  pub few_points : count ≤ most_checkpoints
