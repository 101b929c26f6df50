-- `set_index::lists::list_members` meets its contract. Assumes nothing.
use Rattle.std.proofs.Common.{get_or, length, ℕ, ◌+◌, ◌-◌, ◌<◌, ◌≡◌, ◌≤◌}
use Rattle.records.specs.Sets.{Set}
use Rattle.set_index.specs.Points.{listed}
use Rattle.records.specs.StatementRecords.{StandsFrom}
use Rattle.set_index.specs.Members.{Members, class_count, class_number}
use Rattle.set_index.specs.ListTables.{Distinct, Listing, many}
use Rattle.set_index.proofs.Growing.{From}
use Rattle.set_index.proofs.lists.list_members.Given as goal

abbrev pub invariant-loop-k : goal.invariant-loop-k
invariant-loop-k l =
    (l.first < 65536) × (length l.table ≡ length l.initial.table)
    × ((S : Set) → (class_number l.class) < class_count → l.t < 4 → Members S l.members → StandsFrom S l.set l.t l.first (S.count l.t) → Distinct (listed l.points)
    → l.heads + many (listed l.points) (class_number l.class) ≤ l.nexts → l.nexts + 32 ≤ length l.initial.table
    → ((p : ℕ) → p < many (listed l.points) (class_number l.class) → get_or l.initial.table (l.heads + p) 0 ≡ 32)
    → Listing S (listed l.points) (class_number l.class) l.t (From S (class_number l.class) l.t (l.count - l.k)) l.heads l.nexts l.initial.table l.table)
