-- `set_index::lists::make` meets its contract. Assumes nothing.
use Rattle.std.proofs.Common.{length, replicate, ◌≡◌, ◌≤◌}
use Rattle.records.specs.Sets.{set_by}
use Rattle.set_index.specs.Points.{listed}
use Rattle.set_index.specs.Members.{Members}
use Rattle.set_index.specs.ListTables.{Distinct, Made, lists_length, no_statement}
use Rattle.set_index.proofs.lists.make.Given as goal

abbrev pub invariant-loop-t : goal.invariant-loop-t
invariant-loop-t l =
    (l.t ≤ l.threads) × (l.threads ≤ 4) × (length (listed l.points) ≤ 8) × (length l.table ≡ length l.initial.table)
    × (l.initial.table ≡ replicate lists_length no_statement → Members (set_by l.set l.layout) l.members → Distinct (listed l.points) → Made (set_by l.set l.layout) (listed l.points) l.t l.table)
