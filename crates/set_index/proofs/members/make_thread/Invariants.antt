-- `set_index::members::make_thread` meets its contract. Assumes nothing.
use Rattle.std.proofs.Common.{length, ◌<◌, ◌≡◌, ◌≤◌}
use Rattle.records.specs.Sets.{Set}
use Rattle.set_index.specs.Members.{Filled}
use Rattle.records.specs.StatementRecords.{StandsFrom}
use Rattle.set_index.proofs.members.make_thread.Given as goal

abbrev pub invariant-loop-i : goal.invariant-loop-i
invariant-loop-i l =
    (l.i ≤ l.end) × (l.end ≤ 32) × (l.start < 65536) × (length l.members ≡ length l.initial.members)
    × ((S : Set) → StandsFrom S l.set l.t l.start l.end → l.t < 4 → Filled S l.t 0 0 l.initial.members → Filled S l.t l.i 0 l.members)
