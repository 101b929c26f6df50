-- `set_index::members::make` meets its contract. Assumes nothing.
use Rattle.std.proofs.Common.{length, ◌≡◌}
use Rattle.records.specs.Sets.{set_by}
use Rattle.set_index.specs.Members.{Filled}
use Rattle.set_index.proofs.members.make.Given as goal

abbrev pub invariant-loop-t : goal.invariant-loop-t
invariant-loop-t l =
    (length l.members ≡ length l.initial.members)
    × (Filled (set_by l.set l.layout) 0 0 0 l.initial.members → Filled (set_by l.set l.layout) l.t 0 0 l.members)
