-- `machine::memory::cell_from` meets its contract. Assumes nothing.
use Rattle.std.proofs.Common.{get_or, ◌≡◌}
use Rattle.records.specs.Maps.{cell_at}
use Rattle.machine.proofs.memory.cell_from.Given as goal

abbrev pub invariant-loop-i : goal.invariant-loop-i
invariant-loop-i l = cell_at (λ k. get_or l.addresses k 0) l.i l.a ≡ l.i
