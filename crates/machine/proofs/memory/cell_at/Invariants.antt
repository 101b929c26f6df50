-- `machine::memory::cell_at` meets its contract. Assumes nothing.
use Rattle.std.proofs.Common.{get_or, ◌*◌, ◌≡◌}
use Rattle.records.specs.Maps.{cell_at}
use Rattle.machine.proofs.memory.cell_at.Given as goal

abbrev pub invariant-loop-k : goal.invariant-loop-k
invariant-loop-k l = cell_at (λ k. get_or l.addresses k 0) (16 * l.k) l.a ≡ 16 * l.k
