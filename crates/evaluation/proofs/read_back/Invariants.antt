-- `evaluation::read_back` meets its contract. Assumes nothing.
use Rattle.std.proofs.Common.{drop, ◌-◌, ◌≡◌}
use Rattle.evaluation.specs.Evaluations.{formula_in, value_in, cell_back, memories_back}
use Rattle.records.specs.Maps.{map_value}
use Rattle.evaluation.proofs.read_back.Given as goal

abbrev pub invariant-loop : goal.invariant-loop
invariant-loop l = record {
  cell : cell_back (map_value l.given.cells.now) (formula_in l.work l.n) (value_in l.work l.n) l.n l.m l.x
      ≡ cell_back (map_value l.given.cells.now) (formula_in l.work l.n) (value_in l.work l.n) (l.n - l.counter) l.memory l.x;
  memories : drop l.counter (memories_back (formula_in l.work l.n) (value_in l.work l.n) l.n l.m l.x)
      ≡ memories_back (formula_in l.work l.n) (value_in l.work l.n) (l.n - l.counter) l.memory l.x;
}
