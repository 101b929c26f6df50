-- `evaluation::evaluate` meets its contract. Assumes nothing.
use Rattle.std.proofs.Common.{length, ◌-◌, ◌≡◌}
use Rattle.evaluation.specs.Evaluations.{given_by, turned, false_from}
use Rattle.evaluation.proofs.evaluate.Given as goal

abbrev pub invariant-loop-i : goal.invariant-loop-i
invariant-loop-i l = record {
  long : length l.work ≡ length l.initial.work;
  found : false_from (given_by l.threads l.bound l.model l.cells) l.n 0 l.n l.initial.work
      ≡ false_from (given_by l.threads l.bound l.model l.cells) l.n l.i (l.n - l.i) l.work;
  turn : l.work ≡ turned (given_by l.threads l.bound l.model l.cells) l.n l.i l.initial.work;
}
