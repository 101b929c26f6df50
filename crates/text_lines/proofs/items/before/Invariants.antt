-- `text_lines::items::before` meets its contract. The run over s is what was passed and the run over the rest. Assumes nothing.
use Rattle.std.proofs.Common.{◌≡◌, ◌≤◌, not, eqb, length, ◌+◌, ◌-◌}
use Rattle.text_lines.specs.Characters.{run}
use Rattle.text_lines.proofs.items.before.Given as goal

abbrev pub invariant-loop-eight : goal.invariant-loop-eight
invariant-loop-eight l = (length l.rest ≤ length l.s) × (run (λ x. not (eqb x l.b)) l.s ≡ length l.s - length l.rest + run (λ x. not (eqb x l.b)) l.rest)

abbrev pub decreases-loop-eight : goal.decreases-loop-eight
decreases-loop-eight l = length l.rest
