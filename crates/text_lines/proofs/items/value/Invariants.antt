-- `text_lines::items::value` meets its contract. The digits from an index on, after v, have the value of all; v stays at most 65,536. Assumes nothing.
use Rattle.std.proofs.Common.{ℕ, drop, min, ◌≡◌, ◌≤◌}
use Rattle.text_lines.specs.Characters.{value, value_after}
use Rattle.text_lines.proofs.items.value.Given as goal

pub record Capped (v value rest : ℕ) : Type 0 where
  pub most : v ≤ 65536
  pub same : min value 65536 ≡ min rest 65536

abbrev pub invariant-loop-b : goal.invariant-loop-b
invariant-loop-b l = Capped l.v (value l.s) (value_after l.v (drop l.b-index l.s))
