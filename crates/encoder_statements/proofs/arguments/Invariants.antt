-- `encoder_statements::arguments` meets its contract. Assumes nothing.
use Rattle.std.proofs.Common.{length, ◌*◌, ◌+◌, ◌≡◌, ◌≤◌}
use Rattle.encoding.specs.Slots.{kind_number, argument}
use Rattle.encoder_statements.proofs.Values.{Row}
use Rattle.encoder_statements.proofs.arguments.Given as goal

abbrev pub invariant-loop-i : goal.invariant-loop-i
invariant-loop-i l =
    (l.next ≤ l.n + 4 * l.i) × (length l.out ≡ length l.initial.out) × (length l.slots ≡ length l.initial.slots)
    × (Row (kind_number argument) l.set l.first l.count l.t l.i l.initial.out l.initial.slots l.n l.out l.slots l.next)
