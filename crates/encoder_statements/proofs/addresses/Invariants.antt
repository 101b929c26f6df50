-- `encoder_statements::addresses` meets its contract. Assumes nothing.
use Rattle.std.proofs.Common.{length, ◌*◌, ◌+◌, ◌≡◌, ◌≤◌}
use Rattle.encoding.specs.Slots.{kind_number, address}
use Rattle.encoder_statements.proofs.Values.{Row}
use Rattle.encoder_statements.proofs.addresses.Given as goal

abbrev pub invariant-loop-i : goal.invariant-loop-i
invariant-loop-i l =
    (l.next ≤ l.n + 4 * l.i) × (length l.out ≡ length l.initial.out) × (length l.slots ≡ length l.initial.slots)
    × (Row (kind_number address) l.set l.first l.count l.t l.i l.initial.out l.initial.slots l.n l.out l.slots l.next)
