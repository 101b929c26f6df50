-- `encoder_statements::loads` meets its contract. Assumes nothing.
use Rattle.std.proofs.Common.{length, ◌*◌, ◌+◌, ◌≡◌, ◌≤◌}
use Rattle.encoding.specs.Slots.{kind_number, loaded}
use Rattle.encoder_statements.proofs.Listed.{Some}
use Rattle.set_index.specs.Members.{load_class}
use Rattle.encoder_statements.proofs.loads.Given as goal

abbrev pub invariant-loop-j : goal.invariant-loop-j
invariant-loop-j l =
    (l.next ≤ l.n + 4 * l.j) × (length l.out ≡ length l.initial.out) × (length l.slots ≡ length l.initial.slots)
    × (Some (kind_number loaded) load_class l.set l.members l.first l.t l.j l.initial.out l.initial.slots l.n l.out l.slots l.next)
