-- `encoder_statements::not_tests` meets its contract. Assumes nothing.
use Rattle.std.proofs.Common.{List, length, ℕ, ◌*◌, ◌+◌, ◌≡◌, ◌≤◌}
use Rattle.encoding.specs.Slots.{kind_number, not_test}
use Rattle.encoder_statements.proofs.Listed.{Some}
use Rattle.set_index.specs.Members.{conditional_class}
use Rattle.encoder_statements.proofs.not_tests.Given as goal

abbrev pub invariant-loop-j : goal.invariant-loop-j
invariant-loop-j l =
    (l.next ≤ l.n + 4 * l.j) × (length l.out ≡ length l.initial.out) × (length l.slots ≡ length l.initial.slots)
    × ((set : List ℕ) (first : ℕ) → Some (kind_number not_test) conditional_class set l.members first l.t l.j l.initial.out l.initial.slots l.n l.out l.slots l.next)
