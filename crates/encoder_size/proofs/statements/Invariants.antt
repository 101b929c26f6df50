-- `encoder_size::statements` meets its contract. Assumes nothing.
use Rattle.std.proofs.Common.{Bool, List, length, ℕ, ◌*◌, ◌+◌, ◌<◌, ◌≡◌, ◌≤◌}
use Rattle.encoder_size.specs.Sizes.{total, statement_records}
use Rattle.encoder_size.specs.Seen.{checks_at, Notes}
use Rattle.base.specs.Below.{some}
use Rattle.set_index.specs.Points.{listed}
use Rattle.records.specs.declared.Statement.{Statement}
use Rattle.records.specs.Sets.{statement_at}
use Rattle.encoder_size.proofs.statements.Given as goal

-- a statement is a CHECK of checkpoint p
abbrev pub checks_in : List ℕ → Statement → ℕ → Bool
checks_in cs s p = checks_at cs s.number s.argument p

abbrev pub invariant-loop-i : goal.invariant-loop-i
invariant-loop-i l =
    (l.first < 65536) × (l.n ≡ total (λ j. statement_records (listed l.points) l.count j (statement_at l.set (l.first + j))) l.i) × (l.n ≤ 24 * l.i)
    × (length l.seen ≡ length l.initial.seen) × (length l.seen ≡ 8)
    × Notes (length (listed l.points)) (λ p. some l.i (λ j. checks_in (listed l.points) (statement_at l.set (l.first + j)) p)) l.initial.seen l.seen
