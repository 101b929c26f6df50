-- `encoder_size::checks` meets its contract. Assumes nothing.
use Rattle.std.proofs.Common.{eqb, get_or, length, ◌≡◌, ◌≤◌}
use Rattle.encoder_size.specs.Seen.{Notes}
use Rattle.set_index.specs.Points.{listed}
use Rattle.base.specs.Below.{number}
use Rattle.encoder_size.proofs.checks.Given as goal

abbrev pub invariant-loop-p : goal.invariant-loop-p
invariant-loop-p l =
    (l.p-end ≤ 8) × (l.found ≤ l.p) × (l.found ≡ number l.p (λ q. eqb l.c (get_or (listed l.points) q 0)))
    × (length l.seen ≡ length l.initial.seen) × (length l.seen ≡ 8)
    × Notes l.p (λ q. eqb l.c (get_or (listed l.points) q 0)) l.initial.seen l.seen
