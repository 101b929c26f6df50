-- `encoder_size::all_statements` meets its contract. Assumes nothing.
use Rattle.std.proofs.Common.{get_or, ℕ, ◌*◌, ◌≡◌, ◌≤◌}
use Rattle.encoder_size.specs.Sizes.{total}
use Rattle.encoder_size.proofs.all_statements.Given as goal

abbrev pub invariant-loop-t : goal.invariant-loop-t
invariant-loop-t l =
    (l.n ≡ total (λ u. get_or l.layout.counts u 0) l.t) × (l.n ≤ 65535 * l.t) × (((u : ℕ) → get_or l.layout.counts u 0 ≤ 32) → l.n ≤ 32 * l.t)
