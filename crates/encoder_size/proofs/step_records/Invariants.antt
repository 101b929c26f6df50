-- `encoder_size::step_records` meets its contract. Assumes nothing.
use Rattle.std.proofs.Common.{get_or, ℕ, ◌*◌, ◌≡◌, ◌≤◌}
use Rattle.encoder_size.specs.Sizes.{total, thread_records}
use Rattle.set_index.specs.Points.{listed}
use Rattle.records.specs.Sets.{set_by}
use Rattle.encoder_size.proofs.step_records.Given as goal

abbrev pub invariant-loop-t : goal.invariant-loop-t
invariant-loop-t l =
    (l.n ≡ total (thread_records (set_by l.set l.layout) (listed l.points)) l.t) × (l.n ≤ 1572887 * l.t) × (((u : ℕ) → get_or l.layout.counts u 0 ≤ 32) → l.n ≤ 815 * l.t)
