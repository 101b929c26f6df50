-- `decoder::schedule_of` meets its contract. Assumes nothing.
use Rattle.std.proofs.Common.{length, ◌≡◌}
use Rattle.decoder.proofs.Scheduled.{Scheduled}
use Rattle.decoder.proofs.schedule_of.Given as goal

abbrev pub invariant-loop-k : goal.invariant-loop-k
invariant-loop-k l = (length l.schedule ≡ 64) × Scheduled l.threads l.bound l.model l.schedule l.k
