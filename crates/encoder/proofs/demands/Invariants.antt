-- `encoder::demands` meets its contract. Assumes nothing.
use Rattle.std.proofs.Common.{length, ◌*◌, ◌+◌, ◌≡◌, ◌≤◌}
use Rattle.encoding.specs.Encodings.{map_demand}
use Rattle.table.specs.Programs.{upto}
use Rattle.encoder_slots.specs.Pieces.{Writes}
use Rattle.encoder.proofs.demands.Given as goal

abbrev pub invariant-loop-j : goal.invariant-loop-j
invariant-loop-j l =
    (l.j-end ≤ 128) × (l.next ≤ l.n + 5 * l.j) × (length l.out ≡ length l.initial.out)
    × (Writes (upto (map_demand l.map) l.j) l.initial.out l.slots l.n l.out l.slots l.next)
