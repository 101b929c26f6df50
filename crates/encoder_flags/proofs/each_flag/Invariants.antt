-- `encoder_flags::each_flag` meets its contract. Assumes nothing.
use Rattle.std.proofs.Common.{List, length, ℕ, ◌*◌, ◌+◌, ◌<◌, ◌≡◌, ◌≤◌}
use Rattle.records.specs.StatementRecords.{Stands}
use Rattle.encoder_slots.specs.Pieces.{Writes, Ready, entry_room}
use Rattle.encoding.specs.Steps.{entry}
use Rattle.encoding.specs.Slots.{flag}
use Rattle.table.specs.Programs.{upto}
use Rattle.records.specs.Sets.{Set}
use Rattle.encoder_flags.proofs.each_flag.Given as goal

abbrev pub invariant-loop-j : goal.invariant-loop-j
invariant-loop-j l =
    (l.next ≤ l.n + entry_room * l.j) × (length l.out ≡ length l.initial.out) × (length l.slots ≡ length l.initial.slots)
    × ((S : Set) (cs members : List ℕ) (k : ℕ) → l.t < S.threads → Stands S l.set l.first l.count l.t → Ready S cs members l.lists l.initial.slots l.n
    → (Writes (upto (entry S cs k flag l.t) l.j) l.initial.out l.initial.slots l.n l.out l.slots l.next) × (Ready S cs members l.lists l.slots l.next))
