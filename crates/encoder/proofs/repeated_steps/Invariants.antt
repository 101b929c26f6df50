-- `encoder::repeated_steps` meets its contract. Assumes nothing.
use Rattle.std.proofs.Common.{List, length, ℕ, ◌*◌, ◌+◌, ◌≡◌, ◌≤◌}
use Rattle.records.specs.Sets.{Set}
use Rattle.encoding.specs.Slots.{Slot}
use Rattle.encoder.specs.Repeating.{Started, Stepped, early_room, steps_room}
use Rattle.encoder.proofs.repeated_steps.Given as goal

abbrev pub invariant-loop-k : goal.invariant-loop-k
invariant-loop-k l =
    (l.bound ≤ 64) × (l.n ≤ early_room + steps_room) × (l.next ≤ l.n + steps_room * l.k) × (length l.out ≡ length l.initial.out)
    × ((S : Set) (cs : List ℕ) (start : Slot → ℕ) (begun : List ℕ) → Started S cs start l.threads l.first l.stride → 16 * (l.first + l.bound * l.stride) ≤ length begun →
    Stepped S cs start l.first 2 begun l.initial.out l.n → Stepped S cs start l.first l.k begun l.out l.next)
