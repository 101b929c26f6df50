-- The blocks of checkpoints as their loops write them. Assumes nothing.
use Prim.Native.Nat.{ℕ, ◌+◌, ◌≤◌}
use mathlib.Core.Path.{◌≡◌, subst}
use mathlib.Core.List.{List}
use lib.ListN.{length}
use Rattle.records.specs.Sets.{Set}
use Rattle.table.specs.Programs.{upto}
use Rattle.encoding.specs.Slots.{opening, waits}
use Rattle.encoding.specs.Steps.{entry, line, block}
use native.Mathlib.Omega.{arith}
use Rattle.table.specs.Repeats.{last_index}
use Rattle.encoder_slots.specs.Pieces.{Writes, Ready, block_room}
use Rattle.encoder_marks.specs.Marked.{Fits}
use Rattle.encoder_slots.proofs.Pieces.{writes-row, writes_more}

module _ (S : Set) (cs : List ℕ) (k : ℕ) (out slots : List ℕ) (n : ℕ) (after slots_after : List ℕ) (m : ℕ) where
  -- one value for each checkpoint, in one row
  pub openings_written : (p : ℕ) → p ≡ length cs → Writes (upto (entry S cs k opening 0) p) out slots n after slots_after m → Writes (block S cs k opening) out slots n after slots_after m
  openings_written p all w =
      writes_more (line S cs k opening) 0 out slots n out slots n after slots_after m (writes-row (line S cs k opening) out slots n)
      (subst (λ (j : ℕ). Writes (upto (entry S cs k opening 0) j) out slots n after slots_after m) all w)

  -- one value for each thread
  pub waits-line : (t : ℕ) → Writes (entry S cs k waits t 0) out slots n after slots_after m → Writes (line S cs k waits t) out slots n after slots_after m
  waits-line t w =
      writes_more (entry S cs k waits t) 0 out slots n out slots n after slots_after m (writes-row (entry S cs k waits t) out slots n) w

-- where the code is ready to write a set's table, what the values of a kind need is there
pub ready-fits : {S : Set} {cs members lists slots : List ℕ} {threads count n : ℕ} → S.threads ≡ threads → length cs ≡ count → Ready S cs members lists slots n →
    n + block_room ≤ last_index → Fits lists slots threads count n
ready-fits row column ready room = record {
  room = room;
  all_places = ready.all_places;
  whole = ready.by_name.whole;
  few_threads = (let four = ready.by_name.four_threads in omega arith);
  few_points = (let eight = ready.by_name.eight_points in omega arith);
}
