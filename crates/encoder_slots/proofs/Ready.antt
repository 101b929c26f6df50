-- What the code keeps to while it writes holds after each piece too, and what follows from it for a thread. Assumes nothing.
use Prim.Native.Nat.{ℕ, ◌≤◌, ◌<◌}
use mathlib.Core.Path.{◌∙◌, subst}
use mathlib.Core.List.{List}
use native.Mathlib.Omega.{arith}
use Rattle.records.specs.Sets.{Set, most_threads}
use Rattle.table.specs.Programs.{Command}
use Rattle.table.specs.Repeats.{last_index}
use Rattle.table.proofs.Sequences.{inside}
use Rattle.set_index.specs.ListTables.{JumpsOf}
use Rattle.records.specs.StatementRecords.{Stands}
use Rattle.encoding.specs.Slots.{Kind, Slot, Term}
use Rattle.encoding.specs.Steps.{entry, line, block, blocks}
use Rattle.encoder_slots.specs.Places.{place_of}
use Rattle.encoder_slots.specs.Pieces.{Writes, WritesTree, Ready}
use Rattle.encoder_slots.proofs.Pieces.{below-after}
use Rattle.encoder_slots.proofs.Idle.{Keeps, idle-entry, idle-line, idle-block, idle_blocks, idle-written}

module _ {S : Set} {cs members lists : List ℕ} {out slots : List ℕ} {n : ℕ} {out1 slots1 : List ℕ} {n1 : ℕ} where
  pub ready-after : (P : List (Command Slot)) → Keeps S P → Writes P out slots n out1 slots1 n1 → Ready S cs members lists slots n → Ready S cs members lists slots1 n1
  ready-after P keeps w r = record {
    by_class = r.by_class;
    by_name = r.by_name;
    all_places = w.slots_stay ∙ r.all_places;
    below = below-after P _ _ _ _ _ _ w r.below;
    idle = idle-written S P keeps _ _ _ _ _ _ w r.idle;
  }

  pub ready-entry : (k : ℕ) (kind : Kind) (a b : ℕ) → Writes (entry S cs k kind a b) out slots n out1 slots1 n1 → Ready S cs members lists slots n → Ready S cs members lists slots1 n1
  ready-entry k kind a b = ready-after (entry S cs k kind a b) (idle-entry S cs k kind a b)

  pub ready-line : (k : ℕ) (kind : Kind) (a : ℕ) → Writes (line S cs k kind a) out slots n out1 slots1 n1 → Ready S cs members lists slots n → Ready S cs members lists slots1 n1
  ready-line k kind a = ready-after (line S cs k kind a) (idle-line S cs k kind a)

  pub ready-block : (k : ℕ) (kind : Kind) → Writes (block S cs k kind) out slots n out1 slots1 n1 → Ready S cs members lists slots n → Ready S cs members lists slots1 n1
  ready-block k kind = ready-after (block S cs k kind) (idle-block S cs k kind)

  pub ready-blocks : (k j m : ℕ) → Writes (blocks S cs k j m) out slots n out1 slots1 n1 → Ready S cs members lists slots n → Ready S cs members lists slots1 n1
  ready-blocks k j m = ready-after (blocks S cs k j m) (idle_blocks S cs k j m)

-- the index of a tree that was written below the last index can be kept
pub ready-root : {S : Set} {cs members lists slots : List ℕ} {n : ℕ} → Ready S cs members lists slots n →
    {tree : Term} {out after : List ℕ} {m at : ℕ} → WritesTree (place_of slots) tree out n after m at → m ≤ last_index → at < 4294967295
ready-root {slots = slots} {n = n} r {tree = tree} w most =
    let i = inside (place_of slots) tree n r.below in
    let e = w.tree_root in
    let f = w.tree_next in
    omega arith

-- ---- a thread of the set

module _ {S : Set} {cs members lists slots : List ℕ} {n t : ℕ} (r : Ready S cs members lists slots n) (inside : t < S.threads) where
  -- it is one of four
  pub ready-thread : t < most_threads
  ready-thread = let few = r.by_name.four_threads in omega arith

  -- the lists of its jumps, where it has `count` statements
  pub ready-jumps : {set : List ℕ} {first count : ℕ} → Stands S set first count t → JumpsOf S t count lists
  ready-jumps known = subst (λ (k : ℕ). JumpsOf S t k lists) known.count_is (r.by_name.jumps t inside)
