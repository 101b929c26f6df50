-- Where a step's constraint is read each slot of the kinds before it has the value of its tree, and the others have kept theirs. Assumes nothing.
use Prim.Native.Nat.{ℕ, suc, ◌+◌, ◌<◌}
use mathlib.Core.Path.{◌≡◌, ap, sym, ◌∙◌}
use mathlib.Core.Bool.{Bool, true, false}
use mathlib.Core.List.{List}
use Rattle.records.specs.Sets.{Set}
use Rattle.table.specs.Programs.{tree_value, values_after}
use Rattle.table.specs.Values.{Assignment, Value}
use Rattle.encoding.specs.Slots.{Kind, Slot, slot, same, kind_at}
use Rattle.encoding.specs.Steps.{shape, rows, columns, kept, tree, block}
use Rattle.encoding.proofs.Blocks.{refs, refs-agree, misses, through, through-none, through-next, leaves}
use Rattle.encoding.proofs.Named.{scans, settled_at, scanned_at}

-- a slot's kind is none of the n kinds from number j on
abbrev pub clear : (j n : ℕ) → Slot → Bool
clear j n (slot l a b) = misses l j n

module _ (g : Assignment) (S : Set) (cs : List ℕ) (k : ℕ) (slots : Slot → Value) (j : ℕ) where
  -- a slot of another kind than the n from number j on has kept its value
  pub keeps : (l : Kind) (a b n : ℕ) → misses l (j + 0) n ≡ true → through g S cs k slots j (0 + n) (slot l a b) ≡ slots (slot l a b)
  keeps l a b n e = leaves g S cs k slots j l a b 0 n e ∙ ap (λ v. v (slot l a b)) (through-none g S cs k slots j)

  -- kind number j + m is set from kinds that the blocks from it on leave, so its slots have the values of their trees after d more blocks
  module _ (kind : Kind) (m d : ℕ) (here : kind_at (j + m) ≡ kind) (once : misses kind (j + suc m) d ≡ true) (a b : ℕ)
      (row : a < rows S cs k (shape kind)) (column : b < columns S cs k (shape kind) a) (has : kept S cs k (shape kind) a b ≡ true) where
    at_block : through g S cs k slots j (suc m + d) (slot kind a b) ≡ values_after same g (through g S cs k slots j m) (block S cs k kind) (slot kind a b)
    at_block =
        leaves g S cs k slots j kind a b (suc m) d once
        ∙ (ap (λ v. v (slot kind a b)) (through-next g S cs k slots j m)
        ∙ ap (λ (l : Kind). values_after same g (through g S cs k slots j m) (block S cs k l) (slot kind a b)) here)

    pub fixed : scans kind ≡ false → refs (clear (j + m) (suc d)) (tree S cs k kind a b) ≡ true →
        through g S cs k slots j (suc m + d) (slot kind a b) ≡ tree_value g (through g S cs k slots j (m + suc d)) (tree S cs k kind a b)
    fixed own e =
        at_block
        ∙ (settled_at S cs k g kind (through g S cs k slots j m) a b row column has own
        ∙ refs-agree g (clear (j + m) (suc d)) (through g S cs k slots j m) (through g S cs k slots j (m + suc d)) agree (tree S cs k kind a b) e)
      where
        agree : (x : Slot) → clear (j + m) (suc d) x ≡ true → through g S cs k slots j m x ≡ through g S cs k slots j (m + suc d) x
        agree (slot l c n) p = sym (leaves g S cs k slots j l c n m (suc d) p)

    -- the same where the tree names slots of its own kind before it in its row
    pub fixed-scan : scans kind ≡ true → refs (clear (j + suc m) d) (tree S cs k kind a b) ≡ true →
        through g S cs k slots j (suc m + d) (slot kind a b) ≡ tree_value g (through g S cs k slots j (suc m + d)) (tree S cs k kind a b)
    fixed-scan earlier e =
        at_block
        ∙ (scanned_at S cs k g kind (through g S cs k slots j m) a b row column has earlier
        ∙ (ap (λ v. tree_value g v (tree S cs k kind a b)) after
        ∙ refs-agree g (clear (j + suc m) d) (through g S cs k slots j (suc m)) (through g S cs k slots j (suc m + d)) agree (tree S cs k kind a b) e))
      where
        after : values_after same g (through g S cs k slots j m) (block S cs k kind) ≡ through g S cs k slots j (suc m)
        after = sym (through-next g S cs k slots j m ∙ ap (λ (l : Kind). values_after same g (through g S cs k slots j m) (block S cs k l)) here)

        agree : (x : Slot) → clear (j + suc m) d x ≡ true → through g S cs k slots j (suc m) x ≡ through g S cs k slots j (suc m + d) x
        agree (slot l c n) p = sym (leaves g S cs k slots j l c n (suc m) d p)
