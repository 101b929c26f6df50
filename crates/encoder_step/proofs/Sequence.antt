-- Blocks written one after the other. Assumes nothing.
use Prim.Native.Nat.{ℕ, ◌+◌, ◌<◌}
use mathlib.Core.Path.{ap, sym, ◌∙◌, subst}
use mathlib.Core.List.{List, ◌++◌}
use native.Mathlib.Omega.{arith}
use Rattle.records.specs.Sets.{Set}
use Rattle.table.specs.Programs.{upto, Command}
use Rattle.table.proofs.Sequences.{upto-more, upto_ext}
use Rattle.encoding.specs.Slots.{Slot, kind_at}
use Rattle.encoding.specs.Steps.{block, blocks}
use Rattle.encoder_slots.specs.Pieces.{Writes}
use Rattle.encoder_slots.proofs.Pieces.{writes-++, writes-row, writes_more}

module _ (S : Set) (cs : List ℕ) (k : ℕ) where
  -- one block more
  pub block_more : (j m : ℕ) {out slots : List ℕ} {n : ℕ} {out1 slots1 : List ℕ} {n1 : ℕ} {out2 slots2 : List ℕ} {n2 : ℕ} →
      Writes (blocks S cs k j m) out slots n out1 slots1 n1 → Writes (block S cs k (kind_at (j + m))) out1 slots1 n1 out2 slots2 n2 →
      Writes (blocks S cs k j (m + 1)) out slots n out2 slots2 n2
  block_more j m v w = writes_more (λ i. block S cs k (kind_at (j + i))) m _ _ _ _ _ _ _ _ _ v w

  -- five blocks
  pub five : (j : ℕ) {out slots : List ℕ} {n : ℕ} {out1 slots1 : List ℕ} {n1 : ℕ} {out2 slots2 : List ℕ} {n2 : ℕ} {out3 slots3 : List ℕ} {n3 : ℕ}
      {out4 slots4 : List ℕ} {n4 : ℕ} {out5 slots5 : List ℕ} {n5 : ℕ} →
      Writes (block S cs k (kind_at (j + 0))) out slots n out1 slots1 n1 → Writes (block S cs k (kind_at (j + 1))) out1 slots1 n1 out2 slots2 n2 →
      Writes (block S cs k (kind_at (j + 2))) out2 slots2 n2 out3 slots3 n3 → Writes (block S cs k (kind_at (j + 3))) out3 slots3 n3 out4 slots4 n4 →
      Writes (block S cs k (kind_at (j + 4))) out4 slots4 n4 out5 slots5 n5 → Writes (blocks S cs k j 5) out slots n out5 slots5 n5
  five j v w x y z =
      block_more j 4 (block_more j 3 (block_more j 2 (block_more j 1 (block_more j 0 (writes-row (λ i. block S cs k (kind_at (j + i))) _ _ _) v) w) x) y) z

  -- blocks after others
  pub blocks_more : (j m l : ℕ) {out slots : List ℕ} {n : ℕ} {out1 slots1 : List ℕ} {n1 : ℕ} {out2 slots2 : List ℕ} {n2 : ℕ} →
      Writes (blocks S cs k j m) out slots n out1 slots1 n1 → Writes (blocks S cs k (j + m) l) out1 slots1 n1 out2 slots2 n2 →
      Writes (blocks S cs k j (m + l)) out slots n out2 slots2 n2
  blocks_more j m l {out} {slots} {n} {out1} {slots1} {n1} {out2} {slots2} {n2} v w =
      let f : ℕ → List (Command Slot) = λ i. block S cs k (kind_at (j + i)) in
      let same = upto_ext (λ i. f (m + i)) (λ i. block S cs k (kind_at (j + m + i))) l (λ (i : ℕ) (h : i < l). ap (λ (x : ℕ). block S cs k (kind_at x)) (omega arith)) in
      subst (λ (P : List (Command Slot)). Writes P out slots n out2 slots2 n2) (sym (upto-more f m l ∙ ap (λ (P : List (Command Slot)). upto f m ++ P) same))
      (writes-++ (blocks S cs k j m) (blocks S cs k (j + m) l) _ _ _ _ _ _ _ _ _ v w)
