-- Laws of items written one after the other. Assumes nothing.
use Prim.Native.Nat.{ℕ, ◌+◌, ◌≤◌}
use mathlib.Core.Path.{◌≡◌, ap, sym, ◌∙◌}
use mathlib.Core.List.{List, ◌++◌, append_assoc}
use native.Mathlib.Numerals.{add-one}
use lib.ListN.{length, take}
use Rattle.base.specs.Bytes.{placed}
use Rattle.base.proofs.Bytes.{take-placed}
use Rattle.text.specs.Records.{joined}

-- the next item, written after what stands up to index i
pub joined-more : (item : ℕ → List ℕ) (p : ℕ) (front xs : List ℕ) (i w : ℕ) →
    take i xs ≡ front ++ joined p item → length (item p) ≡ w → i + w ≤ length xs →
    take (i + w) (placed xs i (item p)) ≡ front ++ joined (p + 1) item
unfolding joined
joined-more item p front xs i w e n h =
    ap (λ (k : ℕ). take (i + k) (placed xs i (item p))) (sym n)
    ∙ take-placed xs i (item p) (rw n h)
    ∙ ap (λ (s : List ℕ). s ++ item p) e
    ∙ append_assoc front (joined p item) (item p)
    ∙ rw add-one
