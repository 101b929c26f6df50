-- Laws of parts of bytes that others were written into. Assumes nothing.
use Prim.Native.Nat.{ℕ, ◌+◌, ◌-◌, ◌≤◌}
use mathlib.Core.Path.{◌≡◌, ap, sym, ◌∙◌}
use mathlib.Core.List.{List, ◌++◌, append_assoc}
use native.Mathlib.Omega.{arith}
use native.Mathlib.Nat.{add-zero}
use lib.ListN.{length, get_or, take, drop, length-append, length-drop, take-append-drop}
use lib.Seq.{take-append-le, drop-append-le, drop-append-add, drop-drop, length-take-le, get_or-take, get_or-drop}
use Rattle.base.specs.Bytes.{splice, placed}
use Rattle.base.proofs.Bytes.{placed-fits}

-- a part that ends before the seam
pub part-front : (p q : List ℕ) (a n : ℕ) → a + n ≤ length p → take n (drop a (p ++ q)) ≡ take n (drop a p)
part-front p q a n h =
    ap (take n) (drop-append-le a p q (omega arith)) ∙ take-append-le n (drop a p) q (rw length-drop (omega arith))

-- a byte as a part of one
pub byte-part : (s : List ℕ) (i : ℕ) → get_or s i 0 ≡ get_or (take 1 (drop i s)) 0 0
byte-part s i = sym (get_or-take 1 (drop i s) 0 0 (omega arith) ∙ get_or-drop i s 0 0 ∙ ap (λ (k : ℕ). get_or s k 0) (add-zero i))

module _ (xs : List ℕ) (i : ℕ) (ys : List ℕ) (fits : i + length ys ≤ length xs) where
  written : placed xs i ys ≡ take i xs ++ (ys ++ drop (i + length ys) xs)
  unfolding splice
  written = placed-fits xs i ys fits

  before : length (take i xs) ≡ i
  before = length-take-le i xs (omega arith)

  -- a part before what was written
  pub part-before : (a n : ℕ) → a + n ≤ i → take n (drop a (placed xs i ys)) ≡ take n (drop a xs)
  part-before a n h =
      let k : a + n ≤ length (take i xs) = rw before h in
      ap (λ (s : List ℕ). take n (drop a s)) written
      ∙ part-front (take i xs) (ys ++ drop (i + length ys) xs) a n k
      ∙ sym (part-front (take i xs) (drop i xs) a n k)
      ∙ ap (λ (s : List ℕ). take n (drop a s)) (take-append-drop i xs)

  -- a part after it
  pub part-after : (a n : ℕ) → i + length ys ≤ a → take n (drop a (placed xs i ys)) ≡ take n (drop a xs)
  part-after a n h = ap (take n) (go (a - (i + length ys)) (omega arith))
    where
      both : length (take i xs ++ ys) ≡ i + length ys
      both = length-append (take i xs) ys ∙ ap (λ (k : ℕ). k + length ys) before

      go : (m : ℕ) → a ≡ i + length ys + m → drop a (placed xs i ys) ≡ drop a xs
      go m e =
          ap (drop a) (written ∙ sym (append_assoc (take i xs) ys (drop (i + length ys) xs)))
          ∙ ap (λ (k : ℕ). drop k ((take i xs ++ ys) ++ drop (i + length ys) xs)) (e ∙ ap (λ (k : ℕ). k + m) (sym both))
          ∙ drop-append-add (take i xs ++ ys) (drop (i + length ys) xs) m
          ∙ drop-drop m (i + length ys) xs
          ∙ ap (λ (k : ℕ). drop k xs) (sym e)

  -- a part of it
  pub part_at : (a n : ℕ) → a + n ≤ length ys → take n (drop (i + a) (placed xs i ys)) ≡ take n (drop a ys)
  part_at a n h =
      ap (take n)
      (ap (drop (i + a)) written
      ∙ ap (λ (k : ℕ). drop (k + a) (take i xs ++ (ys ++ drop (i + length ys) xs))) (sym before)
      ∙ drop-append-add (take i xs) (ys ++ drop (i + length ys) xs) a)
      ∙ part-front ys (drop (i + length ys) xs) a n h
