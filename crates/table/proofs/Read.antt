-- Records read back from the bytes of a table that they were written to. Assumes nothing.
use Prim.Native.Nat.{ℕ, zero, suc, ◌+◌, ◌*◌, ◌/◌, ◌%◌, ◌≤◌, ◌<◌}
use mathlib.Core.Path.{◌≡◌, refl, ap, sym, ◌∙◌}
use mathlib.Core.List.{List, [], ◌∷◌, ◌++◌}
use native.Mathlib.Omega.{arith}
use native.Mathlib.Decide.{dec_lt}
use lib.ListN.{length, get_or, take, drop, length-take, get_or-append}
use lib.Seq.{get_or-take, get_or-append-add}
use Rattle.base.specs.Bytes.{splice, placed}
use Rattle.base.proofs.Bytes.{placed-fits, placed-not, length-placed}
use Rattle.table.specs.declared.Formula.{Formula}
use Rattle.table.specs.Formulas.{formula_bytes, written_at}
use Rattle.table.proofs.Written.{formula-length}

module _ (xs : List ℕ) (i : ℕ) (ys : List ℕ) where
  -- what stands before the bytes that are placed
  placed-before : (k : ℕ) → k < i → get_or (placed xs i ys) k 0 ≡ get_or xs k 0
  unfolding splice
  placed-before k h = elim (dec_lt (length xs) (i + length ys)) [
    | yes far ↦ ap (λ (l : List ℕ). get_or l k 0) (placed-not xs i ys (omega arith))
    | no near ↦
        let e = length-take i xs in
        ap (λ (l : List ℕ). get_or l k 0) (placed-fits xs i ys (omega arith))
        ∙ (get_or-append (take i xs) (ys ++ drop (i + length ys) xs) 0 k (omega arith) ∙ get_or-take i xs k 0 h)
  ]

  -- the bytes placed
  placed_in : i + length ys ≤ length xs → (k : ℕ) → k < length ys → get_or (placed xs i ys) (i + k) 0 ≡ get_or ys k 0
  unfolding splice
  placed_in fits k h =
      let e : length (take i xs) ≡ i = let l = length-take i xs in omega arith in
      ap (λ (l : List ℕ). get_or l (i + k) 0) (placed-fits xs i ys fits)
      ∙ (ap (λ (m : ℕ). get_or (take i xs ++ (ys ++ drop (i + length ys) xs)) (m + k) 0) (sym e)
      ∙ (get_or-append-add (take i xs) (ys ++ drop (i + length ys) xs) k 0
      ∙ get_or-append ys (drop (i + length ys) xs) 0 k h))

-- what stands before the records that are written
pub written-before : (out : List ℕ) (n : ℕ) (table : List Formula) (k : ℕ) → k < 16 * n → get_or (written_at out n table) k 0 ≡ get_or out k 0
unfolding written_at
written-before out n [] k h = refl
written-before out n (f ∷ table) k h =
    written-before (placed out (16 * n) (formula_bytes f)) (suc n) table k (omega arith) ∙ placed-before out (16 * n) (formula_bytes f) k h

-- byte i of record j
pub read_record : (none : Formula) (out : List ℕ) (n : ℕ) (table : List Formula) (j i : ℕ) → 16 * (n + length table) ≤ length out → j < length table → i < 16 →
    get_or (written_at out n table) (16 * (n + j) + i) 0 ≡ get_or (formula_bytes (get_or table j none)) i 0
unfolding written_at
read_record none out n [] j i fits h l = absurd (omega arith)
read_record none out n (f ∷ table) zero i fits h l =
    let size = formula-length f in
    let e : 16 * (n + 0) + i ≡ 16 * n + i = omega arith in
    ap (λ (m : ℕ). get_or (written_at (placed out (16 * n) (formula_bytes f)) (suc n) table) m 0) e
    ∙ (written-before (placed out (16 * n) (formula_bytes f)) (suc n) table (16 * n + i) (omega arith)
    ∙ placed_in out (16 * n) (formula_bytes f) (omega arith) i (omega arith))
read_record none out n (f ∷ table) (suc j) i fits h l =
    let kept = length-placed out (16 * n) (formula_bytes f) in
    let e : 16 * (n + suc j) + i ≡ 16 * (suc n + j) + i = omega arith in
    ap (λ (m : ℕ). get_or (written_at (placed out (16 * n) (formula_bytes f)) (suc n) table) m 0) e
    ∙ read_record none (placed out (16 * n) (formula_bytes f)) (suc n) table j i (omega arith) (omega arith) l

-- an index read from its four bytes
pub read-long : (x : ℕ) → x < 4294967296 → x % 256 + 256 * (x / 256 % 256) + 65536 * (x / 65536 % 256) + 16777216 * (x / 16777216 % 256) ≡ x
read-long x h =
    let two : x / 65536 ≡ x / 256 / 256 = omega arith in
    let three : x / 16777216 ≡ x / 65536 / 256 = omega arith in
    join (x / 256) (x / 65536) (x / 16777216) (x % 256) (x / 256 % 256) (x / 65536 % 256) (x / 16777216 % 256)
    (omega arith) (omega arith) (omega arith) (omega arith)
  where
    join : (b c d r s t u : ℕ) → x ≡ 256 * b + r → b ≡ 256 * c + s → c ≡ 256 * d + t → u ≡ d → r + 256 * s + 65536 * t + 16777216 * u ≡ x
    join b c d r s t u p q v w = omega arith
