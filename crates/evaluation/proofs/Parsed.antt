-- The records read back from a table's bytes are the table's, and storing a value leaves them and the other values. Assumes nothing.
use Prim.Native.Nat.{ℕ, zero, suc, ◌+◌, ◌*◌, ◌/◌, ◌%◌, ◌≤◌, ◌<◌}
use mathlib.Core.Path.{◌≡◌, ap, ap₂, sym, ◌∙◌}
use mathlib.Core.List.{List, [], ◌∷◌, ◌++◌, append_assoc}
use native.Mathlib.Omega.{arith}
use lib.ListN.{length, get_or, set, length-set}
use lib.Seq.{get_or-append-add, get_or-set_same, get_or-set_other}
use Rattle.base.specs.Bytes.{word_at}
use Rattle.base.proofs.Bytes.{word_bytes}
use Rattle.table.specs.Formulas.{formula_at, formula_bytes, table_bytes}
use Rattle.table.specs.declared.Formula.{Formula}
use Rattle.table.proofs.Read.{read-long}
use Rattle.table.proofs.Written.{formula-length}
use Rattle.evaluation.specs.Evaluations.{record_at, stored}
use Rattle.evaluation.proofs.Views.{Small}

-- ---- one record

parsed : (f : Formula) (rest : List ℕ) → Small f → formula_at (formula_bytes f ++ rest) 0 ≡ f
unfolding formula_at formula_bytes
parsed f rest small =
    λ z. record {
      operation = f.operation;
      sort = f.sort;
      constant = word_bytes f.constant small.small_constant z;
      a = read-long f.a small.small_a z;
      b = read-long f.b small.small_b z;
      c = read-long f.c small.small_c z;
    }

-- records whose bytes are the same are the same
pub alike : (s t : List ℕ) (i j : ℕ) → ((k : ℕ) → k < 16 → get_or s (16 * i + k) 0 ≡ get_or t (16 * j + k) 0) → formula_at s i ≡ formula_at t j
unfolding formula_at
alike s t i j e =
    λ z. record {
      operation = first z;
      sort = e 1 (omega arith) z;
      constant = e 2 (omega arith) z + 256 * byte 2 1 3 (omega arith) (omega arith) z;
      a = e 4 (omega arith) z + 256 * byte 4 1 5 (omega arith) (omega arith) z + 65536 * byte 4 2 6 (omega arith) (omega arith) z
          + 16777216 * byte 4 3 7 (omega arith) (omega arith) z;
      b = e 8 (omega arith) z + 256 * byte 8 1 9 (omega arith) (omega arith) z + 65536 * byte 8 2 10 (omega arith) (omega arith) z
          + 16777216 * byte 8 3 11 (omega arith) (omega arith) z;
      c = e 12 (omega arith) z + 256 * byte 12 1 13 (omega arith) (omega arith) z + 65536 * byte 12 2 14 (omega arith) (omega arith) z
          + 16777216 * byte 12 3 15 (omega arith) (omega arith) z;
    }
  where
    first : get_or s (16 * i) 0 ≡ get_or t (16 * j) 0
    first =
        let p : 16 * i ≡ 16 * i + 0 = omega arith in
        let q : 16 * j + 0 ≡ 16 * j = omega arith in
        ap (λ (n : ℕ). get_or s n 0) p ∙ (e 0 (omega arith) ∙ ap (λ (n : ℕ). get_or t n 0) q)

    byte : (k l m : ℕ) → m ≡ k + l → m < 16 → get_or s (16 * i + k + l) 0 ≡ get_or t (16 * j + k + l) 0
    byte k l m d h =
        let p : 16 * i + k + l ≡ 16 * i + m = omega arith in
        let q : 16 * j + m ≡ 16 * j + k + l = omega arith in
        ap (λ (n : ℕ). get_or s n 0) p ∙ (e m h ∙ ap (λ (n : ℕ). get_or t n 0) q)

-- the record after one more
shifted : (f : Formula) (rest : List ℕ) (j : ℕ) → formula_at (formula_bytes f ++ rest) (suc j) ≡ formula_at rest j
shifted f rest j = alike (formula_bytes f ++ rest) rest (suc j) j (λ k h. there k)
  where
    there : (k : ℕ) → get_or (formula_bytes f ++ rest) (16 * suc j + k) 0 ≡ get_or rest (16 * j + k) 0
    there k =
        let p : 16 * suc j + k ≡ 16 + (16 * j + k) = omega arith in
        ap (λ (n : ℕ). get_or (formula_bytes f ++ rest) n 0) (p ∙ ap (λ (n : ℕ). n + (16 * j + k)) (sym (formula-length f)))
        ∙ get_or-append-add (formula_bytes f) rest (16 * j + k) 0

-- ---- the table

pub table-parsed : (table : List Formula) (rest : List ℕ) → ((j : ℕ) → j < length table → Small (record_at table j)) →
    (j : ℕ) → j < length table → formula_at (table_bytes table ++ rest) j ≡ record_at table j
unfolding table_bytes
table-parsed [] rest small j h = absurd (omega arith)
table-parsed (f ∷ table) rest small zero h =
    ap (λ (s : List ℕ). formula_at s 0) (append_assoc (formula_bytes f) (table_bytes table) rest) ∙ parsed f (table_bytes table ++ rest) (small 0 (omega arith))
table-parsed (f ∷ table) rest small (suc j) h =
    ap (λ (s : List ℕ). formula_at s (suc j)) (append_assoc (formula_bytes f) (table_bytes table) rest)
    ∙ (shifted f (table_bytes table ++ rest) j
    ∙ table-parsed table rest (λ i (k : i < length table). small (suc i) (omega arith)) j (omega arith))

-- ---- a value stored

module _ (s : List ℕ) (n i v : ℕ) where
  stored_other : (k : ℕ) → (k ≡ 16 * n + 2 * i → ⊥) → (k ≡ 16 * n + 2 * i + 1 → ⊥) → get_or (stored s n i v) k 0 ≡ get_or s k 0
  stored_other k p q =
      get_or-set_other (set s (16 * n + 2 * i) (v % 256)) (16 * n + 2 * i + 1) k (v / 256) 0 q ∙ get_or-set_other s (16 * n + 2 * i) k (v % 256) 0 p

  pub stored-records : (j : ℕ) → j < n → formula_at (stored s n i v) j ≡ formula_at s j
  stored-records j h =
      alike (stored s n i v) s j j
      (λ k (l : k < 16). stored_other (16 * j + k) (λ (e : 16 * j + k ≡ 16 * n + 2 * i). omega arith) (λ (e : 16 * j + k ≡ 16 * n + 2 * i + 1). omega arith))

  pub stored_there : 32 * n ≤ length s → i < n → word_at (stored s n i v) (16 * n + 2 * i) ≡ v
  stored_there long h =
      let at = 16 * n + 2 * i in
      let one = set s at (v % 256) in
      let p = length-set s at (v % 256) in
      let low : get_or (stored s n i v) at 0 ≡ v % 256 =
      get_or-set_other one (at + 1) at (v / 256) 0 (λ (e : at ≡ at + 1). omega arith) ∙ get_or-set_same s at (v % 256) 0 (omega arith) in
      let high : get_or (stored s n i v) (at + 1) 0 ≡ v / 256 = get_or-set_same one (at + 1) (v / 256) 0 (omega arith) in
      ap₂ (λ (x y : ℕ). x + 256 * y) low high ∙ whole v
    where
      whole : (v : ℕ) → v % 256 + 256 * (v / 256) ≡ v
      whole v = omega arith

  pub stored-elsewhere : (j : ℕ) → (j ≡ i → ⊥) → word_at (stored s n i v) (16 * n + 2 * j) ≡ word_at s (16 * n + 2 * j)
  stored-elsewhere j h =
      let at = 16 * n + 2 * i in
      let to = 16 * n + 2 * j in
      ap₂ (λ (x y : ℕ). x + 256 * y)
      (stored_other to (λ (e : to ≡ at). omega (arith, h)) (λ (e : to ≡ at + 1). omega arith))
      (stored_other (to + 1) (λ (e : to + 1 ≡ at). omega arith) (λ (e : to + 1 ≡ at + 1). omega (arith, h)))

  pub stored-length : length (stored s n i v) ≡ length s
  stored-length = length-set (set s (16 * n + 2 * i) (v % 256)) (16 * n + 2 * i + 1) (v / 256) ∙ length-set s (16 * n + 2 * i) (v % 256)
