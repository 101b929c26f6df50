-- Records written one after the other, each at its place, are the bytes of the table. Assumes nothing.
use Prim.Native.Nat.{ℕ, suc, ◌+◌, ◌*◌, ◌≤◌}
use mathlib.Core.Path.{◌≡◌, refl, ap, sym, ◌∙◌}
use mathlib.Core.List.{List, [], ◌∷◌, ◌++◌, append_assoc, append-nil}
use native.Mathlib.Omega.{arith}
use lib.ListN.{length, length-append}
use Rattle.base.specs.Bytes.{splice, placed, over}
use Rattle.base.proofs.Bytes.{placed-fits, length-placed, over-more, over_none, length_over}
use Rattle.table.specs.declared.Formula.{Formula}
use Rattle.table.specs.Formulas.{formula_bytes, table_bytes, written_at}

pub formula-length : (f : Formula) → length (formula_bytes f) ≡ 16
unfolding formula_bytes
formula-length f = refl

pub table-length : (table : List Formula) → length (table_bytes table) ≡ 16 * length table
unfolding table_bytes
table-length [] = refl
table-length (f ∷ table) =
    let p = length-append (formula_bytes f) (table_bytes table) in
    let q = formula-length f in
    let r = table-length table in
    omega arith

-- a table and then another
pub table-++ : (table more : List Formula) → table_bytes (table ++ more) ≡ table_bytes table ++ table_bytes more
unfolding table_bytes
table-++ [] more = refl
table-++ (f ∷ table) more = ap (λ x. formula_bytes f ++ x) (table-++ table more) ∙ sym (append_assoc (formula_bytes f) (table_bytes table) (table_bytes more))

pub written-++ : (out : List ℕ) (n : ℕ) (table more : List Formula) → written_at out n (table ++ more) ≡ written_at (written_at out n table) (n + length table) more
unfolding written_at
written-++ out n [] more =
    let e : n ≡ n + length {A = Formula} [] = omega arith in
    ap (λ m. written_at out m more) e
written-++ out n (f ∷ table) more =
    let e : suc n + length table ≡ n + length (f ∷ table) = omega arith in
    written-++ (placed out (16 * n) (formula_bytes f)) (suc n) table more
    ∙ ap (λ m. written_at (written_at (placed out (16 * n) (formula_bytes f)) (suc n) table) m more) e

pub written-length : (out : List ℕ) (n : ℕ) (table : List Formula) → length (written_at out n table) ≡ length out
unfolding written_at
written-length out n [] = refl
written-length out n (f ∷ table) = written-length (placed out (16 * n) (formula_bytes f)) (suc n) table ∙ length-placed out (16 * n) (formula_bytes f)

-- records after those that were written so far
pub written_over : (bytes out : List ℕ) (n : ℕ) (table : List Formula) → length bytes ≡ 16 * n → 16 * (n + length table) ≤ length out →
    written_at (over bytes out) n table ≡ over (bytes ++ table_bytes table) out
unfolding written_at table_bytes
written_over bytes out n [] e h = ap (λ x. over x out) (sym (append-nil bytes))
written_over bytes out n (f ∷ table) e h =
    let size = formula-length f in
    let kept = length_over bytes out (omega arith) in
    let joined = length-append bytes (formula_bytes f) in
    let one : placed (over bytes out) (16 * n) (formula_bytes f) ≡ over (bytes ++ formula_bytes f) out =
    placed-fits (over bytes out) (16 * n) (formula_bytes f) (omega arith)
    ∙ (ap (λ i. splice (over bytes out) i (formula_bytes f)) (sym e) ∙ over-more bytes (formula_bytes f) out) in
    ap (λ x. written_at x (suc n) table) one
    ∙ (written_over (bytes ++ formula_bytes f) out (suc n) table (omega arith) (omega arith)
    ∙ ap (λ x. over x out) (append_assoc bytes (formula_bytes f) (table_bytes table)))

pub written-table : (out : List ℕ) (table : List Formula) → 16 * length table ≤ length out → written_at out 0 table ≡ over (table_bytes table) out
written-table out table h = ap (λ x. written_at x 0 table) (over_none out) ∙ written_over [] out 0 table refl (omega arith)
