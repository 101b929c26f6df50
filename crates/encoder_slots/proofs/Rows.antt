-- Laws of the rows in which places are kept: how long they are, where they begin, and that no two values share a number. Assumes nothing.
use Prim.Native.Nat.{ℕ, zero, suc, ◌+◌, ◌-◌, ◌*◌, ◌≤◌, ◌<◌}
use mathlib.Core.Path.{◌≡◌, refl, ap, sym, subst}
use mathlib.Core.Bool.{Bool, true, false, cond, ◌&&◌, ◌||◌}
use native.Mathlib.Omega.{arith}
use native.Mathlib.Decide.{ℕ_discrete, dec_lt}
use lib.Dec.{eqb, leb, ltb}
use borrow.Author.Tests.{eqb-true, le-ltb}
use Rattle.base.specs.Below.{every, number}
use Rattle.base.proofs.Below.{every-at, number-below}
use Rattle.base.proofs.Choice.{cond_both, and_left, and_right}
use Rattle.encoder_slots.specs.Places.{wide, width, begin, index_of, size}
use Rattle.encoding.specs.Slots.{kind_count}

-- ---- how long rows are

pub width-least : (kind : ℕ) → 9 ≤ width kind
width-least kind = cond_both (λ (w : ℕ). 9 ≤ w) (wide kind) (omega arith) (omega arith)

pub width-most : (kind : ℕ) → width kind ≤ 32
width-most kind = cond_both (λ (w : ℕ). w ≤ 32) (wide kind) (omega arith) (omega arith)

-- a value lies within the four rows of its kind
pub in_rows : (kind a b : ℕ) → a < 4 → b < width kind → width kind * a + b < 4 * width kind
in_rows kind a b = go (wide kind)
  where
    go : (t : Bool) → a < 4 → b < cond t 32 9 → cond t 32 9 * a + b < 4 * cond t 32 9
    go true h k = omega arith
    go false h k = omega arith

-- a row and a column by their number
same_row : (kind a b c d : ℕ) → b < width kind → d < width kind → width kind * a + b ≡ width kind * c + d → (a ≡ c) × (b ≡ d)
same_row kind a b c d = go (wide kind)
  where
    go : (t : Bool) → b < cond t 32 9 → d < cond t 32 9 → cond t 32 9 * a + b ≡ cond t 32 9 * c + d → (a ≡ c) × (b ≡ d)
    go true h k e = (omega arith, omega arith)
    go false h k e = (omega arith, omega arith)

-- ---- where they begin

-- a kind's rows end before those of a later kind begin
pub begin-later : (kind later : ℕ) → kind < later → begin kind + 4 * width kind ≤ begin later
unfolding begin
begin-later kind zero h = absurd (omega arith)
begin-later kind (suc later) h = elim (ℕ_discrete kind later) [
  | yes e ↦ let same = ap (λ (k : ℕ). begin k + 4 * width k) e in omega arith
  | no f ↦ let earlier = begin-later kind later (omega arith) in omega arith
]

-- the rows of the 41 kinds are the whole array
pub begin-most : (kind : ℕ) → kind < kind_count → begin kind + 4 * width kind ≤ size
unfolding begin
begin-most kind h = begin-later kind 41 h

-- four rows of 9 for each kind before it, each 23 longer for a kind of statements
pub begin-counted : (kind : ℕ) → begin kind ≡ 36 * kind + 92 * number kind wide
unfolding begin number
begin-counted zero = refl
begin-counted (suc kind) = go (wide kind) (begin-counted kind)
  where
    go : (t : Bool) → begin kind ≡ 36 * kind + 92 * number kind wide → begin kind + 4 * cond t 32 9 ≡ 36 * suc kind + 92 * (number kind wide + cond t 1 0)
    go true e = omega arith
    go false e = omega arith

-- how many kinds before one have a value for each statement, by the numbers of those that do
abbrev counted : ℕ → ℕ
counted kind = cond (leb kind 1) 0 (cond (leb kind 11) 1 (cond (leb kind 17) (kind - 10) (cond (leb kind 31) 7 (cond (leb kind 40) 8 9))))

counted-tabled : every 256 (λ k. eqb (number k wide) (counted k)) ≡ true
unfolding every number
counted-tabled = refl

pub number-counted : (kind : ℕ) → kind < 256 → number kind wide ≡ counted kind
number-counted kind h = eqb-true (number kind wide) (counted kind) (every-at (λ k. eqb (number k wide) (counted k)) 256 kind counted-tabled h)

-- past the last kind: rows of 9, nine kinds before them of a value for each statement
past-tabled : every 256 (λ k. ltb k kind_count || (eqb (width k) 9 && eqb (number k wide) 9)) ≡ true
unfolding every number
past-tabled = refl

module _ (kind : ℕ) (past : kind_count ≤ kind) (small : kind < 256) where
  past-both : (eqb (width kind) 9 && eqb (number kind wide) 9) ≡ true
  past-both =
      subst (λ (b : Bool). (b || (eqb (width kind) 9 && eqb (number kind wide) 9)) ≡ true) (le-ltb kind kind_count past)
      (every-at (λ k. ltb k kind_count || (eqb (width k) 9 && eqb (number k wide) 9)) 256 kind past-tabled small)

  pub width-past : width kind ≡ 9
  width-past = eqb-true (width kind) 9 (and_left _ _ past-both)

  pub begin-past : begin kind ≡ 36 * kind + 828
  begin-past =
      let nine = eqb-true (number kind wide) 9 (and_right (eqb (width kind) 9) _ past-both) in
      let counted = begin-counted kind in
      omega arith

  pub index-past : (a b : ℕ) → 36 * kind + 828 + (9 * a + b) ≡ index_of kind a b
  index-past a b = λ z. sym begin-past z + (sym width-past z * a + b)

-- ---- a value's number as the code counts it

-- within the kind's rows, and in all
pub record Counted (kind a b rows index : ℕ) : Type 0 where
  pub is_index : index ≡ index_of kind a b
  pub column : b < width kind
  pub rows_small : rows < 128
  pub small : index < 32768
  pub within : kind < kind_count → index < size
  pub past : kind_count ≤ kind → size ≤ index

module _ (kind a b : ℕ) (h : kind < 256) (row : a < 4) (column : b < width kind) where
  at_rows : Counted kind a b (width kind * a + b) (begin kind + (width kind * a + b))
  unfolding begin
  at_rows =
      let inside = in_rows kind a b row column in
      let most = width-most kind in
      let begins = begin-counted kind in
      let some = number-below wide kind in
      record {
        is_index = refl;
        column = column;
        rows_small = omega arith;
        small = omega arith;
        within = λ k. let q = begin-most kind k in omega arith;
        past = λ k. let q = begin-later 40 kind (omega arith) in omega arith;
      }

pub counted-index : (kind a b w s : ℕ) → w ≡ width kind → s ≡ begin kind → kind < 256 → a < 4 → b < w → Counted kind a b (w * a + b) (s + (w * a + b))
counted-index kind a b w s e f h row column =
    subst (λ (x : ℕ). Counted kind a b (w * a + b) (x + (w * a + b))) (sym f)
    (subst (λ (x : ℕ). Counted kind a b (x * a + b) (begin kind + (x * a + b))) (sym e) (at_rows kind a b h row (subst (λ (x : ℕ). b < x) e column)))

-- ---- no two values share a number

module _ (kind a b l c d : ℕ) (row : a < 4) (column : b < width kind) (row2 : c < 4) (column2 : d < width l) (e : index_of l c d ≡ index_of kind a b) where
  pub same_kind : l ≡ kind
  same_kind =
      let p = in_rows kind a b row column in
      let q = in_rows l c d row2 column2 in
      elim (ℕ_discrete l kind) [
        | yes same ↦ same
        | no other ↦ elim (dec_lt l kind) [
          | yes h ↦ let k = begin-later l kind h in absurd (omega arith)
          | no h ↦ let k = begin-later kind l (omega arith) in absurd (omega arith)
        ]
      ]

  same_place : (c ≡ a) × (d ≡ b)
  same_place = at same_kind column2 e
    where
      at : l ≡ kind → d < width l → index_of l c d ≡ index_of kind a b → (c ≡ a) × (d ≡ b)
      at same h i =
          same_row kind c d a b (subst (λ (k : ℕ). d < width k) same h) column
          (let j : index_of kind c d ≡ index_of kind a b = subst (λ (k : ℕ). index_of k c d ≡ index_of kind a b) same i in omega arith)

  pub same-row-number : c ≡ a
  same-row-number = same_place.0

  pub same-column-number : d ≡ b
  same-column-number = same_place.1
