-- Laws of records that repeat earlier ones of the same table: what a table's bytes hold, and what repeats a part of it. Assumes nothing.
use Prim.Native.Nat.{ℕ, zero, suc, ◌+◌, ◌-◌, ◌*◌, ◌/◌, ◌%◌, ◌≤◌, ◌<◌}
use mathlib.Core.Path.{◌≡◌, refl, ap, sym, ◌∙◌}
use mathlib.Core.Bool.{Bool, true, false, cond, ◌&&◌}
use mathlib.Core.List.{List, [], ◌∷◌, ◌++◌, map}
use native.Mathlib.Omega.{arith}
use native.Mathlib.Decide.{dec_lt}
use lib.Dec.{leb, ltb}
use lib.ListN.{length, get_or}
use borrow.Author.Tests.{leb-true, le-leb}
use Rattle.base.proofs.Bytes.{word_bytes}
use Rattle.base.proofs.Choice.{chosen, passed, and_true, and_left, and_right}
use Rattle.table.specs.Repeats.{moved_by, repeated, repeatable, repeated_at, last_index}
use Rattle.table.specs.declared.Formula.{Formula}
use Rattle.table.specs.Formulas.{formula_bytes, written_at, long_at, formula_at}
use Rattle.table.specs.Programs.{upto}
use Rattle.table.proofs.Read.{written-before, read_record, read-long}
use Rattle.table.proofs.Renamed.{renamed, Bounded, AllBounded}
use Rattle.table.proofs.Sequences.{upto-first}
use Rattle.table.proofs.Written.{written-++, written-length}

-- ---- one record

module _ (first stride : ℕ) where
  pub repeated-renamed : (x : Formula) → repeated first stride x ≡ renamed (moved_by first stride) x
  unfolding repeated renamed
  repeated-renamed x = refl

  pub all-repeated-renamed : (xs : List Formula) → map (repeated first stride) xs ≡ map (renamed (moved_by first stride)) xs
  all-repeated-renamed [] = refl
  all-repeated-renamed (x ∷ xs) = λ i. repeated-renamed x i ∷ all-repeated-renamed xs i

-- nothing moves by 0
moved_nowhere : (first x : ℕ) → moved_by first 0 x ≡ x
unfolding moved_by
moved_nowhere first x = go (ltb x first)
  where
    go : (b : Bool) → cond b x (x + 0) ≡ x
    go true = refl
    go false = omega arith

-- a record with every operand moved
abbrev pub operands_moved : (first stride : ℕ) → Formula → Formula
operands_moved first stride x = record {
  operation = x.operation;
  sort = x.sort;
  constant = x.constant;
  a = moved_by first stride x.a;
  b = moved_by first stride x.b;
  c = moved_by first stride x.c;
}

-- a record without operands moves by 0
pub moved-repeated : (first stride : ℕ) (x : Formula) → operands_moved first (cond (ltb 3 x.operation) stride 0) x ≡ repeated first stride x
unfolding repeated
moved-repeated first stride x = go (ltb 3 x.operation)
  where
    go : (b : Bool) → operands_moved first (cond b stride 0) x ≡ cond b (operands_moved first stride x) x
    go true = refl
    go false = λ i. record {
      operation = x.operation;
      sort = x.sort;
      constant = x.constant;
      a = moved_nowhere first x.a i;
      b = moved_nowhere first x.b i;
      c = moved_nowhere first x.c i;
    }

-- ---- records that are read

module _ (xs ys : List ℕ) (limit : ℕ) (same : (k : ℕ) → k < limit → get_or xs k 0 ≡ get_or ys k 0) where
  same-long : (i : ℕ) → i + 3 < limit → long_at xs i ≡ long_at ys i
  same-long i h = λ z.
      same i (omega arith) z + 256 * same (i + 1) (omega arith) z + 65536 * same (i + 2) (omega arith) z + 16777216 * same (i + 3) (omega arith) z

  same_record : (i : ℕ) → 16 * i + 15 < limit → formula_at xs i ≡ formula_at ys i
  unfolding formula_at
  same_record i h = λ z. record {
    operation = same (16 * i) (omega arith) z;
    sort = same (16 * i + 1) (omega arith) z;
    constant = same (16 * i + 2) (omega arith) z + 256 * same (16 * i + 2 + 1) (omega arith) z;
    a = same-long (16 * i + 4) (omega arith) z;
    b = same-long (16 * i + 8) (omega arith) z;
    c = same-long (16 * i + 12) (omega arith) z;
  }

-- a record before those that are written
pub record_before : (out : List ℕ) (n : ℕ) (table : List Formula) (i : ℕ) → i < n → formula_at (written_at out n table) i ≡ formula_at out i
record_before out n table i h = same_record (written_at out n table) out (16 * n) (written-before out n table) i (omega arith)

-- the fields of a record fit into its bytes
pub record InRange (x : Formula) : Type 0 where
  pub constant_fits : x.constant < 65536
  pub fits_a : x.a < 4294967296
  pub fits_b : x.b < 4294967296
  pub fits_c : x.c < 4294967296

abbrev pub AllInRange : List Formula → Type 0
AllInRange [] = Unit
AllInRange (x ∷ xs) = InRange x × AllInRange xs

pub in_range-++ : (xs ys : List Formula) → AllInRange xs → AllInRange ys → AllInRange (xs ++ ys)
in_range-++ [] ys r s = s
in_range-++ (x ∷ xs) ys r s = (r.0, in_range-++ xs ys r.1 s)

-- the records without operands are in range
abbrev pub LeavesInRange : List Formula → Type 0
LeavesInRange [] = Unit
LeavesInRange (x ∷ xs) = (x.operation ≤ 3 → InRange x) × LeavesInRange xs

bounded_in_range : (x : Formula) → Bounded 4294967296 x → InRange x
bounded_in_range x b = let e = b.constantless in record { constant_fits = omega arith; fits_a = b.bounded_a; fits_b = b.bounded_b; fits_c = b.bounded_c }

pub all_in_range : (xs : List Formula) → AllBounded 4294967296 xs → LeavesInRange xs → AllInRange xs
all_in_range [] b l = tt
all_in_range (x ∷ xs) b l = (elim (dec_lt 3 x.operation) [ yes h ↦ bounded_in_range x (b.0 h) | no h ↦ l.0 (omega arith) ], all_in_range xs b.1 l.1)

module _ (none : Formula) (out : List ℕ) (n : ℕ) (table : List Formula) (fits : 16 * (n + length table) ≤ length out) (j : ℕ) (inside : j < length table) where
  abbrev bytes : List ℕ
  bytes = written_at out n table

  abbrev at : ℕ
  at = 16 * (n + j)

  abbrev x : Formula
  x = get_or table j none

  -- byte k of record j
  byte : (m k : ℕ) → m ≡ at + k → k < 16 → get_or bytes m 0 ≡ get_or (formula_bytes x) k 0
  byte m k e l = ap (λ (i : ℕ). get_or bytes i 0) e ∙ read_record none out n table j k fits inside l

  -- the operand whose four bytes are these
  operand : (i y : ℕ) (p : get_or bytes i 0 ≡ y % 256) (q : get_or bytes (i + 1) 0 ≡ y / 256 % 256) (r : get_or bytes (i + 2) 0 ≡ y / 65536 % 256)
      (s : get_or bytes (i + 3) 0 ≡ y / 16777216 % 256) → y < 4294967296 → long_at bytes i ≡ y
  operand i y p q r s h = (λ z. p z + 256 * q z + 65536 * r z + 16777216 * s z) ∙ read-long y h

  -- a record that was written is read back
  pub record_read : InRange x → formula_at bytes (n + j) ≡ x
  unfolding formula_at formula_bytes
  record_read r =
      let operation : get_or bytes at 0 ≡ x.operation = byte at 0 (omega arith) (omega arith) in
      let sort : get_or bytes (at + 1) 0 ≡ x.sort = byte (at + 1) 1 refl (omega arith) in
      let low : get_or bytes (at + 2) 0 ≡ x.constant % 256 = byte (at + 2) 2 refl (omega arith) in
      let high : get_or bytes (at + 2 + 1) 0 ≡ x.constant / 256 % 256 = byte (at + 2 + 1) 3 (omega arith) (omega arith) in
      let constant = (λ z. low z + 256 * high z) ∙ word_bytes x.constant r.constant_fits in
      let a : long_at bytes (at + 4) ≡ x.a = operand (at + 4) x.a (byte (at + 4) 4 refl (omega arith)) (byte (at + 4 + 1) 5 (omega arith) (omega arith)) (byte (at + 4 + 2) 6 (omega arith) (omega arith)) (byte (at + 4 + 3) 7 (omega arith) (omega arith)) r.fits_a in
      let b : long_at bytes (at + 8) ≡ x.b = operand (at + 8) x.b (byte (at + 8) 8 refl (omega arith)) (byte (at + 8 + 1) 9 (omega arith) (omega arith)) (byte (at + 8 + 2) 10 (omega arith) (omega arith)) (byte (at + 8 + 3) 11 (omega arith) (omega arith)) r.fits_b in
      let c : long_at bytes (at + 12) ≡ x.c = operand (at + 12) x.c (byte (at + 12) 12 refl (omega arith)) (byte (at + 12 + 1) 13 (omega arith) (omega arith)) (byte (at + 12 + 2) 14 (omega arith) (omega arith)) (byte (at + 12 + 3) 15 (omega arith) (omega arith)) r.fits_c in
      λ z. record { operation = operation z; sort = sort z; constant = constant z; a = a z; b = b z; c = c z }

-- ---- what the code writes

module _ (size at count stride : ℕ) where
  pub repeatable-room : repeatable size at count stride ≡ true → (count ≤ stride) × (stride ≤ at) × (at + count ≤ last_index) × (16 * (at + count) ≤ size)
  repeatable-room e =
      let three = and_left (leb count stride && leb stride at && leb (at + count) 2000000000) (leb (16 * (at + count)) size) e in
      let two = and_left (leb count stride && leb stride at) (leb (at + count) 2000000000) three in (
        leb-true count stride (and_left (leb count stride) (leb stride at) two),
        leb-true stride at (and_right (leb count stride) (leb stride at) two),
        leb-true (at + count) 2000000000 (and_right (leb count stride && leb stride at) (leb (at + count) 2000000000) three),
        leb-true (16 * (at + count)) size (and_right (leb count stride && leb stride at && leb (at + count) 2000000000) (leb (16 * (at + count)) size) e),
      )

  pub room-repeatable : count ≤ stride → stride ≤ at → at + count ≤ last_index → 16 * (at + count) ≤ size → repeatable size at count stride ≡ true
  room-repeatable p q r s = and_true (and_true (and_true (le-leb _ _ p) (le-leb _ _ q)) (le-leb _ _ r)) (le-leb _ _ s)

module _ (out : List ℕ) (at count first stride : ℕ) where
  -- where there is room the records are repeated
  pub repeats : count ≤ stride → stride ≤ at → at + count ≤ last_index → 16 * (at + count) ≤ length out →
      repeated_at out at count first stride ≡ written_at out at (upto (λ j. repeated first stride (formula_at out (at - stride + j)) ∷ []) count)
  unfolding repeated_at
  repeats p q r s = chosen _ _ (room-repeatable (length out) at count stride p q r s)

  -- elsewhere nothing is written
  pub repeats-nothing : repeatable (length out) at count stride ≡ false → repeated_at out at count first stride ≡ out
  unfolding repeated_at
  repeats-nothing e = passed _ _ e

-- ---- a part of a table

-- stands for the record past a list's end, which no law reads
blank : Formula
blank = record { operation = 0; sort = 0; constant = 0; a = 0; b = 0; c = 0 }

in_range-at : (none : Formula) (xs : List Formula) (j : ℕ) → AllInRange xs → j < length xs → InRange (get_or xs j none)
in_range-at none [] j r h = absurd (omega arith)
in_range-at none (x ∷ xs) zero r h = r.0
in_range-at none (x ∷ xs) (suc j) r h = in_range-at none xs j r.1 (omega arith)

-- what is given by the number of a record, for each record
upto-map : (none : Formula) (g : ℕ → Formula) (h : Formula → Formula) (xs : List Formula) → ((j : ℕ) → j < length xs → g j ≡ h (get_or xs j none)) →
    upto (λ j. g j ∷ []) (length xs) ≡ map h xs
unfolding upto
upto-map none g h [] e = refl
upto-map none g h (x ∷ xs) e =
    upto-first (λ j. g j ∷ []) (length xs)
    ∙ λ i. e 0 (omega arith) i ∷ upto-map none (λ j. g (suc j)) h xs (λ (j : ℕ) (l : j < length xs). e (suc j) (omega arith)) i

-- the bytes of a table from record n on, whose records from number e on are `part`; other records may stand after these
module _ (start out : List ℕ) (n e : ℕ) (before part after : List Formula)
    (written : out ≡ written_at start n (before ++ (part ++ after))) (from : e ≡ n + length before)
    (fits : 16 * (e + length part) ≤ length start) (range : AllInRange part) where
  cut : out ≡ written_at (written_at (written_at start n before) e part) (e + length part) after
  cut =
      written
      ∙ (written-++ start n before (part ++ after)
      ∙ (ap (λ (m : ℕ). written_at (written_at start n before) m (part ++ after)) (sym from)
      ∙ written-++ (written_at start n before) e part after))

  pub part-read : (none : Formula) (j : ℕ) → j < length part → formula_at out (e + j) ≡ get_or part j none
  part-read none j h =
      let kept = written-length start n before in
      ap (λ (l : List ℕ). formula_at l (e + j)) cut
      ∙ (record_before (written_at (written_at start n before) e part) (e + length part) after (e + j) (omega arith)
      ∙ record_read none (written_at start n before) e part (omega arith) j h (in_range-at none part j range h))

  pub part-repeated : (first stride : ℕ) → upto (λ j. repeated first stride (formula_at out (e + j)) ∷ []) (length part) ≡ map (repeated first stride) part
  part-repeated first stride =
      upto-map blank (λ j. repeated first stride (formula_at out (e + j))) (repeated first stride) part (λ j h. ap (repeated first stride) (part-read blank j h))

  -- what the code writes where the part lies `stride` before record `at`
  pub part-written : (at first stride : ℕ) → at ≡ e + stride → length part ≤ stride → at + length part ≤ last_index → 16 * (at + length part) ≤ length start →
      repeated_at out at (length part) first stride ≡ written_at out at (map (repeated first stride) part)
  part-written at first stride place p q room =
      let kept = ap length written ∙ written-length start n (before ++ (part ++ after)) in
      let here : at - stride ≡ e = omega arith in
      repeats out at (length part) first stride p (omega arith) q (omega arith)
      ∙ ap (written_at out at)
      (ap (λ (m : ℕ). upto (λ j. repeated first stride (formula_at out (m + j)) ∷ []) (length part)) here ∙ part-repeated first stride)
