-- Laws of texts printed one after the other into an output. Assumes nothing.
use Prim.Native.Nat.{ℕ, ◌+◌, ◌-◌, ◌≤◌, ◌<◌, min}
use mathlib.Core.Bool.{Bool, true, false, cond}
use mathlib.Core.List.{List, [], ◌++◌, append_assoc}
use mathlib.Core.Path.{◌≡◌, refl, ap, ap₂, sym, subst, ◌∙◌}
use native.Mathlib.Decide.{dec_le}
use native.Mathlib.Nat.{min-eq_left, min-eq_right, min-le_left, zero-min}
use native.Mathlib.Omega.{arith}
use lib.Dec.{ltb}
use lib.ListN.{length, take, drop, length-append}
use lib.Seq.{take_all, take-length, take-append-le, take-append-add, take-take, length-take-le}
use Rattle.base.proofs.Bytes.{placed-fits, over-more, length_over}
use Rattle.base.specs.Bytes.{splice, placed, over}
use Rattle.listing_output.specs.Listings.{places, digits, decimal, item}
use Rattle.listing_output.specs.Outputs.{Stands, Prints}
use Rattle.listing_output.specs.Printed.{printed}

-- ---- an output with a text printed into it

pub printed-fits : (text xs : List ℕ) → length text ≤ length xs → printed text xs ≡ over text xs
unfolding printed
printed-fits text xs h = let l = length_over text xs h in take_all (length xs) (over text xs) (omega arith)

printed-cut : (text xs : List ℕ) → length xs ≤ length text → printed text xs ≡ take (length xs) text
unfolding printed over
printed-cut text xs h = take-append-le (length xs) text (drop (length text) xs) h

pub length-printed : (text xs : List ℕ) → length (printed text xs) ≡ length xs
length-printed text xs = elim (dec_le (length text) (length xs)) [
  | yes h ↦ ap length (printed-fits text xs h) ∙ length_over text xs h
  | no h ↦ ap length (printed-cut text xs (omega arith)) ∙ length-take-le (length xs) text (omega arith)
]

min-below : (a b : ℕ) → min a b < b → min a b ≡ a
min-below a b h = elim (dec_le a b) [
  | yes k ↦ min-eq_left k
  | no k ↦ let e : min a b ≡ b = min-eq_right (omega arith) in absurd (omega arith)
]

-- ---- bytes printed at the place after a text

module _ (before xs : List ℕ) (at : ℕ) (out : List ℕ) (s : Stands before xs at out) where
  pub same-room : length out ≡ length xs
  same-room = ap length s.bytes ∙ length-printed before xs

  at-end : at < length out → at ≡ length before
  at-end h = let e = same-room in s.place ∙ min-below (length before) (length xs) (omega (arith, s.place))

  -- no room
  pub put-none : (bytes : List ℕ) → length out ≤ at → Stands (before ++ bytes) xs (length out) out
  put-none bytes h =
      let e = same-room in
      let l : length xs ≤ length before = omega (arith, s.place, min-le_left (length before) (length xs)) in
      let k : length xs ≤ length (before ++ bytes) = omega (arith, length-append before bytes) in
      record {
        place = e ∙ sym (min-eq_right k);
        bytes = s.bytes ∙ printed-cut before xs l ∙ sym (printed-cut (before ++ bytes) xs k ∙ take-append-le (length xs) before bytes l);
      }

  -- room for all
  pub put_all : (bytes : List ℕ) {afterwards : List ℕ} → at < length out → at + length bytes ≤ length out → afterwards ≡ placed out at bytes →
      Stands (before ++ bytes) xs (at + length bytes) afterwards
  put_all bytes h k p =
      let e = same-room in
      let a = at-end h in
      let l : length (before ++ bytes) ≤ length xs = omega (arith, length-append before bytes) in
      record {
        place = omega (arith, length-append before bytes) ∙ sym (min-eq_left l);
        bytes =
            p ∙ placed-fits out at bytes k
            ∙ ap₂ (λ (ys : List ℕ) (i : ℕ). splice ys i bytes) (s.bytes ∙ printed-fits before xs (omega arith)) a
            ∙ over-more before bytes xs
            ∙ sym (printed-fits (before ++ bytes) xs l);
      }

  -- room for some
  pub put_some : (bytes : List ℕ) {afterwards : List ℕ} → at < length out → length out - at < length bytes →
      afterwards ≡ placed out at (take (length out - at) bytes) → Stands (before ++ bytes) xs (length out) afterwards
  put_some bytes h k p =
      let e = same-room in
      let a = at-end h in
      let room = length out - at in
      let part = take room bytes in
      let m : length part ≡ room = length-take-le room bytes (omega arith) in
      let f = put_all part h (omega arith) p in
      let l : length xs ≤ length (before ++ bytes) = omega (arith, length-append before bytes) in
      let lp : length xs ≤ length (before ++ part) = omega (arith, length-append before part) in
      let n : length xs ≡ length before + room = omega arith in
      let cuts : (ys : List ℕ) → take (length xs) (before ++ ys) ≡ before ++ take room ys
      = λ ys. ap (λ (i : ℕ). take i (before ++ ys)) n ∙ take-append-add before ys room in
      record {
        place = e ∙ sym (min-eq_right l);
        bytes =
            f.bytes ∙ printed-cut (before ++ part) xs lp ∙ cuts part
            ∙ ap (λ (ys : List ℕ). before ++ ys) (take-take room room bytes (omega arith))
            ∙ sym (printed-cut (before ++ bytes) xs l ∙ cuts bytes);
      }

-- ---- numbers

-- what holds of 1 to 5 holds of how many digits a word has
by-places : (P : ℕ → Type 0) → P 1 → P 2 → P 3 → P 4 → P 5 → (n : ℕ) → P (places n)
unfolding places
by-places P one two three four five n = go (ltb n 10) (ltb n 100) (ltb n 1000) (ltb n 10000)
  where
    go : (a b c d : Bool) → P (cond a 1 (cond b 2 (cond c 3 (cond d 4 5))))
    go true b c d = one
    go false true c d = two
    go false false true d = three
    go false false false true = four
    go false false false false = five

pub few-places : (n : ℕ) → places n ≤ 5
few-places n = by-places (λ (k : ℕ). k ≤ 5) (omega arith) (omega arith) (omega arith) (omega arith) (omega arith) n

-- a number's digits are the last of five
pub last_digits : (n : ℕ) → take (5 - (5 - places n)) (drop (5 - places n) (digits 5 n)) ≡ decimal n
unfolding decimal
last_digits n = by-places (λ (k : ℕ). take (5 - (5 - k)) (drop (5 - k) (digits 5 n)) ≡ digits k n) refl refl refl refl refl n

-- ---- texts one after the other

pub prints_both : {at mid next : ℕ} {out between afterwards : List ℕ} (first second : List ℕ) →
    Prints at out first mid between → Prints mid between second next afterwards → Prints at out (first ++ second) next afterwards
prints_both {at} {mid} {next} {out} {between} {afterwards} first second p q before xs s =
    subst (λ (text : List ℕ). Stands text xs next afterwards) (append_assoc before first second) (q (before ++ first) xs (p before xs s))

-- the same text by another name
pub prints_as : {at next : ℕ} {out afterwards : List ℕ} {first second : List ℕ} → first ≡ second → Prints at out first next afterwards → Prints at out second next afterwards
prints_as {at} {next} {out} {afterwards} {first} {second} e p before xs s =
    subst (λ (text : List ℕ). Stands (before ++ text) xs next afterwards) e (p before xs s)

pub prints_item : {at next : ℕ} {out afterwards : List ℕ} {n m : ℕ} → n ≡ m → Prints at out (item (decimal n)) next afterwards → Prints at out (item (decimal m)) next afterwards
prints_item e p = prints_as (ap (λ (k : ℕ). item (decimal k)) e) p

-- several texts, the last ones first put together
pub stands_as : {text other xs : List ℕ} {at : ℕ} {out : List ℕ} → Stands text xs at out → text ≡ other → Stands other xs at out
stands_as {text} {other} {xs} {at} {out} s e = subst (λ (t : List ℕ). Stands t xs at out) e s

-- nothing printed yet
pub stands-none : (xs : List ℕ) → Stands [] xs 0 xs
unfolding printed over
stands-none xs = record { place = sym (zero-min (length xs)); bytes = sym (take-length xs) }
