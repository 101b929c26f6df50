-- The first eight checkpoints, noted one after the other. Assumes nothing.
use Prim.Native.Nat.{ℕ, ◌+◌, ◌≤◌, ◌<◌}
use mathlib.Core.Path.{◌≡◌, refl, ap, sym, ◌∙◌}
use mathlib.Core.Bool.{Bool, true, false, cond, not, ◌&&◌, ◌||◌}
use mathlib.Core.List.{List, [], ◌∷◌, ◌++◌}
use native.Mathlib.Decide.{dec_lt}
use Rattle.std.specs.List.{list_any}
use native.Mathlib.Numerals.{add-one}
use native.Mathlib.Omega.{arith}
use lib.Dec.{eqb}
use lib.ListN.{length, take, set, length-append}
use lib.Seq.{take_all, take-append-le, length-take-le, take-suc-set}
use Rattle.base.proofs.Choice.{eqb_swap, chosen, passed, and_true, and_false, and_right_false}
use Rattle.records.specs.Instructions.{CHECK}
use Rattle.records.specs.Sets.{Set}
use Rattle.records.specs.declared.Statement.{Statement}
use Rattle.set_index.specs.Points.{listed}
use Rattle.set_index.specs.declared.points.Points.{Points}
use Rattle.set_index.proofs.Counted.{listed-most}
use Rattle.encoding.specs.Checkpoints.{member, noted, noted_in, noted_below}

-- eight are enough: what comes after the eighth changes nothing among them
full : (seen : List ℕ) (i : Statement) → 8 ≤ length seen → take 8 (noted seen i) ≡ take 8 seen
unfolding noted
full seen i h = go (eqb i.number CHECK && not (member i.argument seen))
  where
    go : (b : Bool) → take 8 (cond b (seen ++ (i.argument ∷ [])) seen) ≡ take 8 seen
    go true = take-append-le 8 seen (i.argument ∷ []) h
    go false = refl

pub eight_noted : (seen : List ℕ) (i : Statement) → take 8 (noted (take 8 seen) i) ≡ take 8 (noted seen i)
eight_noted seen i = elim (dec_lt 8 (length seen)) [
  | yes h ↦
      let e : length (take 8 seen) ≡ 8 = length-take-le 8 seen (omega arith) in
      full (take 8 seen) i (omega arith) ∙ (take_all 8 (take 8 seen) (omega arith) ∙ sym (full seen i (omega arith)))
  | no h ↦ ap (λ (xs : List ℕ). take 8 (noted xs i)) (take_all 8 seen (omega (arith, h)))
]

-- one statement more
pub noted_more : (S : Set) (t : ℕ) (before now after : List ℕ) (i : ℕ) → now ≡ take 8 (noted_in S t before i) → after ≡ take 8 (noted now (S.statement t i)) →
    after ≡ take 8 (noted_in S t before (i + 1))
unfolding noted_in
noted_more S t before now after i e f =
    f ∙ (ap (λ (xs : List ℕ). take 8 (noted xs (S.statement t i))) e
    ∙ (eight_noted (noted_in S t before i) (S.statement t i)
    ∙ ap (λ (n : ℕ). take 8 (noted_in S t before n)) (sym (add-one i))))

pub noted-start : (S : Set) (t : ℕ) (before : List ℕ) → noted_in S t before 0 ≡ before
unfolding noted_in
noted-start S t before = refl

-- one thread more
pub below_more : (S : Set) (t : ℕ) → noted_in S t (noted_below S t) (S.count t) ≡ noted_below S (t + 1)
unfolding noted_below
below_more S t = ap (noted_below S) (sym (add-one t))

pub below-start : (S : Set) → noted_below S 0 ≡ []
unfolding noted_below
below-start S = refl

-- ---- one statement

module _ (seen : List ℕ) (i : Statement) where
  pub not-check : eqb i.number CHECK ≡ false → noted seen i ≡ seen
  unfolding noted
  not-check e = passed _ _ (and_false (not (member i.argument seen)) e)

  pub is_known : member i.argument seen ≡ true → noted seen i ≡ seen
  unfolding noted
  is_known e = passed _ _ (and_right_false (eqb i.number CHECK) (ap not e))

  pub is-new : eqb i.number CHECK ≡ true → member i.argument seen ≡ false → noted seen i ≡ seen ++ (i.argument ∷ [])
  unfolding noted
  is-new e f = chosen _ _ (and_true e (ap not f))

-- ---- members

pub member-any : (c : ℕ) (xs : List ℕ) → list_any (λ y. eqb y c) xs ≡ member c xs
unfolding member
member-any c [] = refl
member-any c (x ∷ xs) = λ i. eqb_swap x c i || member-any c xs i

-- ---- points

module _ (points : Points) (eight : length points.numbers ≡ 8) where
  -- what changes nothing
  pub listed_same : (xs : List ℕ) → xs ≡ listed points → listed points ≡ take 8 xs
  listed_same xs e = sym (take_all 8 (listed points) (listed-most points eight)) ∙ ap (take 8) (sym e)

  -- eight are there already
  pub listed-full : (xs : List ℕ) → 8 ≤ points.count → listed points ≡ take 8 (listed points ++ xs)
  listed-full xs h =
      let all : listed points ≡ points.numbers = take_all points.count points.numbers (omega arith) in
      sym (ap (λ (ys : List ℕ). take 8 (ys ++ xs)) all
      ∙ (take-append-le 8 points.numbers xs (omega arith) ∙ (take_all 8 points.numbers (omega arith) ∙ sym all)))

  -- one more
  pub listed_more : (c : ℕ) → points.count < 8 → take (points.count + 1) (set points.numbers points.count c) ≡ take 8 (listed points ++ (c ∷ []))
  listed_more c h =
      let size = length-append (listed points) (c ∷ []) in
      let front : length (listed points) ≡ points.count = length-take-le points.count points.numbers (omega arith) in
      ap (λ (n : ℕ). take n (set points.numbers points.count c)) (add-one points.count)
      ∙ (take-suc-set points.numbers points.count c (omega arith)
      ∙ sym (take_all 8 (listed points ++ (c ∷ [])) (omega arith)))
