-- The checkpoints of a set are listed once each, and so are the first few of them. Assumes nothing.
use Prim.Native.Nat.{ℕ, zero, suc, ◌+◌, ◌<◌}
use mathlib.Core.Path.{◌≡◌, refl, sym, ap, ◌∙◌}
use mathlib.Core.Bool.{Bool, true, false, cond, not, ◌&&◌}
use mathlib.Core.List.{List, [], ◌∷◌, ◌++◌}
use native.Mathlib.Omega.{arith}
use native.Mathlib.Decide.{dec_lt}
use lib.Dec.{eqb}
use lib.ListN.{length, get_or, take, length-append, get_or-append}
use lib.Seq.{get_or-append_seam, get_or-take, take_all, length-take-le}
use borrow.Author.Tests.{eq-eqb}
use Rattle.base.proofs.Choice.{or_true, or_right_true, clash}
use Rattle.records.specs.Instructions.{CHECK}
use Rattle.records.specs.Sets.{Set}
use Rattle.records.specs.declared.Statement.{Statement}
use Rattle.encoding.specs.Checkpoints.{member, noted, noted_in, noted_below, checkpoints}

-- no number stands in two places
abbrev pub Differ : List ℕ → Type 0
Differ cs = (p q : ℕ) → p < length cs → q < length cs → get_or cs p 0 ≡ get_or cs q 0 → p ≡ q

-- a number that stands in a list is one of its members
member-there : (c : ℕ) (xs : List ℕ) (j : ℕ) → j < length xs → get_or xs j 0 ≡ c → member c xs ≡ true
unfolding member
member-there c [] j h e = absurd (omega arith)
member-there c (x ∷ xs) zero h e = or_true (member c xs) (eq-eqb c x (sym e))
member-there c (x ∷ xs) (suc j) h e = or_right_true (eqb c x) (member-there c xs j (omega arith) e)

-- one more, which was not there
differ_more : (xs : List ℕ) (c : ℕ) → member c xs ≡ false → Differ xs → Differ (xs ++ (c ∷ []))
differ_more xs c new old p q i j e = elim (dec_lt p (length xs)) [
  | yes a ↦ elim (dec_lt q (length xs)) [
    | yes b ↦ old p q a b (sym (before p a) ∙ (e ∙ before q b))
    | no b ↦ absurd (apart p a (sym (before p a) ∙ (e ∙ last q (omega (arith, size)))))
  ]
  | no a ↦ elim (dec_lt q (length xs)) [
    | yes b ↦ absurd (apart q b (sym (before q b) ∙ (sym e ∙ last p (omega (arith, size)))))
    | no b ↦ omega (arith, size)
  ]
]
  where
    size : length (xs ++ (c ∷ [])) ≡ length xs + 1
    size = length-append xs (c ∷ [])

    before : (k : ℕ) → k < length xs → get_or (xs ++ (c ∷ [])) k 0 ≡ get_or xs k 0
    before k h = get_or-append xs (c ∷ []) 0 k h

    last : (k : ℕ) → length xs ≡ k → get_or (xs ++ (c ∷ [])) k 0 ≡ c
    last k h = ap (λ (n : ℕ). get_or (xs ++ (c ∷ [])) n 0) (sym h) ∙ get_or-append_seam xs c [] 0

    apart : (k : ℕ) → k < length xs → get_or xs k 0 ≡ c → ⊥
    apart k h f = clash (member-there c xs k h f) new

differ_noted : (seen : List ℕ) (i : Statement) → Differ seen → Differ (noted seen i)
unfolding noted
differ_noted seen i old = go (eqb i.number CHECK) (member i.argument seen) refl
  where
    go : (k m : Bool) → member i.argument seen ≡ m → Differ (cond (k && not m) (seen ++ (i.argument ∷ [])) seen)
    go true true e = old
    go true false e = differ_more seen i.argument e old
    go false m e = old

differ_in : (S : Set) (t : ℕ) (seen : List ℕ) (n : ℕ) → Differ seen → Differ (noted_in S t seen n)
unfolding noted_in
differ_in S t seen zero old = old
differ_in S t seen (suc n) old = differ_noted (noted_in S t seen n) (S.statement t n) (differ_in S t seen n old)

differ_below : (S : Set) (t : ℕ) → Differ (noted_below S t)
unfolding noted_below
differ_below S zero = λ (p q : ℕ) (h : p < 0). absurd (omega arith)
differ_below S (suc t) = differ_in S t (noted_below S t) (S.count t) (differ_below S t)

pub checkpoints_differ : (S : Set) → Differ (checkpoints S)
unfolding checkpoints
checkpoints_differ S = differ_below S S.threads

-- the first n
differ_take : (n : ℕ) (xs : List ℕ) → Differ xs → Differ (take n xs)
differ_take n xs old p q i j e = elim (dec_lt n (length xs)) [
  | yes h ↦
      let size : length (take n xs) ≡ n = length-take-le n xs (omega arith) in
      old p q (omega arith) (omega arith) (sym (get_or-take n xs p 0 (omega arith)) ∙ (e ∙ get_or-take n xs q 0 (omega arith)))
  | no h ↦
      let all : take n xs ≡ xs = take_all n xs (omega arith) in
      let size = ap length all in
      old p q (omega arith) (omega arith) (sym (ap (λ (ys : List ℕ). get_or ys p 0) all) ∙ (e ∙ ap (λ (ys : List ℕ). get_or ys q 0) all))
]

pub first-checkpoints_differ : (n : ℕ) (S : Set) → Differ (take n (checkpoints S))
first-checkpoints_differ n S = differ_take n (checkpoints S) (checkpoints_differ S)
