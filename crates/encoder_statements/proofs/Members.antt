-- The statements of a class, in order: how many stand before a statement, and that it stands after them if it is of the class. Assumes nothing.
use Prim.Native.Nat.{ℕ, zero, suc, ◌≤◌, ◌<◌}
use mathlib.Core.Path.{◌≡◌, refl, ap, sym, ◌∙◌, subst}
use mathlib.Core.Bool.{Bool, true, false}
use mathlib.Core.List.{List, [], ◌∷◌}
use native.Mathlib.Omega.{arith}
use native.Mathlib.Decide.{ℕ_discrete}
use lib.ListN.{length, get_or, length-append, get_or-append}
use lib.Seq.{get_or-append_seam}
use Rattle.records.specs.Sets.{Set}
use Rattle.set_index.specs.Members.{in_class, added, members}

-- ---- one number more at the end, or not

added-grows : (b : Bool) (ms : List ℕ) (k : ℕ) → length ms ≤ length (added b ms k)
added-grows true ms k = let e = length-append ms (k ∷ []) in omega arith
added-grows false ms k = omega arith

added-keeps : (b : Bool) (ms : List ℕ) (k j : ℕ) → j < length ms → get_or (added b ms k) j 0 ≡ get_or ms j 0
added-keeps true ms k j h = get_or-append ms (k ∷ []) 0 j h
added-keeps false ms k j h = refl

module _ (S : Set) (c t : ℕ) where
  abbrev pub belongs : ℕ → Bool
  belongs i = in_class c (S.statement t i).number

  members-next : (i : ℕ) → members S c t (suc i) ≡ added (belongs i) (members S c t i) i
  unfolding members
  members-next i = refl

  pub members-none : length (members S c t 0) ≡ 0
  unfolding members
  members-none = refl

  -- a statement that belongs to the class stands last when it was added
  pub members_in : (i : ℕ) → belongs i ≡ true → length (members S c t (suc i)) ≡ suc (length (members S c t i))
  members_in i e = ap length (members-next i ∙ ap (λ (b : Bool). added b (members S c t i) i) e) ∙ (length-append (members S c t i) (i ∷ []) ∙ omega arith)

  pub members-out : (i : ℕ) → belongs i ≡ false → length (members S c t (suc i)) ≡ length (members S c t i)
  members-out i e = ap length (members-next i ∙ ap (λ (b : Bool). added b (members S c t i) i) e)

  members_grow : (k i : ℕ) → i ≤ k → length (members S c t i) ≤ length (members S c t k)
  members_grow zero i h = let e : i ≡ 0 = omega arith in subst (λ (j : ℕ). length (members S c t j) ≤ length (members S c t 0)) (sym e) (omega arith)
  members_grow (suc k) i h = elim (ℕ_discrete i (suc k)) [
    | yes e ↦ subst (λ (j : ℕ). length (members S c t j) ≤ length (members S c t (suc k))) (sym e) (omega arith)
    | no e ↦
        let r = members_grow k i (omega arith) in
        let s = added-grows (belongs k) (members S c t k) k in
        let n = ap length (members-next k) in
        omega arith
  ]

  -- the member after those before statement i is statement i, if that belongs to the class
  pub member-at : (k i : ℕ) → i < k → belongs i ≡ true → get_or (members S c t k) (length (members S c t i)) 0 ≡ i
  member-at zero i h e = absurd (omega arith)
  member-at (suc k) i h e = elim (ℕ_discrete i k) [
    | yes p ↦
        subst (λ (m : ℕ). get_or (members S c t (suc m)) (length (members S c t i)) 0 ≡ i) p
        (ap (λ (ms : List ℕ). get_or ms (length (members S c t i)) 0) (members-next i ∙ ap (λ (b : Bool). added b (members S c t i) i) e)
        ∙ get_or-append_seam (members S c t i) i [] 0)
    | no p ↦
        let less : length (members S c t i) < length (members S c t k) = let a = members_in i e in let b = members_grow k (suc i) (omega arith) in omega arith in
        ap (λ (ms : List ℕ). get_or ms (length (members S c t i)) 0) (members-next k)
        ∙ (added-keeps (belongs k) (members S c t k) k (length (members S c t i)) less ∙ member-at k i (omega arith) e)
  ]
