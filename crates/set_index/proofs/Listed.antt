-- Laws of the members of a class: how many, in which order, what they are, and the chain over them. Assumes nothing.
use Prim.Native.Nat.{ℕ, zero, suc, ◌+◌, ◌≤◌, ◌<◌}
use mathlib.Core.Path.{◌≡◌, refl, ap, sym, ◌∙◌, subst}
use mathlib.Core.Bool.{Bool, true, false, cond, true≢false}
use mathlib.Core.List.{List, [], ◌∷◌, ◌++◌}
use native.Mathlib.Numerals.{add-one}
use native.Mathlib.Omega.{arith}
use native.Mathlib.Decide.{dec_lt, ℕ_discrete}
use lib.ListN.{length, get_or, length-append, get_or-append}
use lib.Seq.{get_or-append_seam}
use borrow.Author.Tests.{ne_eqb}
use Rattle.base.proofs.Choice.{passed}
use Rattle.records.specs.Sets.{Set}
use Rattle.encoding.specs.Slots.{Term}
use Rattle.encoding.specs.Steps.{Link, skip, linked, chain}
use Rattle.set_index.specs.Members.{in_class, added, members, of_class}

-- ---- one more at the end

pub added-length : (ms : List ℕ) (k : ℕ) → length (ms ++ (k ∷ [])) ≡ length ms + 1
added-length ms k = length-append ms (k ∷ [])

pub added-last : (ms : List ℕ) (k j : ℕ) → length ms ≡ j → get_or (ms ++ (k ∷ [])) j 0 ≡ k
added-last ms k j e = ap (λ (n : ℕ). get_or (ms ++ (k ∷ [])) n 0) (sym e) ∙ get_or-append_seam ms k [] 0

added-few : (b : Bool) (ms : List ℕ) (k : ℕ) → length ms ≤ k → length (added b ms k) ≤ suc k
added-few true ms k h = omega (arith, added-length ms k)
added-few false ms k h = omega arith

-- what holds of each holds of each with one more
added-each : (P : ℕ → Type 0) (b : Bool) (ms : List ℕ) (k : ℕ) → ((j : ℕ) → j < length ms → P (get_or ms j 0)) → (b ≡ true → P k) →
    (j : ℕ) → j < length (added b ms k) → P (get_or (added b ms k) j 0)
added-each P true ms k old new j h = elim (dec_lt j (length ms)) [
  | yes q ↦ subst P (sym (get_or-append ms (k ∷ []) 0 j q)) (old j q)
  | no q ↦
      let e : length ms ≡ j = omega (arith, added-length ms k) in
      subst P (sym (added-last ms k j e)) (new refl)
]
added-each P false ms k old new j h = old j h

-- where a number stands in a list
pub record At (ms : List ℕ) (x : ℕ) : Type 0 where
  pub place : ℕ
  pub inside : place < length ms
  pub here : get_or ms place 0 ≡ x

added-at : (b : Bool) (ms : List ℕ) (k x : ℕ) → At ms x → At (added b ms k) x
added-at true ms k x a = record {
  place = a.place;
  inside = let h = a.inside in omega (arith, added-length ms k);
  here = get_or-append ms (k ∷ []) 0 a.place a.inside ∙ a.here;
}
added-at false ms k x a = a

added-here : (b : Bool) (ms : List ℕ) (k : ℕ) → b ≡ true → At (added b ms k) k
added-here true ms k e = record {
  place = length ms;
  inside = omega (arith, added-length ms k);
  here = added-last ms k (length ms) refl;
}
added-here false ms k e = absurd (true≢false (sym e))

added-order : (b : Bool) (ms : List ℕ) (k : ℕ) → ((j : ℕ) → j < length ms → get_or ms j 0 < k) →
    ((p q : ℕ) → p < q → q < length ms → get_or ms p 0 < get_or ms q 0) →
    (p q : ℕ) → p < q → q < length (added b ms k) → get_or (added b ms k) p 0 < get_or (added b ms k) q 0
added-order true ms k below old p q lt h = elim (dec_lt q (length ms)) [
  | yes i ↦
      let x : get_or (ms ++ (k ∷ [])) p 0 ≡ get_or ms p 0 = get_or-append ms (k ∷ []) 0 p (omega arith) in
      let y : get_or (ms ++ (k ∷ [])) q 0 ≡ get_or ms q 0 = get_or-append ms (k ∷ []) 0 q i in
      let l = old p q lt i in
      omega arith
  | no i ↦
      let e : length ms ≡ q = omega (arith, added-length ms k) in
      let x : get_or (ms ++ (k ∷ [])) p 0 ≡ get_or ms p 0 = get_or-append ms (k ∷ []) 0 p (omega arith) in
      let y : get_or (ms ++ (k ∷ [])) q 0 ≡ k = added-last ms k q e in
      let l = below p (omega arith) in
      omega arith
]
added-order false ms k below old p q lt h = old p q lt h

-- ---- members

module _ (S : Set) (c t : ℕ) where
  pub members-none : members S c t 0 ≡ []
  unfolding members
  members-none = refl

  -- statement k belongs or not
  pub members-more : (k : ℕ) (b : Bool) → b ≡ in_class c (S.statement t k).number → members S c t (k + 1) ≡ added b (members S c t k) k
  unfolding members
  members-more k b e = ap (members S c t) (add-one k) ∙ ap (λ (x : Bool). added x (members S c t k) k) (sym e)

  pub members-few : (k : ℕ) → length (members S c t k) ≤ k
  unfolding members
  members-few zero = omega arith
  members-few (suc k) = added-few (in_class c (S.statement t k).number) (members S c t k) k (members-few k)

  pub members-below : (k j : ℕ) → j < length (members S c t k) → get_or (members S c t k) j 0 < k
  unfolding members
  members-below zero = λ (j : ℕ) (h : j < 0). absurd (omega arith)
  members-below (suc k) =
      added-each (λ x. x < suc k) (in_class c (S.statement t k).number) (members S c t k) k
      (λ (j : ℕ) (h : j < length (members S c t k)). let l = members-below k j h in omega arith) (λ e. omega arith)

  -- each is of the class
  pub members-belong : (k j : ℕ) → j < length (members S c t k) → in_class c (S.statement t (get_or (members S c t k) j 0)).number ≡ true
  unfolding members
  members-belong zero = λ (j : ℕ) (h : j < 0). absurd (omega arith)
  members-belong (suc k) =
      added-each (λ x. in_class c (S.statement t x).number ≡ true) (in_class c (S.statement t k).number) (members S c t k) k (members-belong k) (λ e. e)

  -- and each of the class is one
  pub members-at : (k x : ℕ) → x < k → in_class c (S.statement t x).number ≡ true → At (members S c t k) x
  unfolding members
  members-at zero x h e = absurd (omega arith)
  members-at (suc k) x h e = elim (ℕ_discrete x k) [
    | yes same ↦
        let b = in_class c (S.statement t k).number in
        subst (At (added b (members S c t k) k)) (sym same)
        (added-here b (members S c t k) k (ap (λ (y : ℕ). in_class c (S.statement t y).number) (sym same) ∙ e))
    | no other ↦ added-at (in_class c (S.statement t k).number) (members S c t k) k x (members-at k x (omega arith) e)
  ]

  pub members-order : (k p q : ℕ) → p < q → q < length (members S c t k) → get_or (members S c t k) p 0 < get_or (members S c t k) q 0
  unfolding members
  members-order zero = λ (p q : ℕ) (l : p < q) (h : q < 0). absurd (omega arith)
  members-order (suc k) = added-order (in_class c (S.statement t k).number) (members S c t k) k (members-below k) (members-order k)

-- past the last class nothing is of a class
pub class_past : (c n : ℕ) → 10 < c → in_class c n ≡ false
class_past c n h =
    passed _ _ (ne_eqb c 0 (λ e. omega arith))
    ∙ passed _ _ (ne_eqb c 1 (λ e. omega arith))
    ∙ passed _ _ (ne_eqb c 2 (λ e. omega arith))
    ∙ passed _ _ (ne_eqb c 3 (λ e. omega arith))
    ∙ passed _ _ (ne_eqb c 4 (λ e. omega arith))
    ∙ passed _ _ (ne_eqb c 5 (λ e. omega arith))
    ∙ passed _ _ (ne_eqb c 6 (λ e. omega arith))
    ∙ passed _ _ (ne_eqb c 7 (λ e. omega arith))
    ∙ passed _ _ (ne_eqb c 8 (λ e. omega arith))
    ∙ passed _ _ (ne_eqb c 9 (λ e. omega arith))
    ∙ passed _ _ (ne_eqb c 10 (λ e. omega arith))

-- ---- the chain over the members

pub chain_same : (f g : ℕ → Link) (base : Term) (n : ℕ) → ((i : ℕ) → i < n → f i ≡ g i) → chain f n base ≡ chain g n base
unfolding chain
chain_same f g base zero same = refl
chain_same f g base (suc n) same =
    let here = same n (omega arith) in
    let rest = chain_same f g base n (λ (i : ℕ) (h : i < n). same i (omega arith)) in
    λ z. linked (here z) (rest z)

module _ (links : ℕ → Link) (base : Term) where
  -- the chain of a list's links
  abbrev pub over : List ℕ → ℕ → Term
  over ms n = chain (λ (j : ℕ). links (get_or ms j 0)) n base

  added-chain : (b : Bool) (ms : List ℕ) (k : ℕ) (under : Term) → over ms (length ms) ≡ under →
      over (added b ms k) (length (added b ms k)) ≡ linked (cond b (links k) skip) under
  unfolding chain
  added-chain true ms k under e =
      let new = ms ++ (k ∷ []) in
      let last : get_or new (length ms) 0 ≡ k = added-last ms k (length ms) refl in
      let rest : over new (length ms) ≡ under =
      chain_same (λ (j : ℕ). links (get_or new j 0)) (λ (j : ℕ). links (get_or ms j 0)) base (length ms) (λ (j : ℕ) (h : j < length ms). ap links (get_or-append ms (k ∷ []) 0 j h)) ∙ e in
      ap (over new) (added-length ms k ∙ add-one (length ms)) ∙ (λ z. linked (links (last z)) (rest z))
  added-chain false ms k under e = e

  pub members-chain : (S : Set) (c t k : ℕ) → over (members S c t k) (length (members S c t k)) ≡ chain (of_class S c t links) k base
  unfolding members chain
  members-chain S c t zero = refl
  members-chain S c t (suc k) =
      added-chain (in_class c (S.statement t k).number) (members S c t k) k (chain (of_class S c t links) k base) (members-chain S c t k)
