-- A step is its choice bits and a rest that is the same in every step. Assumes nothing.
use Prim.Native.Nat.{ℕ, zero, suc, ◌+◌, ◌-◌}
use mathlib.Core.Path.{◌≡◌, refl, ap, ◌∙◌}
use mathlib.Core.Bool.{cond}
use mathlib.Core.List.{List, [], ◌∷◌, ◌++◌, append_assoc}
use native.Mathlib.Omega.{arith}
use lib.Dec.{ltb}
use Rattle.records.specs.Sets.{Set}
use Rattle.table.specs.Programs.{Leaf, choice_bit, leaf, leaf_formula, next, root, records, upto, Command, sets, needs, put, next_after, places_after, compiled}
use Rattle.table.proofs.Sequences.{upto-first, next-++, places-++, compiled-++}
use Rattle.encoding.specs.Slots.{kinds, kind_at, choice, Slot, slot, same}
use Rattle.encoding.specs.Steps.{chain, block, blocks, ruled, step}

-- where the first m choice bits lie that are written from n on
unfoldable pub chosen_places : (Slot → ℕ) → (n m : ℕ) → Slot → ℕ
chosen_places places n zero = places
chosen_places places n (suc m) = put same (chosen_places places n m) (slot choice 0 m) (n + m)

module _ (S : Set) (cs : List ℕ) where
  -- what follows the choice bits
  unfoldable pub rest : List (Command Slot)
  rest = upto (λ i. block S cs 0 (kind_at (suc i))) 10 ++ (needs (ruled S cs 0) ∷ blocks S cs 0 11 25)

  rest-same : (k : ℕ) → (upto (λ i. block S cs k (kind_at (0 + suc i))) 10 ++ (needs (ruled S cs k) ∷ blocks S cs k 11 25)) ≡ rest
  unfolding rest upto kinds
  rest-same k = refl

  pub step-split : (k : ℕ) → step S cs k ≡ block S cs k choice ++ rest
  unfolding step kinds
  step-split k =
      ap (λ x. x ++ (needs (ruled S cs k) ∷ blocks S cs k 11 25)) (upto-first (λ i. block S cs k (kind_at (0 + i))) 10)
      ∙ (append_assoc (block S cs k choice) (upto (λ i. block S cs k (kind_at (0 + suc i))) 10) (needs (ruled S cs k) ∷ blocks S cs k 11 25)
      ∙ ap (λ x. block S cs k choice ++ x) (rest-same k))

  -- ---- the choice bits

  abbrev pub choice_leaf : (k j : ℕ) → Leaf
  choice_leaf k j = cond (ltb j S.threads) (choice_bit k 0 j) (choice_bit k 1 (j - S.threads))

  abbrev pub choice_set : (k j : ℕ) → List (Command Slot)
  choice_set k j = sets (slot choice 0 j) (leaf (choice_leaf k j)) ∷ []

  pub choices : (k : ℕ) → block S cs k choice ≡ upto (choice_set k) (S.threads + S.threads)
  unfolding upto chain
  choices k = refl

  module _ (k : ℕ) (places : Slot → ℕ) (n : ℕ) where
    one-next : (m j : ℕ) → next_after same m (choice_set k j) ≡ suc m
    unfolding next_after next
    one-next m j = refl

    pub choices-next : (m : ℕ) → next_after same n (upto (choice_set k) m) ≡ n + m
    unfolding upto next_after
    choices-next zero = omega arith
    choices-next (suc m) =
        let e : suc (n + m) ≡ n + suc m = omega arith in
        next-++ same n (upto (choice_set k) m) (choice_set k m) ∙ (one-next (next_after same n (upto (choice_set k) m)) m ∙ (ap suc (choices-next m) ∙ e))

    one-places : (p : Slot → ℕ) (m j : ℕ) → places_after same p m (choice_set k j) ≡ put same p (slot choice 0 j) m
    unfolding places_after root next
    one-places p m j = refl

    pub choices-places : (m : ℕ) → places_after same places n (upto (choice_set k) m) ≡ chosen_places places n m
    unfolding upto places_after chosen_places
    choices-places zero = refl
    choices-places (suc m) =
        places-++ same places n (upto (choice_set k) m) (choice_set k m)
        ∙ (one-places (places_after same places n (upto (choice_set k) m)) (next_after same n (upto (choice_set k) m)) m
        ∙ λ i. put same (choices-places m i) (slot choice 0 m) (choices-next m i))

    one_record_lem : (p : Slot → ℕ) (m j : ℕ) → compiled same p m (choice_set k j) ≡ leaf_formula (choice_leaf k j) ∷ []
    unfolding compiled records
    one_record_lem p m j = refl

    pub choices-records : (m : ℕ) → compiled same places n (upto (choice_set k) m) ≡ upto (λ j. leaf_formula (choice_leaf k j) ∷ []) m
    unfolding upto compiled
    choices-records zero = refl
    choices-records (suc m) =
        compiled-++ same places n (upto (choice_set k) m) (choice_set k m)
        ∙ λ i. choices-records m i ++ one_record_lem (places_after same places n (upto (choice_set k) m)) (next_after same n (upto (choice_set k) m)) m i
