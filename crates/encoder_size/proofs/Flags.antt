-- How many records flags and raised marks have, counted by the statement that gives the link. Assumes nothing.
use Prim.Native.Nat.{ℕ, suc, ◌+◌, ◌<◌}
use mathlib.Core.Path.{◌≡◌, refl, ap, ap₂, sym, ◌∙◌}
use mathlib.Core.Bool.{Bool, true, false, cond, ◌&&◌}
use mathlib.Core.List.{List}
use native.Mathlib.Omega.{arith}
use lib.Dec.{eqb}
use lib.ListN.{length, get_or}
use borrow.Author.Tests.{eqb-true, eq-eqb}
use Rattle.base.specs.Below.{number}
use Rattle.base.proofs.Below.{some_at}
use Rattle.base.proofs.Choice.{passed, cond-ap, and_true, refuted, clash, or_right}
use Rattle.records.specs.Instructions.{JMP, CHECK}
use Rattle.records.specs.Sets.{Set}
use Rattle.machine.specs.Machine.{contains}
use Rattle.table.specs.Programs.{next, upto, next_after}
use Rattle.table.specs.Formulas.{bit_sort}
use Rattle.encoding.specs.Slots.{active, test, not_test, raised, flag, bit_one, Slot, slot}
use Rattle.encoding.specs.Steps.{skip, if_then, only, is_plain, is_conditional, is_one_way, rests, chain, link, base, entry, leads}
use Rattle.encoder_size.specs.Sizes.{total, within, lead_records, check_records}
use Rattle.encoder_size.proofs.Sums.{total_ext, total-plus, total-same, total_swap, total-point, total-number}
use Rattle.encoder_size.proofs.Counted.{counted, counted-upto, adds, counted-chain}
use Rattle.encoder_size.proofs.Blocks.{number_of, over, sized, size_of, statements}

-- ---- sums over all statements

module _ (S : Set) where
  pub over_ext : (f g : ℕ → ℕ → ℕ) → ((t i : ℕ) → i < S.count t → f t i ≡ g t i) → over S f ≡ over S g
  unfolding over
  over_ext f g h =
      total_ext (λ t. total (f t) (S.count t)) (λ t. total (g t) (S.count t)) S.threads
      (λ t l. total_ext (f t) (g t) (S.count t) (h t))

  pub over-plus : (f g : ℕ → ℕ → ℕ) → over S (λ t i. f t i + g t i) ≡ over S f + over S g
  unfolding over
  over-plus f g =
      total_ext (λ t. total (λ i. f t i + g t i) (S.count t)) (λ t. total (f t) (S.count t) + total (g t) (S.count t)) S.threads
      (λ t l. total-plus (f t) (g t) (S.count t))
      ∙ total-plus (λ t. total (f t) (S.count t)) (λ t. total (g t) (S.count t)) S.threads

  pub over_zero : over S (λ t i. 0) ≡ 0
  unfolding over
  over_zero =
      let each = total_ext (λ t. total (λ i. 0) (S.count t)) (λ t. 0) S.threads (λ t l. let e = total-same 0 (S.count t) in omega arith) in
      let none = total-same 0 S.threads in
      omega arith

  -- what each of a thread's statements has of each other, counted the other way round
  pub over-turned : (f : ℕ → ℕ → ℕ → ℕ) (g : ℕ → ℕ → ℕ) → ((t i : ℕ) → total (λ j. f t j i) (S.count t) ≡ g t i) →
      over S (λ t j. total (f t j) (S.count t)) ≡ over S g
  unfolding over
  over-turned f g h =
      total_ext (λ t. total (λ j. total (f t j) (S.count t)) (S.count t)) (λ t. total (g t) (S.count t)) S.threads
      (λ t l. total_swap (f t) (S.count t) (S.count t) ∙ total_ext (λ i. total (λ j. f t j i) (S.count t)) (g t) (S.count t) (λ i q. h t i))

-- ---- the statements that one leads to

-- one link to x
to_one : (x n : ℕ) (sort : ℕ) (a b : Slot) → total (λ j. adds (cond (eqb x j) (if_then sort a b) skip)) n ≡ within x n
to_one x n sort a b = total_ext _ (λ j. cond (eqb x j) 1 0) n (λ j l. cond-ap adds (eqb x j) (if_then sort a b) skip) ∙ total-point x n

-- links to two different ones
to-two : (x y n : ℕ) → (x ≡ y → ⊥) → (sort : ℕ) (a b c d : Slot) →
    total (λ j. adds (cond (eqb x j) (if_then sort a b) (cond (eqb y j) (if_then sort c d) skip))) n ≡ within x n + within y n
to-two x y n apart sort a b c d =
    let both = total_ext _ (λ j. cond (eqb x j) 1 0 + cond (eqb y j) 1 0) n (λ j l. go j (eqb x j) refl (eqb y j) refl) in
    let parts = total-plus (λ j. cond (eqb x j) 1 0) (λ j. cond (eqb y j) 1 0) n in
    let first = total-point x n in
    let second = total-point y n in
    both ∙ (parts ∙ ap₂ (λ u v. u + v) first second)
  where
    go : (j : ℕ) (s : Bool) → eqb x j ≡ s → (t : Bool) → eqb y j ≡ t → adds (cond s (if_then sort a b) (cond t (if_then sort c d) skip)) ≡ cond s 1 0 + cond t 1 0
    go j true e true f = absurd (apart (eqb-true x j e ∙ sym (eqb-true y j f)))
    go j true e false f = refl
    go j false e true f = refl
    go j false e false f = refl

-- nowhere; to x; to x and the next; to the next
to-each : (x i n sort : ℕ) (a b taken missed : Slot) (stays single double : Bool) → (single ≡ false → double ≡ true → x ≡ suc i → ⊥) →
    total (λ j. adds (cond stays skip
    (cond single (cond (eqb x j) (if_then sort a b) skip)
    (cond double (cond (eqb x j) (if_then sort a taken) (cond (eqb (suc i) j) (if_then sort a missed) skip))
    (cond (eqb (suc i) j) (if_then sort a b) skip))))) n
    ≡ cond stays 0 (cond single (within x n) (cond double (within x n + within (suc i) n) (within (suc i) n)))
to-each x i n sort a b taken missed true single double h = let e = total-same 0 n in omega arith
to-each x i n sort a b taken missed false true double h = to_one x n sort a b
to-each x i n sort a b taken missed false false true h = to-two x (suc i) n (h refl refl) sort a taken a missed
to-each x i n sort a b taken missed false false false h = to_one (suc i) n sort a b

module _ (S : Set) (cs : List ℕ) (k : ℕ) where
  leads-size : (t i n : ℕ) → total (λ j. adds (leads S cs k t j i)) n ≡ lead_records (number_of S t i) (S.statement t i).argument i n
  unfolding lead_records
  leads-size t i n =
      let m = number_of S t i in
      let x = (S.statement t i).argument in
      to-each x i n bit_sort (slot active t i) (only bit_one) (slot (cond (is_plain m) test not_test) t i) (slot (cond (is_plain m) not_test test) t i)
      (rests m) (is_one_way m x i) (is_conditional m)
      (λ o d e. clash (and_true d (eq-eqb x (suc i) e)) (or_right (eqb m JMP) (is_conditional m && eqb x (suc i)) o))

  -- a flag's base, and what leads to it
  pub size-flag : size_of S cs k flag ≡ over S (λ t i. lead_records (number_of S t i) (S.statement t i).argument i (S.count t)) + sized S (λ n. cond (rests n) 0 1)
  unfolding size_of sized upto next_after next
  size-flag =
      let each = statements S cs k flag (λ t j. total (λ i. adds (leads S cs k t j i)) (S.count t) + cond (rests (number_of S t j)) 0 1) (λ t j.
      let e = counted-chain (leads S cs k t j) (λ i. adds (leads S cs k t j i)) (λ i. refl) (base S cs k flag t j) (S.count t) in
      let f = cond-ap (next 0) (rests (number_of S t j)) _ _ in
      e ∙ ap (λ (y : ℕ). total (λ i. adds (leads S cs k t j i)) (S.count t) + y) f) in
      each ∙ (over-plus S (λ t j. total (λ i. adds (leads S cs k t j i)) (S.count t)) (λ t j. cond (rests (number_of S t j)) 0 1)
      ∙ ap (λ (y : ℕ). y + over S (λ t i. cond (rests (number_of S t i)) 0 1)) turned)
    where
      turned : over S (λ t j. total (λ i. adds (leads S cs k t j i)) (S.count t)) ≡ over S (λ t i. lead_records (number_of S t i) (S.statement t i).argument i (S.count t))
      turned = over-turned S (λ t j i. adds (leads S cs k t j i)) _ (λ t i. leads-size t i (S.count t))

  -- ---- the marks that one raises

  abbrev raises : (t p i : ℕ) → Bool
  raises t p i = eqb (number_of S t i) CHECK && eqb (S.statement t i).argument (get_or cs p 0)

  -- a thread raises no mark at a checkpoint that it does not contain
  raised_none : (t p : ℕ) → cond (contains S t (get_or cs p 0)) (total (λ i. cond (raises t p i) 1 0) (S.count t)) 0 ≡ total (λ i. cond (raises t p i) 1 0) (S.count t)
  unfolding contains
  raised_none t p = go (contains S t (get_or cs p 0)) refl
    where
      go : (b : Bool) → contains S t (get_or cs p 0) ≡ b → cond b (total (λ i. cond (raises t p i) 1 0) (S.count t)) 0 ≡ total (λ i. cond (raises t p i) 1 0) (S.count t)
      go true e = refl
      go false e =
          let zeros = total_ext (λ i. cond (raises t p i) 1 0) (λ i. 0) (S.count t)
          (λ i l. passed 1 0 (refuted (raises t p i) (λ f. clash (some_at (raises t p) (S.count t) i l f) e))) in
          let none = total-same 0 (S.count t) in
          omega arith

  checks-size : (t i : ℕ) → total (λ p. cond (raises t p i) 1 0) (length cs) ≡ check_records cs (number_of S t i) (S.statement t i).argument
  unfolding check_records
  checks-size t i = go (eqb (number_of S t i) CHECK)
    where
      go : (b : Bool) → total (λ p. cond (b && eqb (S.statement t i).argument (get_or cs p 0)) 1 0) (length cs)
          ≡ cond b (number (length cs) (λ p. eqb (S.statement t i).argument (get_or cs p 0))) 0
      go true = sym (total-number (λ p. eqb (S.statement t i).argument (get_or cs p 0)) (length cs))
      go false = let e = total-same 0 (length cs) in omega arith

  pub size_raised : size_of S cs k raised ≡ over S (λ t i. check_records cs (number_of S t i) (S.statement t i).argument)
  unfolding size_of over upto next_after next
  size_raised =
      counted-upto (λ t. upto (entry S cs k raised t) (length cs)) (λ t. total (λ i. check_records cs (number_of S t i) (S.statement t i).argument) (S.count t))
      (λ t. counted-upto (entry S cs k raised t) (λ p. total (λ i. cond (raises t p i) 1 0) (S.count t)) (λ p. each t p) (length cs)
      ∙ (total_swap (λ p i. cond (raises t p i) 1 0) (length cs) (S.count t)
      ∙ total_ext _ _ (S.count t) (λ i l. checks-size t i))) S.threads
    where
      each : (t p : ℕ) → counted (entry S cs k raised t p) ≡ total (λ i. cond (raises t p i) 1 0) (S.count t)
      each t p =
          let e = counted-chain (link S cs k raised t p) (λ i. cond (raises t p i) 1 0) (λ i. cond-ap adds (raises t p i) _ _) (base S cs k raised t p) (S.count t) in
          let f : next 0 (chain (link S cs k raised t p) (S.count t) (base S cs k raised t p)) ≡ total (λ i. cond (raises t p i) 1 0) (S.count t) = omega arith in
          cond-ap counted (contains S t (get_or cs p 0)) _ _
          ∙ (ap (λ (y : ℕ). cond (contains S t (get_or cs p 0)) y 0) f ∙ raised_none t p)
