-- The list of a set's checkpoints has every one that a thread contains, and of an accepted set at most eight. Assumes nothing.
use Prim.Native.Nat.{ℕ, zero, suc, ◌+◌, ◌-◌, ◌≤◌, ◌<◌}
use mathlib.Core.Path.{◌≡◌, refl, ap, ap₂, sym, ◌∙◌}
use mathlib.Core.Bool.{Bool, true, false, cond, not, ◌&&◌, ◌||◌}
use mathlib.Core.List.{List, [], ◌∷◌, ◌++◌}
use native.Mathlib.Omega.{arith}
use native.Mathlib.Nat.{add-zero}
use lib.Dec.{eqb}
use lib.ListN.{length, get_or, length-append}
use borrow.Author.Tests.{eqb-true, lt-ltb}
use Rattle.base.specs.Below.{some, number}
use Rattle.base.proofs.Below.{some_at, number-grows}
use Rattle.base.proofs.Choice.{chosen, or_no, or_three, eqb_swap, clash}
use Rattle.records.specs.Instructions.{CHECK}
use Rattle.records.specs.Sets.{Set, records, statement_at, argument_at, count_of, start_of, set_of, threads_of, checks_at, opens_at, set_accepted}
use Rattle.records.specs.declared.Statement.{Statement}
use Rattle.records.proofs.Sets.{accepted, found_at, well-formed}
use Rattle.machine.specs.Machine.{is_check, contains}
use Rattle.encoding.specs.Checkpoints.{member, noted, noted_in, noted_below, checkpoints}
use Rattle.encoding.proofs.Shown.{Complete}

-- ---- which numbers are listed

member-++ : (c : ℕ) (xs ys : List ℕ) → member c (xs ++ ys) ≡ (member c xs || member c ys)
unfolding member
member-++ c [] ys = refl
member-++ c (x ∷ xs) ys = go (eqb c x) (member-++ c xs ys)
  where
    go : (b : Bool) → member c (xs ++ ys) ≡ (member c xs || member c ys) → (b || member c (xs ++ ys)) ≡ ((b || member c xs) || member c ys)
    go true e = refl
    go false e = e

member-one : (c d : ℕ) → member c (d ∷ []) ≡ eqb d c
unfolding member
member-one c d = or_no (eqb c d) ∙ eqb_swap c d

member-noted : (c : ℕ) (seen : List ℕ) (i : Statement) → member c (noted seen i) ≡ (member c seen || (eqb i.number CHECK && eqb i.argument c))
unfolding noted
member-noted c seen i = go (eqb i.number CHECK) (member i.argument seen) refl
  where
    known : (b : Bool) → eqb i.argument c ≡ b → member i.argument seen ≡ true → member c seen ≡ (member c seen || b)
    known true e m = let here = sym (ap (λ (d : ℕ). member d seen) (eqb-true _ _ e)) ∙ m in here ∙ sym (ap (λ (b : Bool). b || true) here)
    known false e m = sym (or_no (member c seen))

    go : (k m : Bool) → member i.argument seen ≡ m → member c (cond (k && not m) (seen ++ (i.argument ∷ [])) seen) ≡ (member c seen || (k && eqb i.argument c))
    go true true e = known (eqb i.argument c) refl e
    go true false e = member-++ c seen (i.argument ∷ []) ∙ ap (λ (b : Bool). member c seen || b) (member-one c i.argument)
    go false m e = sym (or_no (member c seen))

member_in : (S : Set) (t c : ℕ) (seen : List ℕ) (n : ℕ) → member c (noted_in S t seen n) ≡ (member c seen || some n (is_check S t c))
unfolding noted_in some
member_in S t c seen zero = sym (or_no (member c seen))
member_in S t c seen (suc n) =
    member-noted c (noted_in S t seen n) (S.statement t n)
    ∙ ap (λ (b : Bool). b || is_check S t c n) (member_in S t c seen n)
    ∙ or_three (member c seen) (some n (is_check S t c)) (is_check S t c n)

-- a number is listed where one of the first n threads contains it
pub member_below : (S : Set) (c n : ℕ) → member c (noted_below S n) ≡ some n (λ t. contains S t c)
unfolding noted_below some contains member
member_below S c zero = refl
member_below S c (suc t) = member_in S t c (noted_below S t) (S.count t) ∙ ap (λ (b : Bool). b || contains S t c) (member_below S c t)

-- where a number stands
member-at : (c : ℕ) (cs : List ℕ) → member c cs ≡ true → (p : ℕ) × ((p < length cs) × (get_or cs p 0 ≡ c))
unfolding member
member-at c [] e = clash e refl
member-at c (d ∷ ds) e = go (eqb c d) refl (member-at c ds) e
  where
    go : (b : Bool) → eqb c d ≡ b → (member c ds ≡ true → (p : ℕ) × ((p < length ds) × (get_or ds p 0 ≡ c))) → (b || member c ds) ≡ true →
        (p : ℕ) × ((p < suc (length ds)) × (get_or (d ∷ ds) p 0 ≡ c))
    go true q rest h = (0, (omega arith, sym (eqb-true c d q)))
    go false q rest h = let r = rest h in (suc r.0, (omega (arith, r.1.0), r.1.1))

pub complete : (S : Set) → Complete S (checkpoints S)
unfolding checkpoints
complete S t c h e = member-at c (noted_below S S.threads) (member_below S c S.threads ∙ some_at (λ u. contains S u c) S.threads t h e)

-- ---- how many there are

module _ (bytes : List ℕ) where
  -- the checkpoints seen once the first n records are looked at
  unfoldable seen_in : ℕ → List ℕ
  seen_in zero = []
  seen_in (suc n) = noted (seen_in n) (statement_at bytes n)

  member_seen : (c n : ℕ) → member c (seen_in n) ≡ some n (checks_at bytes c)
  unfolding seen_in some member
  member_seen c zero = refl
  member_seen c (suc n) = member-noted c (seen_in n) (statement_at bytes n) ∙ ap (λ (b : Bool). b || checks_at bytes c n) (member_seen c n)

  length-noted : (seen : List ℕ) (i : Statement) → length (noted seen i) ≡ length seen + cond (eqb i.number CHECK && not (member i.argument seen)) 1 0
  unfolding noted
  length-noted seen i = go (eqb i.number CHECK && not (member i.argument seen))
    where
      go : (b : Bool) → length (cond b (seen ++ (i.argument ∷ [])) seen) ≡ length seen + cond b 1 0
      go true = length-append seen (i.argument ∷ [])
      go false = omega arith

  length_seen : (n : ℕ) → length (seen_in n) ≡ number n (opens_at bytes)
  unfolding seen_in number opens_at
  length_seen zero = refl
  length_seen (suc n) =
      length-noted (seen_in n) (statement_at bytes n)
      ∙ ap₂ (λ (k : ℕ) (b : Bool). k + cond (eqb (statement_at bytes n).number CHECK && not b) 1 0) (length_seen n) (member_seen (argument_at bytes n) n)

  in_seen : (t n : ℕ) → n ≤ count_of bytes t → noted_in (set_of bytes) t (seen_in (start_of bytes t)) n ≡ seen_in (start_of bytes t + n)
  unfolding noted_in seen_in
  in_seen t zero h = ap seen_in (sym (add-zero (start_of bytes t)))
  in_seen t (suc n) h =
      ap₂ noted (in_seen t n (omega arith)) (chosen _ _ (lt-ltb n (count_of bytes t) h))
      ∙ ap seen_in next
    where
      next : suc (start_of bytes t + n) ≡ start_of bytes t + suc n
      next = omega arith

  below-seen : (n : ℕ) → noted_below (set_of bytes) n ≡ seen_in (start_of bytes n)
  unfolding noted_below start_of seen_in
  below-seen zero = refl
  below-seen (suc t) = ap (λ seen. noted_in (set_of bytes) t seen (count_of bytes t)) (below-seen t) ∙ in_seen t (count_of bytes t) (omega arith)

  start-next : (n : ℕ) → 1 ≤ n → start_of bytes n ≡ start_of bytes (n - 1) + count_of bytes (n - 1)
  unfolding start_of
  start-next zero h = absurd (omega arith)
  start-next (suc t) h = let e : suc t - 1 ≡ t = omega arith in rw e refl

  all-records : set_accepted bytes ≡ true → start_of bytes (threads_of bytes) ≤ records bytes
  all-records ok =
      let t = threads_of bytes - 1 in
      let h = (well-formed bytes ok).some_thread in
      let some = (well-formed bytes ok).some_statement t (omega arith) in
      omega (arith, (found_at bytes ok t (count_of bytes t - 1) (omega arith)).0, some, start-next (threads_of bytes) h)

pub few : (set : List ℕ) → set_accepted set ≡ true → length (checkpoints (set_of set)) ≤ 8
unfolding checkpoints
few set ok = omega (
  arith,
  ap length (below-seen set (threads_of set)),
  length_seen set (start_of set (threads_of set)),
  number-grows (opens_at set) (start_of set (threads_of set)) (records set) (all-records set ok),
  (accepted set ok).checkpoints,
)
