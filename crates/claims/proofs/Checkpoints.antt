-- At most n different checkpoints: as many first CHECKs, or n numbers that every CHECK's is among. Assumes nothing.
use Prim.Native.Nat.{ℕ, zero, suc, ◌+◌, ◌≤◌, ◌<◌}
use mathlib.Core.Path.{◌≡◌, refl, ap, sym, subst, ◌∙◌}
use mathlib.Core.Bool.{Bool, true, false, cond, not, ◌&&◌}
use mathlib.Core.List.{List, [], ◌∷◌}
use mathlib.Core.Logic.{inl, inr, ⊎_elim}
use native.Mathlib.Omega.{arith}
use native.Mathlib.Decide.{ℕ_discrete}
use lib.Dec.{eqb}
use lib.ListN.{length}
use borrow.Author.Tests.{eqb-true, eqb-false, eq-eqb, not-true, not-false}
use Rattle.base.specs.Below.{some, number}
use Rattle.base.proofs.Below.{some_at, number-none}
use Rattle.base.proofs.Choice.{and_true, and_left, and_right, refuted, clash}
use Rattle.records.specs.Instructions.{CHECK}
use Rattle.records.specs.Sets.{number_at, argument_at, checks_at, opens_at}
use Rattle.text.proofs.Below.{some-found, number-one, number-split}
use Rattle.claims.specs.Texts.{Among}

-- different numbers that are all among some are no more than these
pub among-few : (test : ℕ → Bool) (f : ℕ → ℕ) (n : ℕ) (ms : List ℕ) →
    ((j k : ℕ) → j < k → k < n → test j ≡ true → test k ≡ true → f j ≡ f k → ⊥) →
    ((k : ℕ) → k < n → test k ≡ true → Among (f k) ms) → number n test ≤ length ms
among-few test f n [] different among = omega (arith, number-none test n (λ k h. refuted (test k) (λ e. among k h e)))
among-few test f n (m ∷ ms) different among =
    let rest = among-few (λ k. test k && not (is k)) f n ms
    (λ j k l h p q. different j k l h (and_left (test j) (not (is j)) p) (and_left (test k) (not (is k)) q)) others in
    omega (arith, number-split test is n, once, rest)
  where
    is : ℕ → Bool
    is k = eqb (f k) m

    once : number n (λ k. test k && is k) ≤ 1
    once = number-one (λ k. test k && is k) n (λ j k l h p q. different j k l h (and_left (test j) (is j) p) (and_left (test k) (is k) q)
        (eqb-true (f j) m (and_right (test j) (is j) p) ∙ sym (eqb-true (f k) m (and_right (test k) (is k) q))))

    others : (k : ℕ) → k < n → (test k && not (is k)) ≡ true → Among (f k) ms
    others k h e = ⊎_elim
        (λ q. absurd (eqb-false (f k) m (not-true (is k) (and_right (test k) (not (is k)) e)) q)) (λ a. a)
        (among k h (and_left (test k) (not (is k)) e))

module _ (bytes : List ℕ) where
  abbrev is_check : ℕ → Bool
  is_check k = eqb (number_at bytes k) CHECK

  -- the numbers of the first CHECKs among n records
  unfoldable pub firsts : ℕ → List ℕ
  firsts zero = []
  firsts (suc n) = cond (opens_at bytes n) (argument_at bytes n ∷ firsts n) (firsts n)

  pub length-firsts : (n : ℕ) → length (firsts n) ≡ number n (opens_at bytes)
  unfolding firsts number
  length-firsts zero = refl
  length-firsts (suc n) = go (opens_at bytes n) (length-firsts n)
    where
      go : (b : Bool) → length (firsts n) ≡ number n (opens_at bytes) → length (cond b (argument_at bytes n ∷ firsts n) (firsts n)) ≡ number n (opens_at bytes) + cond b 1 0
      go true e = omega arith
      go false e = omega arith

  opens-parts : (k : ℕ) → opens_at bytes k ≡ true → (is_check k ≡ true) × (some k (checks_at bytes (argument_at bytes k)) ≡ false)
  unfolding opens_at
  opens-parts k e =
      let later = some k (checks_at bytes (argument_at bytes k)) in
      (and_left (is_check k) (not later) e, not-true later (and_right (is_check k) (not later) e))

  -- a CHECK that opens nothing has one of its number before it
  opened : (k : ℕ) → is_check k ≡ true → opens_at bytes k ≡ false → (j : ℕ) × (j < k) × (checks_at bytes (argument_at bytes k) j ≡ true)
  unfolding opens_at
  opened k c e = some-found (checks_at bytes (argument_at bytes k)) k (not-false _ (sym (ap (λ (b : Bool). b && not (some k (checks_at bytes (argument_at bytes k)))) c) ∙ e))

  pub firsts-among : (n k : ℕ) → k < n → is_check k ≡ true → Among (argument_at bytes k) (firsts n)
  unfolding firsts
  firsts-among zero k h c = absurd (omega arith)
  firsts-among (suc n) k h c = go (firsts-among n) (opens_at bytes n) refl
    where
      go : ((j : ℕ) → j < n → is_check j ≡ true → Among (argument_at bytes j) (firsts n)) → (b : Bool) → opens_at bytes n ≡ b →
          Among (argument_at bytes k) (cond b (argument_at bytes n ∷ firsts n) (firsts n))
      go before true e = elim (ℕ_discrete k n) [
        | yes q ↦ inl (ap (argument_at bytes) q)
        | no f ↦ inr (before k (omega arith) c)
      ]
      go before false e = elim (ℕ_discrete k n) [
        | yes q ↦
            let r = opened n (sym (ap is_check q) ∙ c) e in
            let same = eqb-true (argument_at bytes r.0) (argument_at bytes n) (and_right (is_check r.0) _ r.2) in
            subst (λ (a : ℕ). Among a (firsts n)) (same ∙ sym (ap (argument_at bytes) q)) (before r.0 r.1 (and_left (is_check r.0) _ r.2))
        | no f ↦ before k (omega arith) c
      ]

  -- numbers that every CHECK's is among are at least as many as the first CHECKs
  pub opens-few : (n : ℕ) (ms : List ℕ) → ((k : ℕ) → k < n → is_check k ≡ true → Among (argument_at bytes k) ms) → number n (opens_at bytes) ≤ length ms
  opens-few n ms among = among-few (opens_at bytes) (argument_at bytes) n ms different (λ k h e. among k h (opens-parts k e).0)
    where
      different : (j k : ℕ) → j < k → k < n → opens_at bytes j ≡ true → opens_at bytes k ≡ true → argument_at bytes j ≡ argument_at bytes k → ⊥
      different j k l h p q e = clash
          (some_at (checks_at bytes (argument_at bytes k)) k j l (and_true (opens-parts j p).0 (eq-eqb (argument_at bytes j) (argument_at bytes k) e)))
          (opens-parts k q).1
