-- The bits that stand for a run: where they are 1, that they stand, and that they name the run. Assumes nothing.
use Prim.Native.Nat.{ℕ, zero, suc, ◌+◌, ◌<◌}
use mathlib.Core.Path.{◌≡◌, refl, ap, sym, ◌∙◌}
use mathlib.Core.Bool.{true}
use mathlib.Core.List.{List, [], ◌∷◌}
use native.Mathlib.Omega.{arith}
use native.Mathlib.Nat.{add-zero}
use lib.Dec.{eqb}
use lib.ListN.{length}
use borrow.Author.Tests.{eqb-true, eq-eqb}
use Rattle.base.proofs.Choice.{and_left, and_right, clash}
use Rattle.records.specs.Sets.{Set}
use Rattle.machine.specs.Machine.{State, actor, step}
use Rattle.machine.specs.Runs.{is_run}
use Rattle.machine.specs.declared.Choice.{Choice}
use Rattle.machine.specs.declared.Choice.TheVariants.{Execute, Flush}
use Rattle.machine.proofs.Runs.{takes-actor, run-first, run-rest}
use Rattle.table.specs.Values.{Assignment}
use Rattle.encoding.specs.Assignments.{named, bits_of}
use Rattle.encoding.proofs.Failing.{Stands}

-- ---- a choice's bits

named-inside : (c : Choice) (kind t : ℕ) → named c kind t ≡ true → (kind < 2) × (t ≡ actor c)
named-inside (Execute u) kind t e = (omega (arith, eqb-true kind 0 (and_left (eqb kind 0) (eqb t u) e)), eqb-true t u (and_right (eqb kind 0) (eqb t u) e))
named-inside (Flush u) kind t e = (omega (arith, eqb-true kind 1 (and_left (eqb kind 1) (eqb t u) e)), eqb-true t u (and_right (eqb kind 1) (eqb t u) e))

-- the kind of a choice's bit
abbrev kind_of : Choice → ℕ
kind_of (Execute t) = 0
kind_of (Flush t) = 1

named-own : (c : Choice) → named c (kind_of c) (actor c) ≡ true
named-own (Execute t) = eq-eqb t t refl
named-own (Flush t) = eq-eqb t t refl

named-apart : (c d : Choice) → ((kind t : ℕ) → named c kind t ≡ named d kind t) → c ≡ d
named-apart (Execute t) (Execute u) f = ap Execute (eqb-true t u (sym (f 0 t) ∙ eq-eqb t t refl))
named-apart (Execute t) (Flush u) f = clash (eq-eqb t t refl) (f 0 t)
named-apart (Flush t) (Execute u) f = clash (eq-eqb t t refl) (f 1 t)
named-apart (Flush t) (Flush u) f = ap Flush (eqb-true t u (sym (f 1 t) ∙ eq-eqb t t refl))

-- ---- a run's bits

pub bits_inside : (S : Set) (s : State) (run : List Choice) → is_run S s run ≡ true → (k kind t : ℕ) → bits_of run k kind t ≡ true →
    (k < length run) × ((kind < 2) × (t < S.threads))
unfolding bits_of
bits_inside S s [] r k kind t e = clash e refl
bits_inside S s (c ∷ run) r zero kind t e =
    let at = named-inside c kind t e in
    (omega arith, (at.0, omega (arith, at.1, takes-actor S s c (run-first S s c run r))))
bits_inside S s (c ∷ run) r (suc k) kind t e =
    let rest = bits_inside S (step S s c) run (run-rest S s c run r) k kind t e in
    (omega (arith, rest.0), rest.1)

pub bits-apart : (run another : List Choice) → ((k kind t : ℕ) → bits_of run k kind t ≡ bits_of another k kind t) → run ≡ another
unfolding bits_of
bits-apart [] [] f = refl
bits-apart [] (d ∷ another) f = clash (named-own d) (sym (f 0 (kind_of d) (actor d)))
bits-apart (c ∷ run) [] f = clash (named-own c) (f 0 (kind_of c) (actor c))
bits-apart (c ∷ run) (d ∷ another) f =
    let first = named-apart c d (f 0) in
    let rest = bits-apart run another (λ k. f (suc k)) in
    λ i. first i ∷ rest i

-- ---- bits that stand for a run

module _ (S : Set) (cs : List ℕ) (g : Assignment) where
  stands_from : (n k : ℕ) (run : List Choice) → ((j kind t : ℕ) → g.choice (k + j) kind t ≡ bits_of run j kind t) → Stands S cs g k n run
  unfolding bits_of
  stands_from zero k run f = tt
  stands_from (suc n) k [] f = (
    λ kind t h l. ap (λ i. g.choice i kind t) (sym (add-zero k)) ∙ f 0 kind t,
    stands_from n (suc k) [] (λ j kind t. let e : suc k + j ≡ k + suc j = omega arith in ap (λ i. g.choice i kind t) e ∙ f (suc j) kind t),
  )
  stands_from (suc n) k (c ∷ run) f = (
    λ kind t h l. ap (λ i. g.choice i kind t) (sym (add-zero k)) ∙ f 0 kind t,
    stands_from n (suc k) run (λ j kind t. let e : suc k + j ≡ k + suc j = omega arith in ap (λ i. g.choice i kind t) e ∙ f (suc j) kind t),
  )

  pub stands_in : (n : ℕ) (run : List Choice) → ((k kind t : ℕ) → g.choice k kind t ≡ bits_of run k kind t) → Stands S cs g 0 n run
  stands_in n run f = stands_from n 0 run (λ j kind t. let e : 0 + j ≡ j = omega arith in ap (λ i. g.choice i kind t) e ∙ f j kind t)

  stands_at : (n k : ℕ) (run : List Choice) → Stands S cs g k n run → (j kind t : ℕ) → j < n → kind < 2 → t < S.threads → g.choice (k + j) kind t ≡ bits_of run j kind t
  unfolding bits_of
  stands_at zero k run st j kind t h l m = absurd (omega arith)
  stands_at (suc n) k [] st zero kind t h l m = ap (λ i. g.choice i kind t) (add-zero k) ∙ st.0 kind t l m
  stands_at (suc n) k [] st (suc j) kind t h l m =
      let e : k + suc j ≡ suc k + j = omega arith in
      ap (λ i. g.choice i kind t) e ∙ stands_at n (suc k) [] st.1 j kind t (omega arith) l m
  stands_at (suc n) k (c ∷ run) st zero kind t h l m = ap (λ i. g.choice i kind t) (add-zero k) ∙ st.0 kind t l m
  stands_at (suc n) k (c ∷ run) st (suc j) kind t h l m =
      let e : k + suc j ≡ suc k + j = omega arith in
      ap (λ i. g.choice i kind t) e ∙ stands_at n (suc k) run st.1 j kind t (omega arith) l m

  pub stands-out : (n : ℕ) (run : List Choice) → Stands S cs g 0 n run → (k kind t : ℕ) → k < n → kind < 2 → t < S.threads → g.choice k kind t ≡ bits_of run k kind t
  stands-out n run st k kind t h l m = let e : k ≡ 0 + k = omega arith in ap (λ i. g.choice i kind t) e ∙ stands_at n 0 run st k kind t h l m
