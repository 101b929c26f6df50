-- The choice bits of a well-formed table have the steps and threads that the table is for: they fit their bytes. Assumes nothing.
use Prim.Native.Nat.{ℕ, zero, suc, ◌+◌, ◌≤◌, ◌<◌}
use mathlib.Core.Path.{◌≡◌, sym, subst}
use mathlib.Core.List.{List, [], ◌∷◌, ◌++◌}
use native.Mathlib.Omega.{arith}
use borrow.Author.Tests.{eq-eqb}
use Rattle.base.proofs.Choice.{chosen}
use Rattle.table.specs.Formulas.{CHOICE, GOAL}
use Rattle.table.specs.Tables.{occurrences, bits, choice_bits, steps, Inner, InOrder, WellFormedTable}
use Rattle.table.specs.declared.Formula.{Formula}
use Rattle.evaluation.proofs.Tables.{SmallChoices}
use Rattle.evaluation.proofs.Views.{SmallChoice}

abbrev All : List Formula → Type 0
All [] = Unit {0}
All (f ∷ table) = SmallChoice f × All table

all-at : (table : List Formula) → All table → SmallChoices table
all-at [] h j l = absurd (omega arith)
all-at (f ∷ table) h zero l = h.0
all-at (f ∷ table) h (suc j) l = all-at table h.1 j (omega arith)

all-++ : (first second : List Formula) → All first → All second → All (first ++ second)
all-++ [] second p q = q
all-++ (f ∷ first) second p q = (p.0, all-++ first second p.1 q)

-- a part without choice bits
all_none : (part : List Formula) → occurrences CHOICE part ≡ 0 → All part
unfolding occurrences
all_none [] e = tt
all_none (f ∷ part) e = (λ (h : f.operation ≡ CHOICE). absurd (omega (arith, chosen {A = ℕ} 1 0 (eq-eqb f.operation CHOICE h), e)), all_none part (omega arith))

all-bits : (k kind t n : ℕ) → k < 4294967296 → t + n ≤ 4294967296 → All (bits k kind t n)
unfolding bits
all-bits k kind t zero h l = tt
all-bits k kind t (suc n) h l = (λ e. (h, omega arith), all-bits k kind (suc t) n h (omega arith))

module _ (threads bound : ℕ) (few : threads ≤ 4294967296) (short : bound ≤ 4294967296) where
  all-steps : (inner : ℕ → List Formula) → ((k : ℕ) → k < bound → Inner (inner k)) → (n k : ℕ) → k + n ≤ bound → All (steps threads inner k n)
  unfolding steps choice_bits
  all-steps inner h zero k l = tt
  all-steps inner h (suc n) k l =
      let p : k < 4294967296 = omega arith in
      all-++ (bits k 0 0 threads ++ bits k 1 0 threads) (inner k ++ steps threads inner (suc k) n)
      (all-++ (bits k 0 0 threads) (bits k 1 0 threads) (all-bits k 0 0 threads p (omega arith)) (all-bits k 1 0 threads p (omega arith)))
      (all-++ (inner k) (steps threads inner (suc k) n) (all_none (inner k) (h k (omega arith)).no_choice) (all-steps inner h n (suc k) (omega arith)))

  pub small-choices : (cells : ℕ) (table : List Formula) → WellFormedTable threads bound cells table → SmallChoices table
  small-choices cells table formed = all-at table (go formed.order)
    where
      go : InOrder threads bound cells table → All table
      go o =
          subst All (sym o.parts)
          (all-++ o.starts (o.maps ++ (steps threads o.inner 0 bound ++ (o.last ∷ []))) (all_none o.starts o.starts_inner.no_choice)
          (all-++ o.maps (steps threads o.inner 0 bound ++ (o.last ∷ [])) (all_none o.maps o.maps_inner.no_choice)
          (all-++ (steps threads o.inner 0 bound) (o.last ∷ []) (all-steps o.inner o.steps_inner bound 0 (omega arith))
          (λ (e : o.last.operation ≡ CHOICE). absurd (let g : o.last.operation ≡ GOAL = o.goal in omega arith), tt))))
