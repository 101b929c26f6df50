-- The run that decoding reads from a run's own bits is that run. Assumes nothing.
use Prim.Native.Nat.{ℕ, zero, suc, ◌+◌, ◌-◌, ◌≤◌, ◌<◌}
use mathlib.Core.Path.{◌≡◌, refl, ap, ap₂, sym, ◌∙◌}
use mathlib.Core.Bool.{Bool, true, false}
use mathlib.Core.List.{List, [], ◌∷◌}
use native.Mathlib.Omega.{arith}
use native.Mathlib.Nat.{add-zero}
use lib.Dec.{ltb}
use lib.ListN.{length}
use borrow.Author.Tests.{ltb-false, lt-ltb, le-ltb, eq-eqb, ne_eqb}
use Rattle.base.specs.Below.{some, least}
use Rattle.base.proofs.Below.{some_at, least-hit, least-none}
use Rattle.base.proofs.Choice.{chosen, passed, refuted, clash}
use Rattle.records.specs.Sets.{Set}
use Rattle.machine.specs.Machine.{State, actor, step}
use Rattle.machine.specs.Runs.{is_run}
use Rattle.machine.specs.declared.Choice.{Choice}
use Rattle.machine.specs.declared.Choice.TheVariants.{Execute, Flush}
use Rattle.machine.proofs.Runs.{takes-actor, run-first, run-rest}
use Rattle.table.specs.Values.{Assignment}
use Rattle.encoding.specs.Assignments.{named, bits_of, assignment_of}
use Rattle.encoding.proofs.Tests.{some-passes}
use Rattle.decoding.specs.Decodings.{bit_at, choice_number, run_from, run_of}

module _ (threads : ℕ) (g : Assignment) where
  -- the place of a choice's bit in a step
  abbrev place_of : Choice → ℕ
  place_of (Execute t) = t
  place_of (Flush t) = threads + t

  place-below : (c : Choice) → actor c < threads → place_of c < threads + threads
  place-below (Execute t) h = omega arith
  place-below (Flush t) h = omega arith

  number-place : (c : Choice) → actor c < threads → choice_number threads (place_of c) ≡ c
  number-place (Execute t) h = chosen _ _ (lt-ltb t threads h)
  number-place (Flush t) h = passed _ _ (le-ltb (threads + t) threads (omega arith)) ∙ ap Flush (omega arith)

  module _ (k : ℕ) (c : Choice) (h : actor c < threads) (names : (kind t : ℕ) → g.choice k kind t ≡ named c kind t) where
    own-bit : bit_at threads g k (place_of c) ≡ true
    own-bit = go c h names
      where
        go : (d : Choice) → actor d < threads → ((kind t : ℕ) → g.choice k kind t ≡ named d kind t) → bit_at threads g k (place_of d) ≡ true
        go (Execute t) l f = chosen _ _ (lt-ltb t threads l) ∙ f 0 t ∙ eq-eqb t t refl
        go (Flush t) l f =
            let e : threads + t - threads ≡ t = omega arith in
            passed _ _ (le-ltb (threads + t) threads (omega arith)) ∙ ap (g.choice k 1) e ∙ f 1 t ∙ eq-eqb t t refl

    other-bits : (j : ℕ) → j < place_of c → bit_at threads g k j ≡ false
    other-bits j l = go c names l (ltb j threads) refl
      where
        go : (d : Choice) → ((kind t : ℕ) → g.choice k kind t ≡ named d kind t) → j < place_of d → (b : Bool) → ltb j threads ≡ b → bit_at threads g k j ≡ false
        go (Execute t) f m true e = chosen _ _ e ∙ f 0 j ∙ ne_eqb j t (omega arith)
        go (Execute t) f m false e = passed _ _ e ∙ f 1 (j - threads)
        go (Flush t) f m true e = chosen _ _ e ∙ f 0 j
        go (Flush t) f m false e =
            let n = ltb-false j threads e in
            passed _ _ e ∙ f 1 (j - threads) ∙ ne_eqb (j - threads) t (λ (q : j - threads ≡ t). omega arith)

    bit_found : some (threads + threads) (bit_at threads g k) ≡ true
    bit_found = some_at (bit_at threads g k) (threads + threads) (place_of c) (place-below c h) own-bit

    choice-found : choice_number threads (least (threads + threads) (bit_at threads g k)) ≡ c
    choice-found =
        ap (choice_number threads) (least-hit (bit_at threads g k) (threads + threads) (place_of c)
        (least-none (bit_at threads g k) (place_of c) other-bits) own-bit (place-below c h))
        ∙ number-place c h

  no-bit : (k : ℕ) → ((kind t : ℕ) → g.choice k kind t ≡ false) → some (threads + threads) (bit_at threads g k) ≡ false
  no-bit k f = refuted (some (threads + threads) (bit_at threads g k)) (λ e.
      let r = some-passes (bit_at threads g k) (threads + threads) e in
      clash r.1.1 (none r.0 (ltb r.0 threads) refl))
    where
      none : (j : ℕ) (b : Bool) → ltb j threads ≡ b → bit_at threads g k j ≡ false
      none j true e = chosen _ _ e ∙ f 0 j
      none j false e = passed _ _ e ∙ f 1 (j - threads)

module _ (S : Set) (g : Assignment) where
  run-from : (n k : ℕ) (s : State) (run : List Choice) → is_run S s run ≡ true → length run ≤ n →
      ((j kind t : ℕ) → g.choice (k + j) kind t ≡ bits_of run j kind t) → run_from S.threads g k n ≡ run
  unfolding run_from bits_of
  run-from zero k s [] r h f = refl
  run-from zero k s (c ∷ run) r h f = absurd (omega arith)
  run-from (suc n) k s [] r h f =
      passed _ _ (no-bit S.threads g k (λ kind t. ap (λ (i : ℕ). g.choice i kind t) (sym (add-zero k)) ∙ f 0 kind t))
  run-from (suc n) k s (c ∷ run) r h f =
      let l = takes-actor S s c (run-first S s c run r) in
      let names : (kind t : ℕ) → g.choice k kind t ≡ named c kind t = λ kind t. ap (λ (i : ℕ). g.choice i kind t) (sym (add-zero k)) ∙ f 0 kind t in
      let rest = run-from n (suc k) (step S s c) run (run-rest S s c run r) (omega arith)
      (λ j kind t. let e : suc k + j ≡ k + suc j = omega arith in ap (λ (i : ℕ). g.choice i kind t) e ∙ f (suc j) kind t) in
      chosen _ _ (bit_found S.threads g k c l names) ∙ ap₂ ◌∷◌ (choice-found S.threads g k c l names) rest

pub run_of_lem : (S : Set) (bound : ℕ) (s : State) (memory : ℕ → ℕ) (run : List Choice) → is_run S s run ≡ true → length run ≤ bound →
    run_of S.threads bound (assignment_of memory run) ≡ run
run_of_lem S bound s memory run r h =
    run-from S (assignment_of memory run) bound 0 s run r h (λ j kind t. let e : 0 + j ≡ j = omega arith in ap (λ (i : ℕ). bits_of run i kind t) e)
