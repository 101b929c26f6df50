-- Which choices are permitted, test by test as the code goes. Assumes nothing.
use Prim.Native.Nat.{◌<◌, ◌≤◌}
use mathlib.Core.Path.{◌≡◌, refl, ap, sym, ◌∙◌}
use mathlib.Core.Bool.{Bool, true, false, not, ◌&&◌, ◌||◌}
use borrow.Author.Tests.{lt-ltb, le-ltb}
use lib.Dec.{ltb}
use Rattle.base.proofs.Choice.{and_false, clash}
use Rattle.records.specs.Sets.{Set}
use Rattle.machine.specs.Held.{permitted_by}
use Rattle.machine.specs.Machine.{State, current, actor, waiting, permitted}
use Rattle.machine.specs.declared.Choice.{Choice}
use Rattle.machine.specs.declared.Choice.TheVariants.{Execute, Flush}

-- ---- executing: h halted, n needs an empty buffer, f full, on marked, o the checkpoint open

pub blocked_not : (h n f w : Bool) → (h || f && n) ≡ true → (not h && not w && (not n || not f)) ≡ false
blocked_not true n f w e = refl
blocked_not false true true true e = refl
blocked_not false true true false e = refl
blocked_not false true false true e = refl
blocked_not false true false false e = sym e
blocked_not false false true true e = refl
blocked_not false false true false e = sym e
blocked_not false false false true e = refl
blocked_not false false false false e = sym e

pub free_may : (h n f w : Bool) → (h || f && n) ≡ false → not w ≡ (not h && not w && (not n || not f))
free_may true n f w e = clash refl e
free_may false true true true e = refl
free_may false true true false e = e
free_may false true false true e = refl
free_may false true false false e = refl
free_may false false true true e = refl
free_may false false true false e = refl
free_may false false false true e = refl
free_may false false false false e = refl

pub not-not : (b : Bool) → not (not b) ≡ b
not-not true = refl
not-not false = refl

-- ---- a choice is permitted where its thread is there and it is allowed

module _ (S : Set) (s : State) where
  four_and : (a b c d : Bool) → (a && b && c && d) ≡ (a && (b && c && d))
  four_and true b c d = refl
  four_and false b c d = refl

  pub permitted-is : (c : Choice) →
      permitted S s c ≡ (ltb (actor c) S.threads && permitted_by c (current S s (actor c)) (s.threads (actor c)) (waiting S s.marks (actor c)))
  unfolding permitted
  permitted-is (Execute t) = four_and (ltb t S.threads) (not (s.threads t).halted) (not (waiting S s.marks t)) _
  permitted-is (Flush t) = refl

  pub no-thread : (c : Choice) → S.threads ≤ actor c → permitted S s c ≡ false
  no-thread c h = permitted-is c ∙ and_false (permitted_by c (current S s (actor c)) (s.threads (actor c)) (waiting S s.marks (actor c))) (le-ltb _ _ h)

  pub thread_may : (c : Choice) → actor c < S.threads →
      permitted S s c ≡ permitted_by c (current S s (actor c)) (s.threads (actor c)) (waiting S s.marks (actor c))
  thread_may c h = permitted-is c ∙ ap (λ (b : Bool). b && permitted_by c (current S s (actor c)) (s.threads (actor c)) (waiting S s.marks (actor c))) (lt-ltb _ _ h)
