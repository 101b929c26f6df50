-- The first of the eight candidates that can be taken is the lowest choice. Assumes nothing.
use Prim.Native.Nat.{ℕ, zero, suc, ◌+◌, ◌-◌, ◌≤◌, ◌<◌}
use mathlib.Core.Bool.{Bool, true, false, cond, not, ◌&&◌}
use mathlib.Core.Path.{◌≡◌, refl, ap, sym, subst, ◌∙◌}
use native.Mathlib.Decide.{dec_lt, ℕ_discrete}
use native.Mathlib.Omega.{arith}
use lib.Dec.{ltb}
use borrow.Author.Tests.{lt-ltb, le-ltb, ltb-false}
use Rattle.base.proofs.Below.{least-below, least-hit, least-none, least-passes}
use Rattle.base.proofs.Choice.{chosen, passed, and_right, clash}
use Rattle.base.specs.Below.{least}
use Rattle.records.specs.Sets.{Set}
use Rattle.machine.proofs.Runs.{takes-actor}
use Rattle.machine.specs.Machine.{State, permitted}
use Rattle.machine.specs.Runs.{choice_of, takes, flush_byte}
use Rattle.machine.specs.declared.Choice.{Choice}
use Rattle.machine.specs.declared.Choice.TheVariants.{Execute, Flush}
use Rattle.listing_output.specs.Listings.{lowest}
use Rattle.listing_output.specs.Schedules.{candidate}

-- ---- the least number that passes

module _ (test : ℕ → Bool) where
  -- those before it do not pass
  before-least : (n k : ℕ) → k < least n test → test k ≡ false
  unfolding least
  before-least zero k h = absurd (omega arith)
  before-least (suc n) k h = go (before-least n k) (ltb (least n test) n) refl (test n) refl
    where
      go : (k < least n test → test k ≡ false) → (a : Bool) → ltb (least n test) n ≡ a → (b : Bool) → test n ≡ b → test k ≡ false
      go ih true e b f = let l : least (suc n) test ≡ least n test = chosen _ _ e in ih (omega arith)
      go ih false e true f =
          let l : least (suc n) test ≡ n = passed _ _ e ∙ chosen _ _ f in
          let m = ltb-false (least n test) n e in
          ih (omega arith)
      go ih false e false f = elim (ℕ_discrete k n) [
        | yes p ↦ ap test p ∙ f
        | no p ↦
            let l : least (suc n) test ≡ suc n = passed _ _ e ∙ passed _ _ f in
            let m = ltb-false (least n test) n e in
            ih (omega arith)
      ]

  least-is : (n i : ℕ) → ((k : ℕ) → k < i → test k ≡ false) → test i ≡ true → i < n → least n test ≡ i
  least-is n i f e h = least-hit test n i (least-none test i f) e h

-- ---- the candidates

executes : (j : ℕ) → j < 4 → choice_of (candidate j) ≡ Execute j
unfolding choice_of
executes j h = ap choice_of (chosen _ _ (lt-ltb j 4 h)) ∙ chosen _ _ (lt-ltb j flush_byte (omega arith))

flushes : (t : ℕ) → choice_of (candidate (4 + t)) ≡ Flush t
unfolding choice_of
flushes t = ap choice_of (passed _ _ (le-ltb (4 + t) 4 (omega arith))) ∙ passed _ _ (le-ltb (flush_byte + (4 + t - 4)) flush_byte (omega arith)) ∙ ap Flush (omega arith)

module _ (S : Set) (four : S.threads ≤ 4) (s : State) where
  -- candidate j can be taken
  abbrev pub can : ℕ → Bool
  can j = takes S s (choice_of (candidate j))

  -- what can be taken is permitted, and all else is not permitted where the machine has not ended
  permitted-taken : (c : Choice) → takes S s c ≡ true → permitted S s c ≡ true
  permitted-taken c e = and_right (not s.ended) (permitted S s c) e

  not-permitted : (c d : Choice) → takes S s c ≡ true → takes S s d ≡ false → permitted S s d ≡ false
  not-permitted c d e f = sym (ap (λ (b : Bool). b && permitted S s d) (running c e)) ∙ f
    where
      running : (c : Choice) → takes S s c ≡ true → not s.ended ≡ true
      running c e = first (not s.ended) (permitted S s c) e
        where
          first : (a b : Bool) → (a && b) ≡ true → a ≡ true
          first true b e = refl
          first false b e = e

  -- the lowest choice, where the j candidates before it cannot be taken and it can
  lowest-is : (j : ℕ) → j < 8 → ((k : ℕ) → k < j → can k ≡ false) → can j ≡ true → lowest S s ≡ choice_of (candidate j)
  unfolding lowest
  lowest-is j h f e = elim (dec_lt j 4) [
    | yes l ↦
        let c = executes j l in
        let t : takes S s (Execute j) ≡ true = subst (λ (d : Choice). takes S s d ≡ true) c e in
        let none : (k : ℕ) → k < j → permitted S s (Execute k) ≡ false
        = λ k b. not-permitted (Execute j) (Execute k) t (subst (λ (d : Choice). takes S s d ≡ false) (executes k (omega arith)) (f k b)) in
        let at = least-is (λ k. permitted S s (Execute k)) S.threads j none (permitted-taken (Execute j) t) (takes-actor S s (Execute j) t) in
        ap (λ (i : ℕ). cond (ltb i S.threads) (Execute i) (Flush (least S.threads (λ k. permitted S s (Flush k))))) at
        ∙ chosen _ _ (lt-ltb j S.threads (takes-actor S s (Execute j) t)) ∙ sym c
    | no l ↦
        let u = j - 4 in
        let i : j ≡ 4 + u = omega arith in
        let c : choice_of (candidate j) ≡ Flush u = ap (λ (k : ℕ). choice_of (candidate k)) i ∙ flushes u in
        let t : takes S s (Flush u) ≡ true = subst (λ (d : Choice). takes S s d ≡ true) c e in
        let no_execute : (k : ℕ) → k < S.threads → permitted S s (Execute k) ≡ false
        = λ k b. not-permitted (Flush u) (Execute k) t (subst (λ (d : Choice). takes S s d ≡ false) (executes k (omega arith)) (f k (omega arith))) in
        let no_flush : (k : ℕ) → k < u → permitted S s (Flush k) ≡ false
        = λ k b. not-permitted (Flush u) (Flush k) t (subst (λ (d : Choice). takes S s d ≡ false) (flushes k) (f (4 + k) (omega arith))) in
        let at = least-is (λ k. permitted S s (Flush k)) S.threads u no_flush (permitted-taken (Flush u) t) (takes-actor S s (Flush u) t) in
        ap (λ (i : ℕ). cond (ltb i S.threads) (Execute i) (Flush (least S.threads (λ k. permitted S s (Flush k))))) (least-none (λ k. permitted S s (Execute k)) S.threads no_execute)
        ∙ passed _ _ (le-ltb S.threads S.threads (omega arith)) ∙ ap Flush at ∙ sym c
  ]

  -- where none of the eight can be taken, nothing can
  none-taken : ((k : ℕ) → k < 8 → can k ≡ false) → (c : Choice) → takes S s c ≡ false
  none-taken f c = go (takes S s c) refl
    where
      by : (c : Choice) → takes S s c ≡ true → takes S s c ≡ false
      by (Execute t) e =
          let l = takes-actor S s (Execute t) e in
          subst (λ (d : Choice). takes S s d ≡ false) (executes t (omega arith)) (f t (omega arith))
      by (Flush t) e =
          let l = takes-actor S s (Flush t) e in
          subst (λ (d : Choice). takes S s d ≡ false) (flushes t) (f (4 + t) (omega arith))

      go : (b : Bool) → takes S s c ≡ b → takes S s c ≡ false
      go true e = by c e
      go false e = e

  -- the candidate that the code finds
  abbrev pub found : Choice
  found = choice_of (candidate (least 7 can))

  pub found-lowest : takes S s found ≡ true → lowest S s ≡ found
  found-lowest e = lowest-is (least 7 can) (omega (arith, least-below can 7)) (before-least can 7) e

  pub found_none : takes S s found ≡ false → takes S s (lowest S s) ≡ false
  found_none e = none-taken all (lowest S s)
    where
      last : least 7 can ≡ 7
      last = elim (dec_lt (least 7 can) 7) [
        | yes h ↦ clash (least-passes can 7 h) e
        | no h ↦ omega (arith, least-below can 7)
      ]

      all : (k : ℕ) → k < 8 → can k ≡ false
      all k h = elim (ℕ_discrete k 7) [
        | yes p ↦ ap can (p ∙ sym last) ∙ e
        | no p ↦ before-least can 7 k (omega (arith, last))
      ]
