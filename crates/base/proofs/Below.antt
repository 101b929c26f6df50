-- Laws of tests over the numbers below a bound: what one turn of a loop over them needs. Assumes nothing.
use Rattle.std.proofs.Common.{◌≡◌, ℕ, zero, suc, ◌+◌, ◌<◌, ◌≤◌, Bool, true, false, cond, eqb, ltb, refl, ap, ◌∙◌, ap₂, add-one, arith, ltb-true, le-ltb, lt-ltb, eq-eqb, ne_eqb}
use native.Mathlib.Decide.{ℕ_discrete, dec_lt}
use Rattle.base.specs.Below.{every, some, number, least}
use Rattle.base.proofs.Choice.{chosen, passed, and_true, and_false, and_right_false, and_left, and_right, or_true, or_false, or_right_true, cond_both}

module _ (test : ℕ → Bool) where
  -- ---- every

  pub every_more : (i : ℕ) → every i test ≡ true → test i ≡ true → every (i + 1) test ≡ true
  unfolding every
  every_more i p q = rw add-one (and_true p q)

  -- one that does not pass
  pub every-not : (n i : ℕ) → i < n → test i ≡ false → every n test ≡ false
  unfolding every
  every-not zero i h e = absurd (omega arith)
  every-not (suc n) i h e = elim (ℕ_discrete i n) [
    | yes p ↦ and_right_false (every n test) (rw (← p) e)
    | no p ↦ and_false (test n) (every-not n i (omega arith) e)
  ]

  pub every-at : (n i : ℕ) → every n test ≡ true → i < n → test i ≡ true
  unfolding every
  every-at zero i p h = absurd (omega arith)
  every-at (suc n) i p h = elim (ℕ_discrete i n) [
    | yes e ↦ rw e (and_right (every n test) (test n) p)
    | no e ↦ every-at n i (and_left (every n test) (test n) p) (omega arith)
  ]

  pub every-all : (n : ℕ) → ((i : ℕ) → i < n → test i ≡ true) → every n test ≡ true
  unfolding every
  every-all zero f = refl
  every-all (suc n) f = and_true (every-all n (λ i h. f i (omega arith))) (f n (omega arith))

  -- ---- some

  pub some_more : (i : ℕ) → some i test ≡ false → test i ≡ false → some (i + 1) test ≡ false
  unfolding some
  some_more i p q = rw add-one (or_false p q)

  pub some_at : (n i : ℕ) → i < n → test i ≡ true → some n test ≡ true
  unfolding some
  some_at zero i h e = absurd (omega arith)
  some_at (suc n) i h e = elim (ℕ_discrete i n) [
    | yes p ↦ or_right_true (some n test) (rw (← p) e)
    | no p ↦ or_true (test n) (some_at n i (omega arith) e)
  ]

  -- ---- number

  pub number_more : (i : ℕ) → test i ≡ true → number (i + 1) test ≡ number i test + 1
  unfolding number
  number_more i e = rw add-one (ap (λ (k : ℕ). number i test + k) (chosen 1 0 e))

  pub number_same : (i : ℕ) → test i ≡ false → number (i + 1) test ≡ number i test
  unfolding number
  number_same i e = rw add-one (ap (λ (k : ℕ). number i test + k) (passed 1 0 e) ∙ omega arith)

  pub number-next : (i : ℕ) → number (i + 1) test ≡ number i test + cond (test i) 1 0
  unfolding number
  number-next i = rw add-one

  pub number-below : (n : ℕ) → number n test ≤ n
  unfolding number
  number-below zero = omega arith
  number-below (suc n) = cond_both (λ (k : ℕ). number n test + k ≤ suc n) (test n) (omega (arith, number-below n)) (omega (arith, number-below n))

  pub number-grows : (k n : ℕ) → k ≤ n → number k test ≤ number n test
  unfolding number
  number-grows k zero h = let e : k ≡ 0 = omega arith in rw e (omega arith)
  number-grows k (suc n) h = elim (ℕ_discrete k (suc n)) [
    | yes e ↦ rw e (omega arith)
    | no e ↦ omega (arith, number-grows k n (omega arith))
  ]

  -- none passes from k on
  pub number-stays : (k n : ℕ) → k ≤ n → ((i : ℕ) → k ≤ i → i < n → test i ≡ false) → number n test ≡ number k test
  unfolding number
  number-stays k zero h f = let e : k ≡ 0 = omega arith in rw e
  number-stays k (suc n) h f = elim (ℕ_discrete k (suc n)) [
    | yes e ↦ rw e
    | no e ↦ omega (arith, passed {A = ℕ} 1 0 (f n (omega arith) (omega arith)), number-stays k n (omega arith) (λ i p q. f i p (omega arith)))
  ]

  pub number-none : (n : ℕ) → ((i : ℕ) → i < n → test i ≡ false) → number n test ≡ 0
  unfolding number
  number-none n f = number-stays 0 n (omega arith) (λ i p q. f i q)

  pub number-all : (n : ℕ) → ((i : ℕ) → i < n → test i ≡ true) → number n test ≡ n
  unfolding number
  number-all zero f = refl
  number-all (suc n) f = omega (arith, chosen {A = ℕ} 1 0 (f n (omega arith)), number-all n (λ i q. f i (omega arith)))

  -- ---- least

  pub least-below : (n : ℕ) → least n test ≤ n
  unfolding least
  least-below zero = omega arith
  least-below (suc n) = cond_both (λ (k : ℕ). k ≤ suc n) (ltb (least n test) n) (omega (arith, least-below n)) (cond_both (λ (k : ℕ). k ≤ suc n) (test n) (omega arith) (omega arith))

  -- none of those looked at so far passes
  pub least_more : (i : ℕ) → least i test ≡ i → test i ≡ false → least (i + 1) test ≡ i + 1
  unfolding least
  least_more i p q = rw (add-one, p) (passed _ _ (le-ltb i i (omega arith)) ∙ passed _ _ q)

  pub least_stays : (n k : ℕ) → least n test < n → n ≤ k → least k test ≡ least n test
  unfolding least
  least_stays n zero p h = absurd (omega arith)
  least_stays n (suc k) p h = elim (ℕ_discrete n (suc k)) [
    | yes e ↦ rw e
    | no e ↦ let ih = least_stays n k p (omega arith) in rw ih (chosen _ _ (lt-ltb (least n test) k (omega arith)))
  ]

  -- the first one that passes
  pub least-hit : (n i : ℕ) → least i test ≡ i → test i ≡ true → i < n → least n test ≡ i
  unfolding least
  least-hit n i p q h = least_stays (suc i) n (rw at_i (omega arith)) (omega arith) ∙ at_i
    where
      at_i : least (suc i) test ≡ i
      at_i = rw p (passed _ _ (le-ltb i i (omega arith)) ∙ chosen _ _ q)

  -- what is found passes
  pub least-passes : (n : ℕ) → least n test < n → test (least n test) ≡ true
  unfolding least
  least-passes zero h = absurd (omega arith)
  least-passes (suc n) h = go (least-passes n) (ltb (least n test) n) refl (test n) refl
    where
      go : (least n test < n → test (least n test) ≡ true) → (b : Bool) → ltb (least n test) n ≡ b → (c : Bool) → test n ≡ c → test (cond (ltb (least n test) n) (least n test) (cond (test n) n (suc n))) ≡ true
      go ih true e c f = ap test (chosen _ _ e) ∙ ih (ltb-true _ _ e)
      go ih false e true f = ap test (passed _ _ e ∙ chosen _ _ f) ∙ f
      go ih false e false f = absurd (let k : cond (ltb (least n test) n) (least n test) (cond (test n) n (suc n)) ≡ suc n = passed _ _ e ∙ passed _ _ f in omega arith)

-- those whose place is below t, and those at t, are those whose place is below t + 1
pub number_up : (place : ℕ → ℕ) (n t : ℕ) → number n (λ k. ltb (place k) (suc t)) ≡ number n (λ k. ltb (place k) t) + number n (λ k. eqb (place k) t)
unfolding number
number_up place zero t = refl
number_up place (suc n) t = omega (arith, number_up place n t, one (place n) t)
  where
    one : (a t : ℕ) → cond (ltb a (suc t)) 1 0 ≡ cond (ltb a t) 1 0 + cond (eqb a t) 1 0
    one a t = elim (dec_lt a t) [
      | yes h ↦ omega (arith, chosen {A = ℕ} 1 0 (lt-ltb a (suc t) (omega arith)), chosen {A = ℕ} 1 0 (lt-ltb a t h), passed {A = ℕ} 1 0 (ne_eqb a t (omega arith)))
      | no h ↦ elim (ℕ_discrete a t) [
        | yes e ↦ omega (arith, chosen {A = ℕ} 1 0 (lt-ltb a (suc t) (omega arith)), passed {A = ℕ} 1 0 (le-ltb a t (omega arith)), chosen {A = ℕ} 1 0 (eq-eqb a t e))
        | no f ↦ omega (arith, passed {A = ℕ} 1 0 (le-ltb a (suc t) (omega arith)), passed {A = ℕ} 1 0 (le-ltb a t (omega arith)), passed {A = ℕ} 1 0 (ne_eqb a t f))
      ]
    ]

-- tests that agree below the bound find the same
pub least_ext : (f g : ℕ → Bool) (n : ℕ) → ((k : ℕ) → k < n → f k ≡ g k) → least n f ≡ least n g
unfolding least
least_ext f g zero e = refl
least_ext f g (suc n) e =
    let ih = least_ext f g n (λ k h. e k (omega arith)) in
    ap₂ (λ (i : ℕ) (b : Bool). cond (ltb i n) i (cond b n (suc n))) ih (e n (omega arith))

-- ---- a `match` over the k numbers from a on: what its last arm knows

-- n is none of these numbers
abbrev pub NoneFrom : ℕ → ℕ → ℕ → Type 0
NoneFrom a zero n = Unit
NoneFrom a (suc k) n = NoneFrom a k n × (n ≡ a + k → ⊥)

pub none_from : (a k n : ℕ) → a ≤ n → NoneFrom a k n → a + k ≤ n
none_from a zero n h r = omega arith
none_from a (suc k) n h r = omega (arith, none_from a k n h r.0, r.1)

-- the tests agree below the bound
pub number_ext : (f g : ℕ → Bool) (n : ℕ) → ((k : ℕ) → k < n → f k ≡ g k) → number n f ≡ number n g
unfolding number
number_ext f g zero e = refl
number_ext f g (suc n) e =
    ap₂ (λ (k : ℕ) (b : Bool). k + cond b 1 0) (number_ext f g n (λ k h. e k (omega arith))) (e n (omega arith))

-- one number more, as a successor
pub number-yes : (test : ℕ → Bool) (n : ℕ) → test n ≡ true → number (suc n) test ≡ suc (number n test)
unfolding number
number-yes test n e = omega (arith, chosen {A = ℕ} 1 0 e)

pub number-no : (test : ℕ → Bool) (n : ℕ) → test n ≡ false → number (suc n) test ≡ number n test
unfolding number
number-no test n e = omega (arith, passed {A = ℕ} 1 0 e)

-- none passes
pub least-none : (test : ℕ → Bool) (n : ℕ) → ((i : ℕ) → i < n → test i ≡ false) → least n test ≡ n
unfolding least
least-none test zero f = refl
least-none test (suc n) f =
    let before = least-none test n (λ i h. f i (omega arith)) in
    passed _ _ (le-ltb (least n test) n (omega arith)) ∙ passed _ _ (f n (omega arith))

pub some-none : (test : ℕ → Bool) (n : ℕ) → ((i : ℕ) → i < n → test i ≡ false) → some n test ≡ false
unfolding some
some-none test zero f = refl
some-none test (suc n) f = or_false (some-none test n (λ i h. f i (omega arith))) (f n (omega arith))
