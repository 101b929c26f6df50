-- Records that count up by thread and pc without gaps: where each one stands. Assumes nothing.
use Prim.Native.Nat.{ℕ, zero, suc, ◌+◌, ◌-◌, ◌≤◌, ◌<◌}
use mathlib.Core.Path.{◌≡◌, refl, ap}
use mathlib.Core.Logic.{◌⊎◌, ⊎_elim}
use native.Mathlib.Omega.{arith}
use native.Mathlib.Numerals.{add-one}
use native.Mathlib.Decide.{ℕ_discrete, dec_lt}
use lib.Dec.{eqb, ltb}
use borrow.Author.Tests.{lt-ltb, le-ltb, eq-eqb, ne_eqb}
use Rattle.base.specs.Below.{number}
use Rattle.base.proofs.Below.{number_more, number_same, number-below, number-grows, number-stays, number-none, number-all, number_up}

-- the first record is thread 0's first; each other one is the next of the same thread, or the first of the next thread
pub record Rows (thread pc : ℕ → ℕ) (n : ℕ) : Type 0 where
  pub thread0 : thread 0 ≡ 0
  pub pc0 : pc 0 ≡ 0
  pub next : (k : ℕ) → k + 1 < n → ((thread (k + 1) ≡ thread k) × (pc (k + 1) ≡ pc k + 1)) ⊎ ((thread (k + 1) ≡ thread k + 1) × (pc (k + 1) ≡ 0))

module _ (thread : ℕ → ℕ) (n : ℕ) where
  -- how many of n records thread t has, and the threads before it
  abbrev pub count : ℕ → ℕ
  count t = number n (λ k. eqb (thread k) t)

  abbrev pub start : ℕ → ℕ
  start t = number n (λ k. ltb (thread k) t)

module _ (thread pc : ℕ → ℕ) (n : ℕ) (rows : Rows thread pc n) where
  pub rises : (j k : ℕ) → j ≤ k → k < n → thread j ≤ thread k
  rises j zero h b = let e : j ≡ 0 = omega arith in rw e (omega arith)
  rises j (suc k) h b = elim (ℕ_discrete j (suc k)) [
    | yes e ↦ rw e (omega arith)
    | no f ↦
        let ih = rises j k (omega arith) (omega arith) in
        let s : thread (k + 1) ≡ thread (suc k) = ap thread (omega arith) in
        ⊎_elim (λ w. omega arith) (λ w. omega arith) (rows.next k (omega arith))
  ]

  -- of the records before k, pc k are its own thread's, and the others those of the threads before
  abbrev Before : ℕ → Type 0
  Before k = (number k (λ j. ltb (thread j) (thread k)) + pc k ≡ k) × (number k (λ j. eqb (thread j) (thread k)) ≡ pc k)

  same-thread : (k : ℕ) → thread (k + 1) ≡ thread k → pc (k + 1) ≡ pc k + 1 → Before k → Before (k + 1)
  same-thread k t p ih = rw (t, p) (
    omega (arith, ih.0, number_same (λ j. ltb (thread j) (thread k)) k (le-ltb (thread k) (thread k) (omega arith))),
    omega (arith, ih.1, number_more (λ j. eqb (thread j) (thread k)) k (eq-eqb (thread k) (thread k) refl)),
  )

  next-thread : (k : ℕ) → k + 1 < n → thread (k + 1) ≡ thread k + 1 → pc (k + 1) ≡ 0 → Before (k + 1)
  next-thread k b t p =
      let up : (j : ℕ) → j < k + 1 → thread j < thread (k + 1) = λ j h. omega (arith, t, rises j k (omega arith) (omega arith)) in
      let all = number-all (λ j. ltb (thread j) (thread (k + 1))) (k + 1) (λ j h. lt-ltb (thread j) (thread (k + 1)) (up j h)) in
      let none = number-none (λ j. eqb (thread j) (thread (k + 1))) (k + 1) (λ j h. ne_eqb (thread j) (thread (k + 1)) (omega (arith, up j h))) in
      (omega (arith, all, p), omega (arith, none, p))

  first : Before 0
  unfolding number
  first = (omega (arith, rows.pc0), omega (arith, rows.pc0))

  before : (k : ℕ) → k < n → Before k
  before zero b = first
  before (suc k) b =
      let h : k + 1 < n = omega arith in
      let ih = before k (omega arith) in
      rw (← add-one k) (⊎_elim (λ w. same-thread k w.0 w.1 ih) (λ w. next-thread k h w.0 w.1) (rows.next k h))

  -- ---- where a record stands

  stands-start : (k : ℕ) → k < n → start thread n (thread k) + pc k ≡ k
  stands-start k b =
      let stays = number-stays (λ j. ltb (thread j) (thread k)) k n (omega arith) (λ i p q. le-ltb (thread i) (thread k) (rises k i p q)) in
      omega (arith, stays, (before k b).0)

  stands-below : (k : ℕ) → k < n → pc k < count thread n (thread k)
  stands-below k b =
      let more = number_more (λ j. eqb (thread j) (thread k)) k (eq-eqb (thread k) (thread k) refl) in
      omega (arith, more, (before k b).1, number-grows (λ j. eqb (thread j) (thread k)) (k + 1) n (omega arith))

  -- record k is its thread's statement pc k
  pub stands : (k : ℕ) → k < n → (start thread n (thread k) + pc k ≡ k) × (pc k < count thread n (thread k))
  stands k b = (stands-start k b, stands-below k b)

  start-next : (t : ℕ) → start thread n (suc t) ≡ start thread n t + count thread n t
  start-next t = number_up thread n t

  start-grows : (t u : ℕ) → t ≤ u → start thread n t ≤ start thread n u
  start-grows t zero h = let e : t ≡ 0 = omega arith in rw e (omega arith)
  start-grows t (suc u) h = elim (ℕ_discrete t (suc u)) [
    | yes e ↦ rw e (omega arith)
    | no f ↦ omega (arith, start-grows t u (omega arith), start-next u)
  ]

  -- thread t's statement p is record start t + p
  pub found : (t p : ℕ) → p < count thread n t → (start thread n t + p < n) × (thread (start thread n t + p) ≡ t) × (pc (start thread n t + p) ≡ p)
  found t p h = (b, e, omega (arith, here.0, ap (start thread n) e))
    where
      k : ℕ
      k = start thread n t + p

      b : k < n
      b = omega (arith, start-next t, number-below (λ j. ltb (thread j) (suc t)) n)

      here : (start thread n (thread k) + pc k ≡ k) × (pc k < count thread n (thread k))
      here = stands k b

      e : thread k ≡ t
      e = elim (ℕ_discrete (thread k) t) [
        | yes q ↦ q
        | no f ↦ elim (dec_lt (thread k) t) [
          | yes l ↦ absurd (omega (arith, here, start-next (thread k), start-grows (suc (thread k)) t l))
          | no g ↦ absurd (omega (arith, here, start-next t, start-grows (suc t) (thread k) (omega arith)))
        ]
      ]

  -- every thread up to record k's has a record
  pub reached : (k t : ℕ) → k < n → t ≤ thread k → 1 ≤ count thread n t
  reached zero t b h =
      let e : t ≡ thread 0 = omega (arith, rows.thread0) in
      rw e (omega (arith, stands-below 0 b))
  reached (suc k) t b h = elim (ℕ_discrete t (thread (suc k))) [
    | yes e ↦ rw e (omega (arith, stands-below (suc k) b))
    | no f ↦
        let s : thread (k + 1) ≡ thread (suc k) = ap thread (omega arith) in
        reached k t (omega arith) (⊎_elim (λ w. omega arith) (λ w. omega arith) (rows.next k (omega arith)))
  ]

  -- a record before another of its thread is not its thread's last
  pub goes_on_lem : (k : ℕ) → k + 1 < n → thread (k + 1) ≡ thread k → pc k + 1 < count thread n (thread k)
  goes_on_lem k b t = ⊎_elim (λ w. omega (arith, w.1, ap (count thread n) t, stands-below (k + 1) b)) (λ w. absurd (omega arith)) (rows.next k b)

  -- no thread has more records than pcs go up to
  pub few : (most : ℕ) → ((k : ℕ) → k < n → pc k < most) → (t : ℕ) → count thread n t ≤ most
  few most f t = elim (ℕ_discrete (count thread n t) 0) [
    | yes e ↦ omega arith
    | no g ↦
        let p = found t (count thread n t - 1) (omega arith) in
        omega (arith, f (start thread n t + (count thread n t - 1)) p.0, p.2)
  ]

  -- records of four threads of at most 32 are at most 128
  pub most : ((k : ℕ) → k < n → thread k < 4) → ((k : ℕ) → k < n → pc k < 32) → n ≤ 128
  most f g =
      let none = number-none (λ k. ltb (thread k) 0) n (λ k b. le-ltb (thread k) 0 (omega arith)) in
      let all = number-all (λ k. ltb (thread k) 4) n (λ k b. lt-ltb (thread k) 4 (f k b)) in
      omega (arith, none, all, start-next 0, start-next 1, start-next 2, start-next 3, few 32 g 0, few 32 g 1, few 32 g 2, few 32 g 3)
