-- The statement records of threads: where each one stands, what it holds, and the set that they make. Assumes nothing.
use Prim.Native.Nat.{ℕ, zero, suc, ◌+◌, ◌-◌, ◌*◌, ◌≤◌, ◌<◌}
use mathlib.Core.Path.{◌≡◌, refl, ap, sym, ◌∙◌}
use mathlib.Core.Bool.{Bool, false}
use mathlib.Core.List.{◌++◌}
use native.Mathlib.Omega.{arith}
use native.Mathlib.Decide.{ℕ_discrete, dec_lt}
use lib.Dec.{eqb}
use lib.ListN.{length, get_or, length-append, get_or-append}
use lib.Seq.{get_or-append-add}
use borrow.Author.Tests.{lt-ltb, eq-eqb, ne_eqb}
use Rattle.base.proofs.Choice.{chosen}
use Rattle.base.specs.Below.{number}
use Rattle.base.proofs.Below.{number-none, number-stays}
use Rattle.records.specs.Sets.{records, thread_at, number_at, mode_at, spare_at, argument_at, pc_at, statement_at, threads_of, count_of, start_of, set_of}
use Rattle.text.specs.Sections.{Threads}
use Rattle.text.specs.Records.{joined, argument_of, statement_bytes, thread_bytes, set_bytes, statements_before, statements}
use Rattle.text.proofs.Below.{number-block}
use Rattle.text.proofs.Joined.{length-joined, joined_at}

module _ (T : Threads) where
  -- ---- bytes

  eight_bytes : (t p : ℕ) → length (statement_bytes t (T.count t) (T.statement t) p) ≡ 8
  unfolding statement_bytes
  eight_bytes t p = refl

  length-thread : (t : ℕ) → length (thread_bytes T t) ≡ 8 * T.count t
  unfolding thread_bytes
  length-thread t = length-joined 8 (statement_bytes t (T.count t) (T.statement t)) (eight_bytes t) (T.count t)

  length-threads : (n : ℕ) → length (joined n (thread_bytes T)) ≡ 8 * statements_before T n
  unfolding joined statements_before
  length-threads zero = refl
  length-threads (suc n) = length-append (joined n (thread_bytes T)) (thread_bytes T n) ∙ omega (arith, length-threads n, length-thread n)

  pub before-grows : (t u : ℕ) → t ≤ u → statements_before T t ≤ statements_before T u
  unfolding statements_before
  before-grows t zero h = let e : t ≡ 0 = omega arith in rw e (omega arith)
  before-grows t (suc u) h = elim (ℕ_discrete t (suc u)) [
    | yes e ↦ rw e (omega arith)
    | no f ↦ omega (arith, before-grows t u (omega arith))
  ]

  pub before-none : statements_before T 0 ≡ 0
  unfolding statements_before
  before-none = refl

  pub before-next : (t : ℕ) → statements_before T (suc t) ≡ statements_before T t + T.count t
  unfolding statements_before
  before-next t = refl

  -- byte i of statement p of thread t, in the bytes of n threads
  byte_in : (n t p i : ℕ) → t < n → p < T.count t → i < 8 →
      get_or (joined n (thread_bytes T)) (8 * (statements_before T t + p) + i) 0 ≡ get_or (statement_bytes t (T.count t) (T.statement t) p) i 0
  unfolding joined thread_bytes
  byte_in zero t p i h l b = absurd (omega arith)
  byte_in (suc n) t p i h l b = elim (ℕ_discrete t n) [
    | yes e ↦
        ap (λ (j : ℕ). get_or (joined n (thread_bytes T) ++ thread_bytes T n) j 0) (rw e (omega (arith, length-threads n)))
        ∙ get_or-append-add (joined n (thread_bytes T)) (thread_bytes T n) (8 * p + i) 0
        ∙ ap (λ (u : ℕ). get_or (thread_bytes T u) (8 * p + i) 0) (sym e)
        ∙ joined_at 8 (statement_bytes t (T.count t) (T.statement t)) (eight_bytes t) (T.count t) p i l b
    | no f ↦
        get_or-append (joined n (thread_bytes T)) (thread_bytes T n) 0 (8 * (statements_before T t + p) + i)
        (omega (arith, length-threads n, before-next t, before-grows (suc t) n (omega arith)))
        ∙ byte_in n t p i (omega arith) l b
  ]

  -- ---- fields

  pub length-set : length (set_bytes T) ≡ 8 * statements T
  unfolding set_bytes
  length-set = length-threads T.ended

  pub records-set : records (set_bytes T) ≡ statements T
  records-set = omega (arith, length-set)

  module _ (t p : ℕ) (ended : t < T.ended) (stands : p < T.count t) where
    byte_at : (i : ℕ) → i < 8 → get_or (set_bytes T) (8 * (statements_before T t + p) + i) 0 ≡ get_or (statement_bytes t (T.count t) (T.statement t) p) i 0
    unfolding set_bytes
    byte_at i b = byte_in T.ended t p i ended stands b

    pub place-below : statements_before T t + p < records (set_bytes T)
    place-below = omega (arith, records-set, before-next t, before-grows (suc t) T.ended ended)

    pub thread-set : thread_at (set_bytes T) (statements_before T t + p) ≡ t
    unfolding statement_bytes
    thread-set =
        let start : 8 * (statements_before T t + p) + 0 ≡ 8 * (statements_before T t + p) = omega arith in
        rw start at (byte_at 0 (omega arith))

    pub number-set : number_at (set_bytes T) (statements_before T t + p) ≡ (T.statement t p).number
    unfolding statement_bytes
    number-set = byte_at 1 (omega arith)

    pub mode-set : mode_at (set_bytes T) (statements_before T t + p) ≡ (T.statement t p).mode
    unfolding statement_bytes
    mode-set = byte_at 2 (omega arith)

    pub spare-set : spare_at (set_bytes T) (statements_before T t + p) ≡ 0
    unfolding statement_bytes
    spare-set = byte_at 3 (omega arith)

    pub argument-set : argument_at (set_bytes T) (statements_before T t + p) ≡ argument_of (T.count t) (T.statement t) p
    unfolding statement_bytes
    argument-set =
        let next : 8 * (statements_before T t + p) + 5 ≡ 8 * (statements_before T t + p) + 4 + 1 = omega arith in
        omega (arith, byte_at 4 (omega arith), rw next at (byte_at 5 (omega arith)))

    pub pc-set : pc_at (set_bytes T) (statements_before T t + p) ≡ p
    unfolding statement_bytes
    pc-set =
        let next : 8 * (statements_before T t + p) + 7 ≡ 8 * (statements_before T t + p) + 6 + 1 = omega arith in
        omega (arith, byte_at 6 (omega arith), rw next at (byte_at 7 (omega arith)))

  -- ---- places

  -- record k of those of n threads is some thread's some statement
  pub place : (n k : ℕ) → k < statements_before T n → (t : ℕ) × (p : ℕ) × (t < n) × (p < T.count t) × (k ≡ statements_before T t + p)
  unfolding statements_before
  place zero k h = absurd (omega arith)
  place (suc n) k h = elim (dec_lt k (statements_before T n)) [
    | yes l ↦ let r = place n k l in (r.0, r.1, omega (arith, r.2), r.3, r.4)
    | no f ↦ (n, k - statements_before T n, omega arith, omega arith, omega arith)
  ]

  -- ---- the set

  pub count_set : (t : ℕ) → t < T.ended → count_of (set_bytes T) t ≡ T.count t
  unfolding count_of
  count_set t h =
      let test : ℕ → Bool = λ k. eqb (thread_at (set_bytes T) k) t in
      let block = number-block test (statements_before T t) (T.count t) (λ p l. eq-eqb _ t (thread-set t p h l)) in
      let none = number-none test (statements_before T t) (λ k l. earlier k l) in
      let rest = number-stays test (statements_before T (suc t)) (statements T) (before-grows (suc t) T.ended h) (λ k l b. later k l b) in
      ap (λ (n : ℕ). number n test) records-set ∙ rest ∙ ap (λ (n : ℕ). number n test) (before-next t) ∙ block ∙ omega (arith, none)
    where
      earlier : (k : ℕ) → k < statements_before T t → eqb (thread_at (set_bytes T) k) t ≡ false
      earlier k l =
          let r = place t k l in
          ne_eqb _ t (λ e. omega (arith, r.2, sym (thread-set r.0 r.1 (omega (arith, r.2)) r.3) ∙ ap (thread_at (set_bytes T)) (sym r.4) ∙ e))

      later : (k : ℕ) → statements_before T (suc t) ≤ k → k < statements T → eqb (thread_at (set_bytes T) k) t ≡ false
      later k l b =
          let r = place T.ended k b in
          let same : thread_at (set_bytes T) k ≡ r.0 = ap (thread_at (set_bytes T)) r.4 ∙ thread-set r.0 r.1 r.2 r.3 in
          ne_eqb _ t (λ e. omega (arith, r.3, r.4, before-next r.0, before-grows (suc r.0) (suc t) (omega (arith, same, e))))

  pub start-set : (t : ℕ) → t ≤ T.ended → start_of (set_bytes T) t ≡ statements_before T t
  unfolding start_of statements_before
  start-set zero h = refl
  start-set (suc t) h = omega (arith, start-set t (omega arith), count_set t h)

  -- threads none of which is empty
  pub threads-set : 0 < T.ended → 0 < T.count (T.ended - 1) → threads_of (set_bytes T) ≡ T.ended
  unfolding threads_of
  threads-set some last =
      let t = T.ended - 1 in
      let p = T.count t - 1 in
      let next : suc t ≡ T.ended = omega arith in
      let back : records (set_bytes T) - 1 ≡ statements_before T t + p = omega (arith, records-set, before-next t, ap (statements_before T) next) in
      omega (arith, ap (thread_at (set_bytes T)) back, thread-set t p (omega arith) (omega arith))

  pub statement-set : (t p : ℕ) → t < T.ended → p < T.count t → (set_of (set_bytes T)).statement t p ≡ statement_at (set_bytes T) (statements_before T t + p)
  statement-set t p h l =
      chosen _ _ (lt-ltb p (count_of (set_bytes T) t) (omega (arith, count_set t h)))
      ∙ ap (λ (k : ℕ). statement_at (set_bytes T) (k + p)) (start-set t (omega arith))
