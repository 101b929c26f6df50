-- The schedule that the bits of a model name is that of its run. Assumes nothing.
use Prim.Native.Nat.{ℕ, zero, suc, ◌+◌, ◌-◌, ◌*◌, ◌≤◌, ◌<◌}
use mathlib.Core.Path.{◌≡◌, refl, ap, sym, ◌∙◌}
use mathlib.Core.Bool.{Bool, true, false, cond, ◌&&◌, ◌||◌}
use mathlib.Core.List.{List, [], ◌∷◌, ◌++◌, append_assoc, append-nil}
use native.Mathlib.Omega.{arith}
use native.Mathlib.Numerals.{add-one}
use borrow.Author.Tests.{lt-ltb, le-ltb, ltb-true, ltb-false}
use lib.Dec.{eqb, ltb}
use lib.ListN.{length, get_or, take, set}
use lib.Seq.{take-suc-set}
use Rattle.machine.proofs.Runs.{choices-more}
use Rattle.base.specs.Below.{some, least}
use Rattle.base.proofs.Below.{least_ext}
use Rattle.base.proofs.Choice.{chosen, passed, and_true, or_true, or_false, or_right_true}
use Rattle.machine.specs.Runs.{choice_of, choices}
use Rattle.machine.specs.declared.Choice.{Choice}
use Rattle.table.specs.Values.{Assignment}
use Rattle.decoding.specs.Decodings.{bit_at, choice_number, run_from, run_of}
use Rattle.decoding.specs.Models.{bit_index, assigned}

-- some number passes exactly where the least that does is below the bound
some-least : (test : ℕ → Bool) (n : ℕ) → some n test ≡ ltb (least n test) n
unfolding some least
some-least test zero = refl
some-least test (suc n) = go (some-least test n) (ltb (least n test) n) refl (test n) refl
  where
    go : some n test ≡ ltb (least n test) n → (a : Bool) → ltb (least n test) n ≡ a → (b : Bool) → test n ≡ b →
        (some n test || test n) ≡ ltb (cond (ltb (least n test) n) (least n test) (cond (test n) n (suc n))) (suc n)
    go before true p b q =
        let l = ltb-true (least n test) n p in
        or_true (test n) (before ∙ p) ∙ sym (ap (λ (i : ℕ). ltb i (suc n)) (chosen _ _ p) ∙ lt-ltb (least n test) (suc n) (omega arith))
    go before false p true q =
        or_right_true (some n test) q ∙ sym (ap (λ (i : ℕ). ltb i (suc n)) (passed _ _ p ∙ chosen _ _ q) ∙ lt-ltb n (suc n) (omega arith))
    go before false p false q =
        or_false (before ∙ p) q ∙ sym (ap (λ (i : ℕ). ltb i (suc n)) (passed _ _ p ∙ passed _ _ q) ∙ le-ltb (suc n) (suc n) (omega arith))

module _ (threads bound : ℕ) (model : List ℕ) where
  abbrev given : Assignment
  given = assigned threads bound model

  -- the bits of step k stand in one row
  abbrev row_bit : ℕ → ℕ → Bool
  row_bit k j = eqb (get_or model (2 * threads * k + j) 0) 1

  row-bit : (k j : ℕ) → k < bound → j < threads + threads → bit_at threads given k j ≡ row_bit k j
  unfolding assigned
  row-bit k j h l = go (ltb j threads) refl
    where
      listed : (kind t : ℕ) → kind < 2 → t < threads → threads * kind + t ≡ j →
          (ltb k bound && ltb kind 2 && ltb t threads && eqb (get_or model (bit_index threads k kind t) 0) 1) ≡ row_bit k j
      listed kind t a b e =
          ap (λ (c : Bool). c && eqb (get_or model (bit_index threads k kind t) 0) 1)
          (and_true (and_true (lt-ltb k bound h) (lt-ltb kind 2 a)) (lt-ltb t threads b))
          ∙ ap (λ (i : ℕ). eqb (get_or model (2 * threads * k + i) 0) 1) e

      go : (b : Bool) → ltb j threads ≡ b →
          cond (ltb j threads) (ltb k bound && ltb 0 2 && ltb j threads && eqb (get_or model (bit_index threads k 0 j) 0) 1)
          (ltb k bound && ltb 1 2 && ltb (j - threads) threads && eqb (get_or model (bit_index threads k 1 (j - threads)) 0) 1) ≡ row_bit k j
      go true e = chosen _ _ e ∙ listed 0 j (omega arith) (ltb-true j threads e) (omega arith)
      go false e = let m = ltb-false j threads e in passed _ _ e ∙ listed 1 (j - threads) (omega arith) (omega arith) (omega arith)

  module _ (k : ℕ) (h : k < bound) where
    row-least : (j : ℕ) → j ≡ least (2 * threads) (row_bit k) → j ≡ least (threads + threads) (bit_at threads given k)
    row-least j e =
        let twice : 2 * threads ≡ threads + threads = omega arith in
        e ∙ (ap (λ (n : ℕ). least n (row_bit k)) twice ∙ sym (least_ext (bit_at threads given k) (row_bit k) (threads + threads) (λ i l. row-bit k i h l)))

    run-over : (left j : ℕ) → j ≡ least (2 * threads) (row_bit k) → 2 * threads ≤ j → run_from threads given k (suc left) ≡ []
    unfolding run_from
    run-over left j e l =
        passed _ _ (some-least (bit_at threads given k) (threads + threads)
        ∙ (ap (λ (i : ℕ). ltb i (threads + threads)) (sym (row-least j e)) ∙ le-ltb j (threads + threads) (omega arith)))

    run_on : (left j : ℕ) → j ≡ least (2 * threads) (row_bit k) → j < 2 * threads →
        run_from threads given k (suc left) ≡ choice_number threads j ∷ run_from threads given (suc k) left
    unfolding run_from
    run_on left j e l =
        chosen _ _ (some-least (bit_at threads given k) (threads + threads)
        ∙ (ap (λ (i : ℕ). ltb i (threads + threads)) (sym (row-least j e)) ∙ lt-ltb j (threads + threads) (omega arith)))
        ∙ ap (λ (i : ℕ). choice_number threads i ∷ run_from threads given (suc k) left) (sym (row-least j e))

  -- the schedule's first k bytes, and what is left of the run
  pub record Scheduled (schedule : List ℕ) (k : ℕ) : Type 0 where
    pub within : k ≤ bound
    pub run : run_of threads bound given ≡ choices (take k schedule) ++ run_from threads given k (bound - k)

  pub scheduled_first : (schedule : List ℕ) → Scheduled schedule 0
  unfolding choices
  scheduled_first schedule = record { within = omega arith; run = let e : bound - 0 ≡ bound = omega arith in sym (ap (run_from threads given 0) e) }

  pub scheduled_all : (schedule : List ℕ) (k : ℕ) → Scheduled schedule k → bound ≤ k → choices (take k schedule) ≡ run_of threads bound given
  unfolding run_from
  scheduled_all schedule k s l =
      let within = s.within in
      let none : bound - k ≡ 0 = omega arith in
      sym (s.run ∙ (ap (λ (n : ℕ). choices (take k schedule) ++ run_from threads given k n) none ∙ append-nil (choices (take k schedule))))

  pub scheduled_over : (schedule : List ℕ) (k j : ℕ) → Scheduled schedule k → k < bound → j ≡ least (2 * threads) (row_bit k) → 2 * threads ≤ j →
      choices (take k schedule) ≡ run_of threads bound given
  scheduled_over schedule k j s h e l =
      let left : bound - k ≡ suc (bound - suc k) = omega arith in
      sym (s.run ∙ (ap (λ (run : List Choice). choices (take k schedule) ++ run) (ap (run_from threads given k) left ∙ run-over k h (bound - suc k) j e l)
      ∙ append-nil (choices (take k schedule))))

  pub scheduled_more : (schedule : List ℕ) (k j byte : ℕ) → Scheduled schedule k → k < bound → k < length schedule → j ≡ least (2 * threads) (row_bit k) →
      j < 2 * threads → choice_of byte ≡ choice_number threads j → Scheduled (set schedule k byte) (k + 1)
  scheduled_more schedule k j byte s h room e l c = record {
    within = omega arith;
    run =
        let left : bound - k ≡ suc (bound - suc k) = omega arith in
        let rest = run_from threads given (suc k) (bound - suc k) in
        s.run
        ∙ (ap (λ (run : List Choice). choices (take k schedule) ++ run) (ap (run_from threads given k) left ∙ run_on k h (bound - suc k) j e l)
        ∙ (sym (append_assoc (choices (take k schedule)) (choice_number threads j ∷ []) rest)
        ∙ (ap (λ (xs : List Choice). xs ++ rest) (ap (λ (d : Choice). choices (take k schedule) ++ (d ∷ [])) (sym c) ∙ (sym (choices-more (take k schedule) byte) ∙ ap choices (sym (take-suc-set schedule k byte room))))
        ∙ ap (λ (n : ℕ). choices (take n (set schedule k byte)) ++ run_from threads given n (bound - n)) (sym (add-one k)))));
  }
