-- Laws of the checkpoints noted as seen. Assumes nothing.
use Prim.Native.Nat.{ℕ, zero, suc, ◌+◌, ◌≤◌, ◌<◌}
use mathlib.Core.Path.{◌≡◌, refl, ap, sym, ◌∙◌}
use mathlib.Core.Bool.{Bool, true, false, not, ◌||◌}
use mathlib.Core.List.{List}
use native.Mathlib.Decide.{ℕ_discrete, dec_lt}
use native.Mathlib.Numerals.{add-one}
use native.Mathlib.Omega.{arith}
use lib.Dec.{eqb}
use lib.ListN.{length, get_or, take, set, replicate, length-replicate, get_or-replicate, get_or-eq_default}
use lib.Seq.{get_or-set_same, get_or-set_other}
use Rattle.base.specs.Below.{some, number}
use Rattle.std.proofs.Math.Seq.{take-length}
use Rattle.std.specs.List.{count_by}
use Rattle.std.proofs.lemmas.List.Sums.{count_by_more_yes, count_by_more_no}
use Rattle.base.proofs.Below.{number-stays, number_ext, number-none, number-yes, number-no}
use Rattle.base.proofs.Choice.{or_no, or_three, or_right_true}
use Rattle.encoder_size.specs.Seen.{is_seen, Notes}

-- ---- one checkpoint after the other

-- none was looked at
pub notes_none : (test : ℕ → Bool) (seen : List ℕ) → Notes 0 test seen seen
notes_none test seen = record {
  below = λ (p : ℕ) (h : p < 0). absurd (omega arith);
  past = λ (p : ℕ) h. refl;
}

module _ (n : ℕ) (test : ℕ → Bool) (seen after : List ℕ) where
  -- one that passes is noted, at its own place
  pub notes_more : (at : ℕ) → at ≡ n → n < length after → test n ≡ true → Notes n test seen after → Notes (n + 1) test seen (set after at 1)
  notes_more at here room e w = record {
    below = λ (p : ℕ) (h : p < n + 1). elim (ℕ_discrete p at) [
      | yes f ↦
          ap (λ (i : ℕ). is_seen (set after at 1) i) f
          ∙ (ap (λ (x : ℕ). not (eqb x 0)) (get_or-set_same after at 1 0 (omega arith))
          ∙ sym (or_right_true (is_seen seen p) (ap test (f ∙ here) ∙ e)))
      | no f ↦ ap (λ (x : ℕ). not (eqb x 0)) (get_or-set_other after at p 1 0 f) ∙ w.below p (omega arith)
    ];
    past = λ (p : ℕ) (h : n + 1 ≤ p).
        let other : p ≡ at → ⊥ = λ f. absurd (omega arith) in
        ap (λ (x : ℕ). not (eqb x 0)) (get_or-set_other after at p 1 0 other) ∙ w.past p (omega arith);
  }

  -- another stays as it was
  pub notes_same : test n ≡ false → Notes n test seen after → Notes (n + 1) test seen after
  notes_same e w = record {
    below = λ (p : ℕ) (h : p < n + 1). elim (ℕ_discrete p n) [
      | yes f ↦
          w.past p (omega arith)
          ∙ (sym (or_no (is_seen seen p)) ∙ ap (λ (b : Bool). is_seen seen p || b) (sym (ap test f ∙ e)))
      | no f ↦ w.below p (omega arith)
    ];
    past = λ (p : ℕ) (h : n + 1 ≤ p). w.past p (omega arith);
  }

-- ---- one statement after the other

-- nothing is noted
pub notes_nothing : (n : ℕ) (test : ℕ → Bool) (seen : List ℕ) → ((p : ℕ) → test p ≡ false) → Notes n test seen seen
notes_nothing n test seen e = record {
  below = λ (p : ℕ) h. sym (ap (λ (b : Bool). is_seen seen p || b) (e p) ∙ or_no (is_seen seen p));
  past = λ (p : ℕ) h. refl;
}

-- another test that agrees
pub notes_ext : (n : ℕ) (f g : ℕ → Bool) (seen after : List ℕ) → ((p : ℕ) → f p ≡ g p) → Notes n f seen after → Notes n g seen after
notes_ext n f g seen after e w = record {
  below = λ (p : ℕ) h. w.below p h ∙ ap (λ (b : Bool). is_seen seen p || b) (e p);
  past = w.past;
}

-- two tests
pub notes_then : (n : ℕ) (f g : ℕ → Bool) (seen between after : List ℕ) → Notes n f seen between → Notes n g between after →
    Notes n (λ p. f p || g p) seen after
notes_then n f g seen between after v w = record {
  below = λ (p : ℕ) h. w.below p h ∙ (ap (λ (b : Bool). b || g p) (v.below p h) ∙ or_three (is_seen seen p) (f p) (g p));
  past = λ (p : ℕ) h. w.past p h ∙ v.past p h;
}

-- one statement more
pub notes_next : (n i : ℕ) (f : ℕ → ℕ → Bool) (seen between after : List ℕ) → Notes n (λ p. some i (λ j. f j p)) seen between → Notes n (f i) between after →
    Notes n (λ p. some (i + 1) (λ j. f j p)) seen after
unfolding some
notes_next n i f seen between after v w =
    notes_ext n (λ p. some i (λ j. f j p) || f i p) (λ p. some (i + 1) (λ j. f j p)) seen after
    (λ p. sym (ap (λ (k : ℕ). some k (λ j. f j p)) (add-one i)))
    (notes_then n (λ p. some i (λ j. f j p)) (f i) seen between after v w)

-- ---- how many are noted

-- at first none is
seen_none : (n p : ℕ) → is_seen (replicate n 0) p ≡ false
seen_none n p = ap (λ (x : ℕ). not (eqb x 0)) zero-at
  where
    zero-at : ◌≡◌ {A = ℕ} (get_or (replicate n 0) p 0) 0
    zero-at = elim (dec_lt p n) [
      | yes h ↦ get_or-replicate n p 0 0 h
      | no h ↦
          let e : length (replicate {A = ℕ} n 0) ≡ n = length-replicate n 0 in
          get_or-eq_default (replicate n 0) 0 (omega (arith, h))
    ]

-- as many as pass
pub seen-number : (n m : ℕ) (test : ℕ → Bool) (after : List ℕ) → n ≤ m → Notes n test (replicate m 0) after → number m (is_seen after) ≡ number n test
seen-number n m test after few w =
    number-stays (is_seen after) n m few (λ p h l. w.past p h ∙ seen_none m p)
    ∙ number_ext (is_seen after) test n (λ p h. w.below p h ∙ ap (λ (b : Bool). b || test p) (seen_none m p))

-- as many as the places of a list that pass
pub number-list : (f : ℕ → Bool) (xs : List ℕ) → number (length xs) (λ p. f (get_or xs p 0)) ≡ count_by f xs
number-list f xs = go (length xs) (omega arith) ∙ ap (count_by f) (take-length xs)
  where
    go : (i : ℕ) → i ≤ length xs → number i (λ p. f (get_or xs p 0)) ≡ count_by f (take i xs)
    go zero h = number-none _ 0 (λ i l. absurd (omega arith))
    go (suc i) h = elim (f (get_or xs i 0)) as (λ b. f (get_or xs i 0) ≡ b → number (suc i) (λ p. f (get_or xs p 0)) ≡ count_by f (take (suc i) xs)) [
      | true ↦ λ e. number-yes _ i e ∙ (ap suc (go i (omega arith)) ∙ (sym (add-one (count_by f (take i xs))) ∙ sym (rw add-one at (count_by_more_yes f xs i 0 (omega arith) e))))
      | false ↦ λ e. number-no _ i e ∙ (go i (omega arith) ∙ sym (rw add-one at (count_by_more_no f xs i 0 (omega arith) e)))
    ] refl
