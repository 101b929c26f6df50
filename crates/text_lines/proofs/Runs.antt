-- Laws of runs of bytes. Assumes nothing.
use Rattle.std.proofs.Common.{◌≡◌, ◌≤◌, ℕ, zero, suc, ◌+◌, Bool, true, false, cond, ◌&&◌, eqb, List, [], ◌∷◌, length, take, drop, refl, arith}
use Rattle.std.proofs.lemmas.Bool.Decides.{nat_tests}
use Rattle.std.specs.List.{fold, prefix_len}

-- a run over the first n bytes goes on behind them
pub run_past : (test : ℕ → Bool) (n : ℕ) (s : List ℕ) → n ≤ length s → prefix_len test (take n s) ≡ n → prefix_len test s ≡ n + prefix_len test (drop n s)
run_past test zero s h e = omega arith
run_past test (suc n) [] h e = absurd (omega arith)
run_past test (suc n) (x ∷ s) h e = go (test x) (run_past test n s (omega arith)) e
  where
    go : (t : Bool) → (prefix_len test (take n s) ≡ n → prefix_len test s ≡ n + prefix_len test (drop n s)) →
        cond t (1 + prefix_len test (take n s)) 0 ≡ suc n → cond t (1 + prefix_len test s) 0 ≡ suc n + prefix_len test (drop n s)
    go true ih p = let q = ih (omega (arith, p)) in omega (arith, q)
    go false ih p = absurd (omega (arith, p))

-- all pass exactly where the run is the whole
passed_all : (test : ℕ → Bool) (s : List ℕ) → fold (λ all b. all && test b) false s ≡ false
passed_all test [] = refl
passed_all test (x ∷ s) = passed_all test s

pub fold-run : (test : ℕ → Bool) (s : List ℕ) → fold (λ all b. all && test b) true s ≡ eqb (prefix_len test s) (length s)
fold-run test [] = refl
fold-run test (x ∷ s) = go (test x) (fold-run test s)
  where
    go : (t : Bool) → fold (λ all b. all && test b) true s ≡ eqb (prefix_len test s) (length s) →
        fold (λ all b. all && test b) t s ≡ eqb (cond t (1 + prefix_len test s) 0) (suc (length s))
    go true ih = grind (arith, nat_tests, ih)
    go false ih = grind (arith, nat_tests, passed_all test s)
