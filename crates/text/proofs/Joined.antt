-- Items of one width, one after the other: how long they are, and where each one stands. Assumes nothing.
use Prim.Native.Nat.{ℕ, zero, suc, ◌+◌, ◌*◌, ◌≤◌, ◌<◌}
use mathlib.Core.Path.{◌≡◌, ap, sym, ◌∙◌}
use mathlib.Core.List.{List, ◌++◌}
use native.Mathlib.Omega.{arith}
use native.Mathlib.Decide.{ℕ_discrete}
use native.Mathlib.Nat.{mul-le-mul_left}
use lib.ListN.{length, get_or, length-append, get_or-append}
use lib.Seq.{get_or-append-add}
use Rattle.text.specs.Records.{joined}

module _ (width : ℕ) (item : ℕ → List ℕ) (each : (k : ℕ) → length (item k) ≡ width) where
  pub length-joined : (n : ℕ) → length (joined n item) ≡ width * n
  unfolding joined
  length-joined zero = omega arith
  length-joined (suc n) = length-append (joined n item) (item n) ∙ omega (arith, length-joined n, each n)

  -- byte i of item k
  pub joined_at : (n k i : ℕ) → k < n → i < width → get_or (joined n item) (width * k + i) 0 ≡ get_or (item k) i 0
  unfolding joined
  joined_at zero k i h b = absurd (omega arith)
  joined_at (suc n) k i h b = elim (ℕ_discrete k n) [
    | yes e ↦
        ap (λ (j : ℕ). get_or (joined n item ++ item n) j 0) (rw e (omega (arith, length-joined n)))
        ∙ get_or-append-add (joined n item) (item n) i 0
        ∙ ap (λ (j : ℕ). get_or (item j) i 0) (sym e)
    | no f ↦
        let inside : width * suc k ≤ width * n = mul-le-mul_left width (omega arith) in
        get_or-append (joined n item) (item n) 0 (width * k + i) (omega (arith, length-joined n))
        ∙ joined_at n k i (omega arith) b
  ]
