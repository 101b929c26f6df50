-- Up to five records written one after the other. Assumes nothing.
use Prim.Native.Nat.{ℕ, suc, ◌+◌, ◌*◌}
use mathlib.Core.Path.{◌≡◌, refl}
use mathlib.Core.List.{List, [], ◌∷◌}
use native.Mathlib.Omega.{arith}
use Rattle.base.specs.Bytes.{placed}
use Rattle.table.specs.declared.Formula.{Formula}
use Rattle.table.specs.Formulas.{formula_bytes, written_at}

-- record n of an output
abbrev pub record_at : ℕ → Formula → List ℕ → List ℕ
record_at n f out = placed out (16 * n) (formula_bytes f)

module _ (out : List ℕ) (n : ℕ) (f : Formula) where
  pub written_1 : record_at n f out ≡ written_at out n (f ∷ [])
  unfolding written_at
  written_1 = refl

  module _ (g : Formula) where
    pub written_2 : record_at (n + 1) g (record_at n f out) ≡ written_at out n (f ∷ g ∷ [])
    unfolding written_at
    written_2 =
        let one : n + 1 ≡ suc n = omega arith in
        λ i. record_at (one i) g (record_at n f out)

    module _ (h : Formula) where
      pub written_3 : record_at (n + 2) h (record_at (n + 1) g (record_at n f out)) ≡ written_at out n (f ∷ g ∷ h ∷ [])
      unfolding written_at
      written_3 =
          let one : n + 1 ≡ suc n = omega arith in
          let two : n + 2 ≡ suc (suc n) = omega arith in
          λ i. record_at (two i) h (record_at (one i) g (record_at n f out))

      module _ (k : Formula) where
        pub written_4 : record_at (n + 3) k (record_at (n + 2) h (record_at (n + 1) g (record_at n f out))) ≡ written_at out n (f ∷ g ∷ h ∷ k ∷ [])
        unfolding written_at
        written_4 =
            let one : n + 1 ≡ suc n = omega arith in
            let two : n + 2 ≡ suc (suc n) = omega arith in
            let three : n + 3 ≡ suc (suc (suc n)) = omega arith in
            λ i. record_at (three i) k (record_at (two i) h (record_at (one i) g (record_at n f out)))

        pub written_5 : (l : Formula) →
            record_at (n + 4) l (record_at (n + 3) k (record_at (n + 2) h (record_at (n + 1) g (record_at n f out)))) ≡ written_at out n (f ∷ g ∷ h ∷ k ∷ l ∷ [])
        unfolding written_at
        written_5 l =
            let one : n + 1 ≡ suc n = omega arith in
            let two : n + 2 ≡ suc (suc n) = omega arith in
            let three : n + 3 ≡ suc (suc (suc n)) = omega arith in
            let four : n + 4 ≡ suc (suc (suc (suc n))) = omega arith in
            λ i. record_at (four i) l (record_at (three i) k (record_at (two i) h (record_at (one i) g (record_at n f out))))
