-- Programs one after the other: their records, indexes, places and values, and what they need. Assumes nothing.
use Prim.Native.Nat.{ℕ, zero, suc, ◌+◌, ◌≤◌, ◌<◌}
use mathlib.Core.Path.{◌≡◌, refl, ap, ap₂, sym, ◌∙◌}
use mathlib.Core.Bool.{Bool, true, false, ◌&&◌}
use mathlib.Core.List.{List, [], ◌∷◌, ◌++◌, append_assoc, append-nil}
use native.Mathlib.Omega.{arith}
use lib.ListN.{length}
use Rattle.table.specs.declared.Formula.{Formula}
use Rattle.table.specs.Values.{Assignment, Value, as_bit}
use Rattle.table.specs.Programs.{Tree, ref, leaf, unary, binary, ternary, tree_value, next, root, records, upto, Command, sets, needs, aims, put, next_after, places_after, compiled, values_after, program_holds, unary_formula, binary_formula, ternary_formula, constraint, goal}

-- ---- one number after the other

module _ {A : Type 0} where
  pub upto-none : (f : ℕ → List A) → upto f 0 ≡ []
  unfolding upto
  upto-none f = refl

  -- the last apart
  pub upto-last : (f : ℕ → List A) (n : ℕ) → upto f (suc n) ≡ upto f n ++ f n
  unfolding upto
  upto-last f n = refl

  -- the first apart
  pub upto-first : (f : ℕ → List A) (n : ℕ) → upto f (suc n) ≡ f 0 ++ upto (λ i. f (suc i)) n
  unfolding upto
  upto-first f zero = sym (append-nil (f 0))
  upto-first f (suc n) = ap (λ x. x ++ f (suc n)) (upto-first f n) ∙ append_assoc (f 0) (upto (λ i. f (suc i)) n) (f (suc n))

  -- the first n, then m more
  pub upto-more : (f : ℕ → List A) (n m : ℕ) → upto f (n + m) ≡ upto f n ++ upto (λ i. f (n + i)) m
  unfolding upto
  upto-more f n zero = let e : n + 0 ≡ n = omega arith in ap (upto f) e ∙ sym (append-nil (upto f n))
  upto-more f n (suc m) =
      let e : n + suc m ≡ suc (n + m) = omega arith in
      ap (upto f) e ∙ (ap (λ x. x ++ f (n + m)) (upto-more f n m) ∙ append_assoc (upto f n) (upto (λ i. f (n + i)) m) (f (n + m)))

  -- two that agree below n
  pub upto_ext : (f g : ℕ → List A) (n : ℕ) → ((i : ℕ) → i < n → f i ≡ g i) → upto f n ≡ upto g n
  unfolding upto
  upto_ext f g zero h = refl
  upto_ext f g (suc n) h = ap₂ (λ x y. x ++ y) (upto_ext f g n (λ i k. h i (omega arith))) (h n (omega arith))

module _ {Slot : Type 0} where
  -- ---- trees

  pub grows : (t : Tree Slot) (n : ℕ) → n ≤ next n t
  unfolding next
  grows (ref s) n = omega arith
  grows (leaf x) n = omega arith
  grows (unary o a) n = let p = grows a n in omega arith
  grows (binary o a b) n = let p = grows a n in let q = grows b (next n a) in omega arith
  grows (ternary o a b c) n = let p = grows a n in let q = grows b (next n a) in let r = grows c (next (next n a) b) in omega arith

  -- a tree's own record is one of its records or lies where a slot lies
  pub inside : (places : Slot → ℕ) (t : Tree Slot) (n : ℕ) → ((s : Slot) → places s < n) → root places n t < next n t
  unfolding next root
  inside places (ref s) n h = h s
  inside places (leaf x) n h = omega arith
  inside places (unary o a) n h = omega arith
  inside places (binary o a b) n h = omega arith
  inside places (ternary o a b c) n h = omega arith

  -- how many records a tree has does not depend on where it starts
  pub next_shift : (d : ℕ) (t : Tree Slot) (n : ℕ) → next (n + d) t ≡ next n t + d
  unfolding next
  next_shift d (ref s) n = refl
  next_shift d (leaf x) n = omega arith
  next_shift d (unary o a) n = let p = next_shift d a n in omega arith
  next_shift d (binary o a b) n =
      let p : next (next (n + d) a) b ≡ next (next n a + d) b = ap (λ m. next m b) (next_shift d a n) in
      let q = next_shift d b (next n a) in
      omega arith
  next_shift d (ternary o a b c) n =
      let p : next (next (next (n + d) a) b) c ≡ next (next (next n a + d) b) c = ap (λ m. next (next m b) c) (next_shift d a n) in
      let q : next (next (next n a + d) b) c ≡ next (next (next n a) b + d) c = ap (λ m. next m c) (next_shift d b (next n a)) in
      let r = next_shift d c (next (next n a) b) in
      omega arith

  -- a tree's records stand before the rest
  pub records-++ : (places : Slot → ℕ) (n : ℕ) (t : Tree Slot) (more rest : List Formula) → records places n t (more ++ rest) ≡ records places n t more ++ rest
  unfolding records
  records-++ places n (ref s) more rest = refl
  records-++ places n (leaf x) more rest = refl
  records-++ places n (unary o a) more rest = records-++ places n a (unary_formula o (root places n a) ∷ more) rest
  records-++ places n (binary o a b) more rest =
      ap (records places n a) (records-++ places (next n a) b (binary_formula o (root places n a) (root places (next n a) b) ∷ more) rest)
      ∙ records-++ places n a _ rest
  records-++ places n (ternary o a b c) more rest =
      ap (λ x. records places n a (records places (next n a) b x))
      (records-++ places (next (next n a) b) c (ternary_formula o (root places n a) (root places (next n a) b) (root places (next (next n a) b) c) ∷ more) rest)
      ∙ (ap (records places n a) (records-++ places (next n a) b _ rest)
      ∙ records-++ places n a _ rest)

  pub records-rest : (places : Slot → ℕ) (n : ℕ) (t : Tree Slot) (rest : List Formula) → records places n t rest ≡ records places n t [] ++ rest
  records-rest places n t rest = records-++ places n t [] rest

  -- as many records as the index grows by
  pub records-length : (places : Slot → ℕ) (n : ℕ) (t : Tree Slot) (rest : List Formula) → n + length (records places n t rest) ≡ next n t + length rest
  unfolding records next
  records-length places n (ref s) rest = refl
  records-length places n (leaf x) rest = omega arith
  records-length places n (unary o a) rest = let p = records-length places n a (unary_formula o (root places n a) ∷ rest) in omega arith
  records-length places n (binary o a b) rest =
      let p = records-length places n a (records places (next n a) b (binary_formula o (root places n a) (root places (next n a) b) ∷ rest)) in
      let q = records-length places (next n a) b (binary_formula o (root places n a) (root places (next n a) b) ∷ rest) in
      omega arith
  records-length places n (ternary o a b c) rest =
      let last = ternary_formula o (root places n a) (root places (next n a) b) (root places (next (next n a) b) c) ∷ rest in
      let p = records-length places n a (records places (next n a) b (records places (next (next n a) b) c last)) in
      let q = records-length places (next n a) b (records places (next (next n a) b) c last) in
      let r = records-length places (next (next n a) b) c last in
      omega arith

module _ {Slot : Type 0} (same : Slot → Slot → Bool) where
  -- ---- indexes

  pub next-++ : (n : ℕ) (P Q : List (Command Slot)) → next_after same n (P ++ Q) ≡ next_after same (next_after same n P) Q
  unfolding next_after
  next-++ n [] Q = refl
  next-++ n (sets s t ∷ P) Q = next-++ (next n t) P Q
  next-++ n (needs t ∷ P) Q = next-++ (suc (next n t)) P Q
  next-++ n (aims t ∷ P) Q = next-++ (suc (next n t)) P Q

  pub program-grows : (P : List (Command Slot)) (n : ℕ) → n ≤ next_after same n P
  unfolding next_after
  program-grows [] n = omega arith
  program-grows (sets s t ∷ P) n = let p = grows t n in let q = program-grows P (next n t) in omega arith
  program-grows (needs t ∷ P) n = let p = grows t n in let q = program-grows P (suc (next n t)) in omega arith
  program-grows (aims t ∷ P) n = let p = grows t n in let q = program-grows P (suc (next n t)) in omega arith

  pub program_shift : (d : ℕ) (P : List (Command Slot)) (n : ℕ) → next_after same (n + d) P ≡ next_after same n P + d
  unfolding next_after
  program_shift d [] n = refl
  program_shift d (sets s t ∷ P) n = ap (λ m. next_after same m P) (next_shift d t n) ∙ program_shift d P (next n t)
  program_shift d (needs t ∷ P) n =
      let e : suc (next (n + d) t) ≡ suc (next n t) + d = let p = next_shift d t n in omega arith in
      ap (λ m. next_after same m P) e ∙ program_shift d P (suc (next n t))
  program_shift d (aims t ∷ P) n =
      let e : suc (next (n + d) t) ≡ suc (next n t) + d = let p = next_shift d t n in omega arith in
      ap (λ m. next_after same m P) e ∙ program_shift d P (suc (next n t))

  -- ---- places

  pub places-++ : (places : Slot → ℕ) (n : ℕ) (P Q : List (Command Slot)) →
      places_after same places n (P ++ Q) ≡ places_after same (places_after same places n P) (next_after same n P) Q
  unfolding next_after places_after
  places-++ places n [] Q = refl
  places-++ places n (sets s t ∷ P) Q = places-++ (put same places s (root places n t)) (next n t) P Q
  places-++ places n (needs t ∷ P) Q = places-++ places (suc (next n t)) P Q
  places-++ places n (aims t ∷ P) Q = places-++ places (suc (next n t)) P Q

  -- ---- records

  pub compiled-++ : (places : Slot → ℕ) (n : ℕ) (P Q : List (Command Slot)) →
      compiled same places n (P ++ Q) ≡ compiled same places n P ++ compiled same (places_after same places n P) (next_after same n P) Q
  unfolding next_after places_after compiled
  compiled-++ places n [] Q = refl
  compiled-++ places n (sets s t ∷ P) Q =
      ap (records places n t) (compiled-++ (put same places s (root places n t)) (next n t) P Q) ∙ records-++ places n t _ _
  compiled-++ places n (needs t ∷ P) Q =
      ap (λ x. records places n t (constraint (root places n t) ∷ x)) (compiled-++ places (suc (next n t)) P Q)
      ∙ records-++ places n t (constraint (root places n t) ∷ compiled same places (suc (next n t)) P) _
  compiled-++ places n (aims t ∷ P) Q =
      ap (λ x. records places n t (goal (root places n t) ∷ x)) (compiled-++ places (suc (next n t)) P Q)
      ∙ records-++ places n t (goal (root places n t) ∷ compiled same places (suc (next n t)) P) _

  -- each part at its own places and index
  pub compiled-upto : (places : Slot → ℕ) (n : ℕ) (f : ℕ → List (Command Slot)) (m : ℕ) →
      compiled same places n (upto f m) ≡ upto (λ k. compiled same (places_after same places n (upto f k)) (next_after same n (upto f k)) (f k)) m
  unfolding upto compiled
  compiled-upto places n f zero = refl
  compiled-upto places n f (suc m) =
      compiled-++ places n (upto f m) (f m)
      ∙ ap (λ x. x ++ compiled same (places_after same places n (upto f m)) (next_after same n (upto f m)) (f m)) (compiled-upto places n f m)

  pub compiled-length : (places : Slot → ℕ) (n : ℕ) (P : List (Command Slot)) → n + length (compiled same places n P) ≡ next_after same n P
  unfolding next_after compiled
  compiled-length places n [] = omega arith
  compiled-length places n (sets s t ∷ P) =
      let p = records-length places n t (compiled same (put same places s (root places n t)) (next n t) P) in
      p ∙ compiled-length (put same places s (root places n t)) (next n t) P
  compiled-length places n (needs t ∷ P) =
      let p = records-length places n t (constraint (root places n t) ∷ compiled same places (suc (next n t)) P) in
      let q = compiled-length places (suc (next n t)) P in
      omega arith
  compiled-length places n (aims t ∷ P) =
      let p = records-length places n t (goal (root places n t) ∷ compiled same places (suc (next n t)) P) in
      let q = compiled-length places (suc (next n t)) P in
      omega arith

  -- ---- values

  module _ (g : Assignment) where
    pub values-++ : (slots : Slot → Value) (P Q : List (Command Slot)) →
        values_after same g slots (P ++ Q) ≡ values_after same g (values_after same g slots P) Q
    unfolding values_after
    values-++ slots [] Q = refl
    values-++ slots (sets s t ∷ P) Q = values-++ (put same slots s (tree_value g slots t)) P Q
    values-++ slots (needs t ∷ P) Q = values-++ slots P Q
    values-++ slots (aims t ∷ P) Q = values-++ slots P Q

    and_assoc : (a b c : Bool) → (a && (b && c)) ≡ ((a && b) && c)
    and_assoc true b c = refl
    and_assoc false b c = refl

    pub holds-++ : (slots : Slot → Value) (P Q : List (Command Slot)) →
        program_holds same g slots (P ++ Q) ≡ (program_holds same g slots P && program_holds same g (values_after same g slots P) Q)
    unfolding values_after program_holds
    holds-++ slots [] Q = refl
    holds-++ slots (sets s t ∷ P) Q = holds-++ (put same slots s (tree_value g slots t)) P Q
    holds-++ slots (needs t ∷ P) Q = ap (λ x. as_bit (tree_value g slots t) && x) (holds-++ slots P Q) ∙ and_assoc (as_bit (tree_value g slots t)) _ _
    holds-++ slots (aims t ∷ P) Q = ap (λ x. as_bit (tree_value g slots t) && x) (holds-++ slots P Q) ∙ and_assoc (as_bit (tree_value g slots t)) _ _
