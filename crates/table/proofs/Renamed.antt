-- The same program at other places and from another index on: related places give related records, and related places after it. Assumes nothing.
use Prim.Native.Nat.{ℕ, suc, ◌+◌, ◌≤◌, ◌<◌}
use mathlib.Core.Path.{◌≡◌, refl, ap, sym, ◌∙◌, subst}
use mathlib.Core.Bool.{Bool, true, false, cond}
use mathlib.Core.List.{List, [], ◌∷◌, map}
use native.Mathlib.Omega.{arith}
use native.Mathlib.Decide.{dec_lt}
use lib.Dec.{ltb}
use borrow.Author.Tests.{lt-ltb, le-ltb}
use Rattle.base.proofs.Choice.{chosen, passed}
use Rattle.table.specs.declared.Formula.{Formula}
use Rattle.table.specs.Programs.{Leaf, choice_bit, first_memory, constant_bit, constant_word, Unary, not1, top1, Binary, and2, or2, equal2, plus2, minus2, times2, read2, Ternary, if3, write3, leaf_formula, unary_formula, binary_formula, ternary_formula, constraint, goal, binary_number, ternary_number, Tree, ref, leaf, unary, binary, ternary, next, root, records, Command, sets, needs, aims, put, next_after, places_after, compiled}
use Rattle.table.proofs.Sequences.{grows, next_shift, program-grows}

-- ---- operations with operands are those above 3

leaf-number : (x : Leaf) → (leaf_formula x).operation ≤ 3
leaf-number (choice_bit step kind thread) = omega arith
leaf-number first_memory = omega arith
leaf-number (constant_bit v) = omega arith
leaf-number (constant_word w) = omega arith

-- ---- related records

module _ (Related : ℕ → ℕ → Type 0) where
  -- alike but for the operands; these are related, and what is no operand is the same
  pub record Alike (f g : Formula) : Type 0 where
    pub same_operation : g.operation ≡ f.operation
    pub same_sort : g.sort ≡ f.sort
    pub same_constant : g.constant ≡ f.constant
    pub no_constant : 3 < f.operation → f.constant ≡ 0
    pub operands : 3 < f.operation → Related f.a g.a × Related f.b g.b × Related f.c g.c
    pub fields : f.operation ≤ 3 → (g.a ≡ f.a) × (g.b ≡ f.b) × (g.c ≡ f.c)

  abbrev pub AllAlike : List Formula → List Formula → Type 0
  AllAlike [] [] = Unit
  AllAlike [] (g ∷ gs) = ⊥
  AllAlike (f ∷ fs) [] = ⊥
  AllAlike (f ∷ fs) (g ∷ gs) = Alike f g × AllAlike fs gs

  -- what is written from n on, below a limit, in the one table, and from m on in the other
  module _ (limit : ℕ) where
    abbrev pub FromHere : (n m : ℕ) → Type 0
    FromHere n m = (i : ℕ) → n + i < limit → Related (n + i) (m + i)

    here : (n m : ℕ) → n < limit → FromHere n m → Related n m
    here n m l h =
        let p : n + 0 ≡ n = omega arith in
        let q : m + 0 ≡ m = omega arith in
        subst (λ (x : ℕ). Related n x) q (subst (λ (x : ℕ). Related x (m + 0)) p (h 0 (omega arith)))

    from-later : (n m d : ℕ) → FromHere n m → FromHere (d + n) (d + m)
    from-later n m d h i l =
        let p : n + (d + i) ≡ d + n + i = omega arith in
        let q : m + (d + i) ≡ d + m + i = omega arith in
        subst (λ (x : ℕ). Related (d + n + i) x) q (subst (λ (x : ℕ). Related x (m + (d + i))) p (h (d + i) (omega arith)))

    suc_related : (n m : ℕ) → FromHere n m → FromHere (suc n) (suc m)
    suc_related n m h =
        let p : 1 + n ≡ suc n = omega arith in
        let q : 1 + m ≡ suc m = omega arith in
        subst (λ (x : ℕ). FromHere (suc n) x) q (subst (λ (x : ℕ). FromHere x (1 + m)) p (from-later n m 1 h))

  module _ (zero-related : Related 0 0) where
    leaf-alike : (x : Leaf) → Alike (leaf_formula x) (leaf_formula x)
    leaf-alike x = record {
      same_operation = refl;
      same_sort = refl;
      same_constant = refl;
      no_constant = λ h. let k = leaf-number x in absurd (omega arith);
      operands = λ h. let k = leaf-number x in absurd (omega arith);
      fields = λ h. (refl, refl, refl);
    }

    unary-alike : (o : Unary) (x y : ℕ) → Related x y → Alike (unary_formula o x) (unary_formula o y)
    unary-alike not1 x y r = record { same_operation = refl; same_sort = refl; same_constant = refl; no_constant = λ h. refl; operands = λ h. (r, zero-related, zero-related); fields = λ h. absurd (omega arith) }
    unary-alike top1 x y r = record { same_operation = refl; same_sort = refl; same_constant = refl; no_constant = λ h. refl; operands = λ h. (r, zero-related, zero-related); fields = λ h. absurd (omega arith) }

    binary-above : (o : Binary) → 3 < binary_number o
    binary-above and2 = omega arith
    binary-above or2 = omega arith
    binary-above equal2 = omega arith
    binary-above plus2 = omega arith
    binary-above minus2 = omega arith
    binary-above times2 = omega arith
    binary-above read2 = omega arith

    binary-alike : (o : Binary) (x y x1 y1 : ℕ) → Related x x1 → Related y y1 → Alike (binary_formula o x y) (binary_formula o x1 y1)
    binary-alike o x y x1 y1 r s = record {
      same_operation = refl;
      same_sort = refl;
      same_constant = refl;
      no_constant = λ h. refl;
      operands = λ h. (r, s, zero-related);
      fields = λ h. let k = binary-above o in absurd (omega arith);
    }

    ternary-above : (o : Ternary) → 3 < ternary_number o
    ternary-above (if3 sort) = omega arith
    ternary-above write3 = omega arith

    ternary-alike : (o : Ternary) (x y z x1 y1 z1 : ℕ) → Related x x1 → Related y y1 → Related z z1 → Alike (ternary_formula o x y z) (ternary_formula o x1 y1 z1)
    ternary-alike o x y z x1 y1 z1 r s t = record {
      same_operation = refl;
      same_sort = refl;
      same_constant = refl;
      no_constant = λ h. refl;
      operands = λ h. (r, s, t);
      fields = λ h. let k = ternary-above o in absurd (omega arith);
    }

    constraint-alike : (x y : ℕ) → Related x y → Alike (constraint x) (constraint y)
    constraint-alike x y r = record { same_operation = refl; same_sort = refl; same_constant = refl; no_constant = λ h. refl; operands = λ h. (r, zero-related, zero-related); fields = λ h. absurd (omega arith) }

    goal-alike : (x y : ℕ) → Related x y → Alike (goal x) (goal y)
    goal-alike x y r = record { same_operation = refl; same_sort = refl; same_constant = refl; no_constant = λ h. refl; operands = λ h. (r, zero-related, zero-related); fields = λ h. absurd (omega arith) }

    module _ {Slot : Type 0} (limit : ℕ) where
      -- ---- trees

      next_related : (t : Tree Slot) (n m : ℕ) → FromHere limit n m → FromHere limit (next n t) (next m t)
      next_related t n m h =
          let u : n ≡ 0 + n = omega arith in
          let v : m ≡ 0 + m = omega arith in
          let p : next n t ≡ next 0 t + n = ap (λ (x : ℕ). next x t) u ∙ next_shift n t 0 in
          let q : next m t ≡ next 0 t + m = ap (λ (x : ℕ). next x t) v ∙ next_shift m t 0 in
          subst (λ (x : ℕ). FromHere limit (next n t) x) (sym q) (subst (λ (x : ℕ). FromHere limit x (next 0 t + m)) (sym p) (from-later limit n m (next 0 t) h))

      module _ (p q : Slot → ℕ) (related : (s : Slot) → Related (p s) (q s)) where
        root_related : (t : Tree Slot) (n m : ℕ) → next n t ≤ limit → FromHere limit n m → Related (root p n t) (root q m t)
        unfolding root next
        root_related (ref s) n m l h = related s
        root_related (leaf x) n m l h = here limit n m (omega arith) h
        root_related (unary o a) n m l h = here limit (next n a) (next m a) (omega arith) (next_related a n m h)
        root_related (binary o a b) n m l h =
            here limit (next (next n a) b) (next (next m a) b) (omega arith) (next_related b (next n a) (next m a) (next_related a n m h))
        root_related (ternary o a b c) n m l h =
            here limit (next (next (next n a) b) c) (next (next (next m a) b) c) (omega arith)
            (next_related c (next (next n a) b) (next (next m a) b) (next_related b (next n a) (next m a) (next_related a n m h)))

        records-alike : (t : Tree Slot) (n m : ℕ) (fs gs : List Formula) → next n t ≤ limit → FromHere limit n m → AllAlike fs gs →
            AllAlike (records p n t fs) (records q m t gs)
        unfolding records next
        records-alike (ref s) n m fs gs l h r = r
        records-alike (leaf x) n m fs gs l h r = (leaf-alike x, r)
        records-alike (unary o a) n m fs gs l h r =
            let la : next n a ≤ limit = omega arith in
            records-alike a n m _ _ la h (unary-alike o _ _ (root_related a n m la h), r)
        records-alike (binary o a b) n m fs gs l h r =
            let k = next_related a n m h in
            let gb = grows b (next n a) in
            let la : next n a ≤ limit = omega arith in
            let lb : next (next n a) b ≤ limit = omega arith in
            records-alike a n m _ _ la h (records-alike b _ _ _ _ lb k (binary-alike o _ _ _ _ (root_related a n m la h) (root_related b _ _ lb k), r))
        records-alike (ternary o a b c) n m fs gs l h r =
            let k = next_related a n m h in
            let j = next_related b (next n a) (next m a) k in
            let gb = grows b (next n a) in
            let gc = grows c (next (next n a) b) in
            let la : next n a ≤ limit = omega arith in
            let lb : next (next n a) b ≤ limit = omega arith in
            let lc : next (next (next n a) b) c ≤ limit = omega arith in
            records-alike a n m _ _ la h (records-alike b _ _ _ _ lb k (records-alike c _ _ _ _ lc j
            (ternary-alike o _ _ _ _ _ _ (root_related a n m la h) (root_related b _ _ lb k) (root_related c _ _ lc j), r)))

      -- ---- programs

      module _ (same : Slot → Slot → Bool) where
        put_related : (p q : Slot → ℕ) (s : Slot) (v w : ℕ) → ((x : Slot) → Related (p x) (q x)) → Related v w → (x : Slot) → Related (put same p s v x) (put same q s w x)
        put_related p q s v w h r x = go (same x s)
          where
            go : (b : Bool) → Related (cond b v (p x)) (cond b w (q x))
            go true = r
            go false = h x

        pub places_related : (P : List (Command Slot)) (p q : Slot → ℕ) (n m : ℕ) → next_after same n P ≤ limit → ((s : Slot) → Related (p s) (q s)) → FromHere limit n m →
            (s : Slot) → Related (places_after same p n P s) (places_after same q m P s)
        unfolding places_after next_after
        places_related [] p q n m l h k s = h s
        places_related (sets x t ∷ P) p q n m l h k s =
            let g = program-grows same P (next n t) in
            let lt : next n t ≤ limit = omega arith in
            places_related P (put same p x (root p n t)) (put same q x (root q m t)) (next n t) (next m t) l
            (put_related p q x (root p n t) (root q m t) h (root_related p q h t n m lt k)) (next_related t n m k) s
        places_related (needs t ∷ P) p q n m l h k s =
            places_related P p q (suc (next n t)) (suc (next m t)) l h (suc_related limit (next n t) (next m t) (next_related t n m k)) s
        places_related (aims t ∷ P) p q n m l h k s =
            places_related P p q (suc (next n t)) (suc (next m t)) l h (suc_related limit (next n t) (next m t) (next_related t n m k)) s

        pub compiled-alike : (P : List (Command Slot)) (p q : Slot → ℕ) (n m : ℕ) → next_after same n P ≤ limit → ((s : Slot) → Related (p s) (q s)) → FromHere limit n m →
            AllAlike (compiled same p n P) (compiled same q m P)
        unfolding compiled next_after
        compiled-alike [] p q n m l h k = tt
        compiled-alike (sets x t ∷ P) p q n m l h k =
            let g = program-grows same P (next n t) in
            let lt : next n t ≤ limit = omega arith in
            records-alike p q h t n m _ _ lt k
            (compiled-alike P (put same p x (root p n t)) (put same q x (root q m t)) (next n t) (next m t) l
            (put_related p q x (root p n t) (root q m t) h (root_related p q h t n m lt k)) (next_related t n m k))
        compiled-alike (needs t ∷ P) p q n m l h k =
            let g = program-grows same P (suc (next n t)) in
            let lt : next n t ≤ limit = omega arith in
            records-alike p q h t n m _ _ lt k (
              constraint-alike _ _ (root_related p q h t n m lt k),
              compiled-alike P p q (suc (next n t)) (suc (next m t)) l h (suc_related limit (next n t) (next m t) (next_related t n m k)),
            )
        compiled-alike (aims t ∷ P) p q n m l h k =
            let g = program-grows same P (suc (next n t)) in
            let lt : next n t ≤ limit = omega arith in
            records-alike p q h t n m _ _ lt k (
              goal-alike _ _ (root_related p q h t n m lt k),
              compiled-alike P p q (suc (next n t)) (suc (next m t)) l h (suc_related limit (next n t) (next m t) (next_related t n m k)),
            )

-- ---- renaming

-- a record with its operands renamed
unfoldable pub renamed : (ℕ → ℕ) → Formula → Formula
renamed f x = cond (ltb 3 x.operation) (record { operation = x.operation; sort = x.sort; constant = x.constant; a = f x.a; b = f x.b; c = f x.c }) x

-- no operand is the place that no record names
pub record Clean (unused : ℕ) (x : Formula) : Type 0 where
  pub clean_a : x.a ≡ unused → ⊥
  pub clean_b : x.b ≡ unused → ⊥
  pub clean_c : x.c ≡ unused → ⊥

abbrev pub AllClean : ℕ → List Formula → Type 0
AllClean unused [] = Unit
AllClean unused (x ∷ xs) = (3 < x.operation → Clean unused x) × AllClean unused xs

-- what holds of a record with operands: they are below the limit, and it has no constant
pub record Bounded (limit : ℕ) (x : Formula) : Type 0 where
  pub bounded_a : x.a < limit
  pub bounded_b : x.b < limit
  pub bounded_c : x.c < limit
  pub constantless : x.constant ≡ 0

abbrev pub AllBounded : ℕ → List Formula → Type 0
AllBounded limit [] = Unit
AllBounded limit (x ∷ xs) = (3 < x.operation → Bounded limit x) × AllBounded limit xs

module _ (f : ℕ → ℕ) (limit unused : ℕ) where
  -- a place below the limit and the same place renamed, unless it is one that no record names
  abbrev pub Renamed : ℕ → ℕ → Type 0
  Renamed x y = (x < limit) × ((x ≡ unused → ⊥) → y ≡ f x)

  bounded : (x y : Formula) → Alike Renamed x y → 3 < x.operation → Bounded limit x
  bounded x y e h = let r = e.operands h in record { bounded_a = r.0.0; bounded_b = r.1.0; bounded_c = r.2.0; constantless = e.no_constant h }

  pub all-bounded : (xs ys : List Formula) → AllAlike Renamed xs ys → AllBounded limit xs
  all-bounded [] ys e = tt
  all-bounded (x ∷ xs) [] e = absurd e
  all-bounded (x ∷ xs) (y ∷ ys) e = (bounded x y e.0, all-bounded xs ys e.1)

  alike-renamed : (x y : Formula) → Alike Renamed x y → (3 < x.operation → Clean unused x) → y ≡ renamed f x
  unfolding renamed
  alike-renamed x y e clean = elim (dec_lt 3 x.operation) [
    | yes h ↦
        let k = clean h in
        let r = e.operands h in
        let p : y.a ≡ f x.a = r.0.1 k.clean_a in
        let q : y.b ≡ f x.b = r.1.1 k.clean_b in
        let s : y.c ≡ f x.c = r.2.1 k.clean_c in
        (λ i. record { operation = e.same_operation i; sort = e.same_sort i; constant = e.same_constant i; a = p i; b = q i; c = s i })
        ∙ sym (chosen _ _ (lt-ltb 3 x.operation h))
    | no h ↦
        let r = e.fields (omega arith) in
        (λ i. record { operation = e.same_operation i; sort = e.same_sort i; constant = e.same_constant i; a = r.0 i; b = r.1 i; c = r.2 i })
        ∙ sym (passed _ _ (le-ltb 3 x.operation (omega arith)))
  ]

  pub all_renamed : (xs ys : List Formula) → AllAlike Renamed xs ys → AllClean unused xs → ys ≡ map (renamed f) xs
  all_renamed [] [] e clean = refl
  all_renamed [] (y ∷ ys) e clean = absurd e
  all_renamed (x ∷ xs) [] e clean = absurd e
  all_renamed (x ∷ xs) (y ∷ ys) e clean = λ i. alike-renamed x y e.0 clean.0 i ∷ all_renamed xs ys e.1 clean.1 i
