-- The table that a program is compiled to means what the program means: no index is left. Assumes nothing.
use Prim.Native.Nat.{ℕ, zero, suc, ◌<◌}
use mathlib.Core.Path.{◌≡◌, refl, ap, ap₂, sym, ◌∙◌, fun_ext}
use mathlib.Core.Bool.{Bool, true, false, cond, ◌&&◌}
use mathlib.Core.List.{List, [], ◌∷◌, ◌++◌}
use native.Mathlib.Omega.{arith}
use borrow.Author.Tests.{eq-eqb, ne_eqb}
use Rattle.base.proofs.Choice.{chosen, passed, cond_both}
use Rattle.table.specs.declared.Formula.{Formula}
use Rattle.table.specs.Values.{Assignment, Value, nil, bit, word, memory, as_bit, value_of, values_from, met, satisfies}
use Rattle.table.specs.Programs.{Leaf, choice_bit, first_memory, constant_bit, constant_word, Unary, not1, top1, Binary, and2, or2, equal2, plus2, minus2, times2, read2, Ternary, if3, write3, leaf_value, unary_value, binary_value, ternary_value, leaf_formula, unary_formula, binary_formula, ternary_formula, constraint, goal, Tree, ref, leaf, unary, binary, ternary, tree_value, next, root, records, Command, sets, needs, aims, put, compiled, program_holds}
use Rattle.table.proofs.Sequences.{grows, inside}

-- ---- the value of one record

module _ (g : Assignment) (values : ℕ → Value) where
  leaf-value : (x : Leaf) → value_of g values (leaf_formula x) ≡ leaf_value g x
  unfolding value_of
  leaf-value (choice_bit step kind thread) = refl
  leaf-value first_memory = refl
  leaf-value (constant_bit true) = refl
  leaf-value (constant_bit false) = refl
  leaf-value (constant_word w) = refl

  unary-value : (o : Unary) (x : ℕ) → value_of g values (unary_formula o x) ≡ unary_value o (values x)
  unfolding value_of
  unary-value not1 x = refl
  unary-value top1 x = refl

  binary-value : (o : Binary) (x y : ℕ) → value_of g values (binary_formula o x y) ≡ binary_value o (values x) (values y)
  unfolding value_of
  binary-value and2 x y = refl
  binary-value or2 x y = refl
  binary-value equal2 x y = refl
  binary-value plus2 x y = refl
  binary-value minus2 x y = refl
  binary-value times2 x y = refl
  binary-value read2 x y = refl

  ternary-value : (o : Ternary) (x y z : ℕ) → value_of g values (ternary_formula o x y z) ≡ ternary_value o (values x) (values y) (values z)
  unfolding value_of
  ternary-value (if3 sort) x y z = refl
  ternary-value write3 x y z = refl

  constraint-value : (x : ℕ) → value_of g values (constraint x) ≡ nil
  unfolding value_of
  constraint-value x = refl

  goal-value : (x : ℕ) → value_of g values (goal x) ≡ nil
  unfolding value_of
  goal-value x = refl

-- ---- a record of a tree demands nothing

module _ (values : ℕ → Value) (rest : List Formula) where
  unary-met : (o : Unary) (x : ℕ) → met values (unary_formula o x ∷ rest) ≡ met values rest
  unfolding met
  unary-met not1 x = refl
  unary-met top1 x = refl

  binary-met : (o : Binary) (x y : ℕ) → met values (binary_formula o x y ∷ rest) ≡ met values rest
  unfolding met
  binary-met and2 x y = refl
  binary-met or2 x y = refl
  binary-met equal2 x y = refl
  binary-met plus2 x y = refl
  binary-met minus2 x y = refl
  binary-met times2 x y = refl
  binary-met read2 x y = refl

  ternary-met : (o : Ternary) (x y z : ℕ) → met values (ternary_formula o x y z ∷ rest) ≡ met values rest
  unfolding met
  ternary-met (if3 sort) x y z = refl
  ternary-met write3 x y z = refl

  leaf-met : (x : Leaf) → met values (leaf_formula x ∷ rest) ≡ met values rest
  unfolding met
  leaf-met (choice_bit step kind thread) = refl
  leaf-met first_memory = refl
  leaf-met (constant_bit v) = refl
  leaf-met (constant_word w) = refl

module _ (g : Assignment) where
  -- `values` gives each record the value that it has among the others
  abbrev Agrees : (ℕ → Value) → ℕ → List Formula → Type 0
  Agrees values n [] = Unit {0}
  Agrees values n (f ∷ table) = (values n ≡ value_of g values f) × Agrees values (suc n) table

  -- ---- trees

  module _ {Slot : Type 0} (values : ℕ → Value) (places : Slot → ℕ) where
    -- a tree's own record has the tree's value
    meant : (t : Tree Slot) (n : ℕ) (rest : List Formula) → Agrees values n (records places n t rest) →
        (values (root places n t) ≡ tree_value g (λ s. values (places s)) t) × Agrees values (next n t) rest
    unfolding records root next
    meant (ref s) n rest h = (refl, h)
    meant (leaf x) n rest h = (h.0 ∙ leaf-value g values x, h.1)
    meant (unary o a) n rest h =
        let p = meant a n _ h in
        (p.1.0 ∙ (unary-value g values o (root places n a) ∙ ap (unary_value o) p.0), p.1.1)
    meant (binary o a b) n rest h =
        let p = meant a n _ h in
        let q = meant b (next n a) _ p.1 in
        (q.1.0 ∙ (binary-value g values o (root places n a) (root places (next n a) b) ∙ ap₂ (binary_value o) p.0 q.0), q.1.1)
    meant (ternary o a b c) n rest h =
        let p = meant a n _ h in
        let q = meant b (next n a) _ p.1 in
        let r = meant c (next (next n a) b) _ q.1 in (
          r.1.0 ∙ (ternary-value g values o (root places n a) (root places (next n a) b) (root places (next (next n a) b) c)
              ∙ (λ i. ternary_value o (p.0 i) (q.0 i) (r.0 i))),
          r.1.1,
        )

    still : (t : Tree Slot) (n : ℕ) (rest : List Formula) → met values (records places n t rest) ≡ met values rest
    unfolding records
    still (ref s) n rest = refl
    still (leaf x) n rest = leaf-met values rest x
    still (unary o a) n rest = still a n _ ∙ unary-met values rest o _
    still (binary o a b) n rest = still a n _ ∙ (still b (next n a) _ ∙ binary-met values rest o _ _)
    still (ternary o a b c) n rest = still a n _ ∙ (still b (next n a) _ ∙ (still c (next (next n a) b) _ ∙ ternary-met values rest o _ _ _))

  -- ---- programs

  module _ {Slot : Type 0} (same : Slot → Slot → Bool) (values : ℕ → Value) where
    chosen-value : (b : Bool) (i j : ℕ) → values (cond b i j) ≡ cond b (values i) (values j)
    chosen-value true i j = refl
    chosen-value false i j = refl

    demanded : (P : List (Command Slot)) (places : Slot → ℕ) (n : ℕ) → Agrees values n (compiled same places n P) →
        met values (compiled same places n P) ≡ program_holds same g (λ s. values (places s)) P
    unfolding compiled met program_holds
    demanded [] places n h = refl
    demanded (sets s t ∷ P) places n h =
        let k = meant values places t n _ h in
        still values places t n _ ∙ (demanded P _ (next n t) k.1
        ∙ ap (λ slots. program_holds same g slots P)
        (fun_ext (λ x. chosen-value (same x s) (root places n t) (places x) ∙ ap (λ v. cond (same x s) v (values (places x))) k.0)))
    demanded (needs t ∷ P) places n h =
        let k = meant values places t n _ h in
        still values places t n _ ∙ ap₂ (λ x y. as_bit x && y) k.0 (demanded P places (suc (next n t)) k.1.1)
    demanded (aims t ∷ P) places n h =
        let k = meant values places t n _ h in
        still values places t n _ ∙ ap₂ (λ x y. as_bit x && y) k.0 (demanded P places (suc (next n t)) k.1.1)

  -- ---- front to back: what stands below n stays

  pub stays : (table : List Formula) (n : ℕ) (values : ℕ → Value) (i : ℕ) → i < n → values_from g n values table i ≡ values i
  unfolding values_from
  stays [] n values i h = refl
  stays (f ∷ table) n values i h = stays table (suc n) _ i (omega arith) ∙ passed _ _ (ne_eqb i n (omega arith))

  -- a record looks only at what stands before it
  abbrev Local : ℕ → Formula → Type 0
  Local n f = (values others : ℕ → Value) → ((i : ℕ) → i < n → values i ≡ others i) → value_of g values f ≡ value_of g others f

  abbrev Scoped : ℕ → List Formula → Type 0
  Scoped n [] = Unit {0}
  Scoped n (f ∷ table) = Local n f × Scoped (suc n) table

  agrees : (table : List Formula) (n : ℕ) (values : ℕ → Value) → Scoped n table → Agrees (values_from g n values table) n table
  unfolding values_from
  agrees [] n values h = tt
  agrees (f ∷ table) n values h = (
    stays table (suc n) _ n (omega arith) ∙ (chosen _ _ (eq-eqb n n refl)
        ∙ h.0 _ _ (λ i k. sym (stays table (suc n) _ i (omega arith) ∙ passed _ _ (ne_eqb i n (omega arith))))),
    agrees table (suc n) _ h.1,
  )

  leaf-local : (n : ℕ) (x : Leaf) → Local n (leaf_formula x)
  leaf-local n x values others e = leaf-value g values x ∙ sym (leaf-value g others x)

  unary-local : (n : ℕ) (o : Unary) (x : ℕ) → x < n → Local n (unary_formula o x)
  unary-local n o x h values others e =
      unary-value g values o x ∙ (ap (unary_value o) (e x h) ∙ sym (unary-value g others o x))

  binary-local : (n : ℕ) (o : Binary) (x y : ℕ) → x < n → y < n → Local n (binary_formula o x y)
  binary-local n o x y h k values others e =
      binary-value g values o x y ∙ (ap₂ (binary_value o) (e x h) (e y k) ∙ sym (binary-value g others o x y))

  ternary-local : (n : ℕ) (o : Ternary) (x y z : ℕ) → x < n → y < n → z < n → Local n (ternary_formula o x y z)
  ternary-local n o x y z h k l values others e =
      ternary-value g values o x y z ∙ ((λ i. ternary_value o (e x h i) (e y k i) (e z l i)) ∙ sym (ternary-value g others o x y z))

  constraint-local : (n x : ℕ) → Local n (constraint x)
  constraint-local n x values others e = constraint-value g values x ∙ sym (constraint-value g others x)

  goal-local : (n x : ℕ) → Local n (goal x)
  goal-local n x values others e = goal-value g values x ∙ sym (goal-value g others x)

  -- ---- every tree over slots that lie below n is scoped

  module _ {Slot : Type 0} where
    scoped : (places : Slot → ℕ) (t : Tree Slot) (n : ℕ) (rest : List Formula) → ((s : Slot) → places s < n) → Scoped (next n t) rest →
        Scoped n (records places n t rest)
    unfolding next root records
    scoped places (ref s) n rest h k = k
    scoped places (leaf x) n rest h k = (leaf-local n x, k)
    scoped places (unary o a) n rest h k =
        scoped places a n _ h (unary-local (next n a) o (root places n a) (inside places a n h), k)
    scoped places (binary o a b) n rest h k =
        let ga = grows a n in
        let gb = grows b (next n a) in
        let ia = inside places a n h in
        let later : (s : Slot) → places s < next n a = λ s. omega (arith, h s) in
        let ib = inside places b (next n a) later in
        scoped places a n _ h (scoped places b (next n a) _ later
        (binary-local (next (next n a) b) o (root places n a) (root places (next n a) b) (omega arith) ib, k))
    scoped places (ternary o a b c) n rest h k =
        let ga = grows a n in
        let gb = grows b (next n a) in
        let gc = grows c (next (next n a) b) in
        let ia = inside places a n h in
        let later : (s : Slot) → places s < next n a = λ s. omega (arith, h s) in
        let last : (s : Slot) → places s < next (next n a) b = λ s. omega (arith, h s) in
        let ib = inside places b (next n a) later in
        let ic = inside places c (next (next n a) b) last in
        scoped places a n _ h (scoped places b (next n a) _ later (scoped places c (next (next n a) b) _ last (
          ternary-local (next (next (next n a) b) c) o (root places n a) (root places (next n a) b) (root places (next (next n a) b) c)
              (omega arith) (omega arith) ic,
          k,
        )))

  module _ {Slot : Type 0} (same : Slot → Slot → Bool) where
    program-scoped : (P : List (Command Slot)) (places : Slot → ℕ) (n : ℕ) → ((s : Slot) → places s < n) → Scoped n (compiled same places n P)
    unfolding compiled
    program-scoped [] places n h = tt
    program-scoped (sets s t ∷ P) places n h =
        let p = grows t n in
        let q = inside places t n h in
        scoped places t n _ h
        (program-scoped P (put same places s (root places n t)) (next n t)
        (λ x. cond_both (λ i. i < next n t) (same x s) {x = root places n t} {y = places x} q (omega (arith, h x))))
    program-scoped (needs t ∷ P) places n h =
        let p = grows t n in
        scoped places t n _ h
        (constraint-local (next n t) (root places n t), program-scoped P places (suc (next n t)) (λ s. omega (arith, h s)))
    program-scoped (aims t ∷ P) places n h =
        let p = grows t n in
        scoped places t n _ h
        (goal-local (next n t) (root places n t), program-scoped P places (suc (next n t)) (λ s. omega (arith, h s)))

-- ---- from the four first records on

-- bits 0 and 1, the word 0, the first memory
abbrev pub first_records : List Formula
first_records = leaf_formula (constant_bit false) ∷ leaf_formula (constant_bit true) ∷ leaf_formula (constant_word 0) ∷ leaf_formula first_memory ∷ []

-- their values
abbrev pub start_value : Assignment → ℕ → Value
start_value g zero = bit false
start_value g (suc zero) = bit true
start_value g (suc (suc zero)) = word 0
start_value g (suc (suc (suc n))) = memory g.first

module _ {Slot : Type 0} (same : Slot → Slot → Bool) (g : Assignment) where
  pub means : (P : List (Command Slot)) (places : Slot → ℕ) → ((s : Slot) → places s < 4) → (slots : Slot → Value) →
      ((s : Slot) → start_value g (places s) ≡ slots s) →
      satisfies g (first_records ++ compiled same places 4 P) ≡ program_holds same g slots P
  unfolding satisfies met
  means P places h slots e =
      let table = first_records ++ compiled same places 4 P in
      let values = values_from g 0 (λ i. nil) table in
      let all : Agrees g values 0 table =
      agrees g table 0 (λ i. nil) (
        leaf-local g 0 (constant_bit false),
        (
          leaf-local g 1 (constant_bit true),
          (
            leaf-local g 2 (constant_word 0),
            (leaf-local g 3 first_memory, program-scoped g same P places 4 h),
          ),
        ),
      ) in
      demanded g same values P places 4 all.1.1.1.1
      ∙ ap (λ slots. program_holds same g slots P)
      (fun_ext (λ s. four values (all.0 ∙ leaf-value g values (constant_bit false)) (all.1.0 ∙ leaf-value g values (constant_bit true))
      (all.1.1.0 ∙ leaf-value g values (constant_word 0)) (all.1.1.1.0 ∙ leaf-value g values first_memory) (places s) (h s) ∙ e s))
    where
      four : (values : ℕ → Value) → values 0 ≡ bit false → values 1 ≡ bit true → values 2 ≡ word 0 → values 3 ≡ memory g.first →
          (i : ℕ) → i < 4 → values i ≡ start_value g i
      four values a b c d zero h = a
      four values a b c d (suc zero) h = b
      four values a b c d (suc (suc zero)) h = c
      four values a b c d (suc (suc (suc zero))) h = d
      four values a b c d (suc (suc (suc (suc i)))) h = absurd (omega arith)
