-- What slots' values are after the blocks of a step, and what the chain of a tree gives. Assumes nothing.
use Prim.Native.Nat.{ℕ, zero, suc, ◌+◌, ◌≤◌, ◌<◌}
use mathlib.Core.Path.{◌≡◌, refl, ap, ap₂, sym, ◌∙◌}
use mathlib.Core.Bool.{Bool, true, false, cond, not, ◌&&◌, ◌||◌}
use mathlib.Core.List.{List, [], ◌∷◌}
use native.Mathlib.Omega.{arith}
use native.Mathlib.Decide.{ℕ_discrete, dec_lt}
use borrow.Author.Tests.{lt-ltb, le-ltb, ltb-true, eqb-true, not-true, eq-eqb, ne_eqb}
use lib.Dec.{eqb, ltb}
use Rattle.base.proofs.Choice.{chosen, passed, cond_both, and_true, and_left, and_right, and_false, and_right_false, clash}
use Rattle.records.specs.Sets.{Set}
use Rattle.table.proofs.Sequences.{values-++, upto-last, upto-none}
use Rattle.table.specs.Programs.{ref, leaf, unary, binary, ternary, unary_value, binary_value, ternary_value, tree_value, Command, sets, upto, values_after}
use Rattle.table.specs.Values.{Assignment, Value, bit, as_bit}
use Rattle.encoding.specs.Slots.{Kind, Slot, slot, same, Term, kind_number, kind_at}
use Rattle.encoding.specs.Steps.{Link, skip, if_then, and_with, or_with, linked, chain, shape, tree, rows, columns, kept, entry, line, block, blocks}

-- ---- the slots that a tree names

-- every slot that a tree names passes
abbrev pub refs : (Slot → Bool) → Term → Bool
refs test (ref x) = test x
refs test (leaf l) = true
refs test (unary o a) = refs test a
refs test (binary o a b) = refs test a && refs test b
refs test (ternary o a b c) = refs test a && (refs test b && refs test c)

pub refs-both : (test : Slot → Bool) (b : Bool) (t u : Term) → refs test t ≡ true → refs test u ≡ true → refs test (cond b t u) ≡ true
refs-both test b t u = cond_both (λ (t : Term). refs test t ≡ true) b {x = t} {y = u}

-- that a link names
abbrev pub link_refs : (Slot → Bool) → Link → Bool
link_refs test skip = true
link_refs test (if_then sort x y) = test x && test y
link_refs test (and_with x) = test x
link_refs test (or_with x) = test x

pub chain-refs : (test : Slot → Bool) (link : ℕ → Link) (n : ℕ) (base : Term) → refs test base ≡ true → ((i : ℕ) → i < n → link_refs test (link i) ≡ true) → refs test (chain link n base) ≡ true
unfolding chain
chain-refs test link zero base e f = e
chain-refs test link (suc n) base e f = over (link n) (chain link n base) (f n (omega arith)) (chain-refs test link n base e (λ i h. f i (omega arith)))
  where
    over : (l : Link) (v : Term) → link_refs test l ≡ true → refs test v ≡ true → refs test (linked l v) ≡ true
    over skip v p q = q
    over (if_then sort x y) v p q = and_true (and_left (test x) (test y) p) (and_true (and_right (test x) (test y) p) q)
    over (and_with x) v p q = and_true p q
    over (or_with x) v p q = and_true p q

-- slots of another kind, and of this one the one at (a, b)
abbrev pub own : Kind → (a b : ℕ) → Slot → Bool
own kind a b (slot l c d) = not (eqb (kind_number l) (kind_number kind)) || (eqb c a && eqb d b)

-- slots of another kind, and of this one those in row a at columns below b
abbrev pub earlier : Kind → (a b : ℕ) → Slot → Bool
earlier kind a b (slot l c d) = not (eqb (kind_number l) (kind_number kind)) || (eqb c a && ltb d b)

module _ (g : Assignment) where
  -- values that agree on the slots that a tree names give it one value
  pub refs-agree : (test : Slot → Bool) (slots others : Slot → Value) → ((x : Slot) → test x ≡ true → slots x ≡ others x)
      → (v : Term) → refs test v ≡ true → tree_value g slots v ≡ tree_value g others v
  refs-agree test slots others f (ref x) e = f x e
  refs-agree test slots others f (leaf l) e = refl
  refs-agree test slots others f (unary o a) e = ap (unary_value o) (refs-agree test slots others f a e)
  refs-agree test slots others f (binary o a b) e =
      ap₂ (binary_value o) (refs-agree test slots others f a (and_left (refs test a) (refs test b) e)) (refs-agree test slots others f b (and_right (refs test a) (refs test b) e))
  refs-agree test slots others f (ternary o a b c) e =
      let rest = and_right (refs test a) (refs test b && refs test c) e in
      let p = refs-agree test slots others f a (and_left (refs test a) (refs test b && refs test c) e) in
      let q = refs-agree test slots others f b (and_left (refs test b) (refs test c) rest) in
      let r = refs-agree test slots others f c (and_right (refs test b) (refs test c) rest) in
      λ i. ternary_value o (p i) (q i) (r i)

-- ---- chains

module _ (slots : Slot → Value) where
  -- what a link makes of a value
  abbrev pub link_value : Link → Value → Value
  link_value skip v = v
  link_value (if_then sort x y) v = cond (as_bit (slots x)) (slots y) v
  link_value (and_with x) v = bit (as_bit (slots x) && as_bit v)
  link_value (or_with x) v = bit (as_bit (slots x) || as_bit v)

  -- what the first n links make of a value
  unfoldable pub links_value : (ℕ → Link) → ℕ → Value → Value
  links_value link zero v = v
  links_value link (suc n) v = link_value (link n) (links_value link n v)

  pub links-none : (link : ℕ → Link) (v : Value) → links_value link 0 v ≡ v
  unfolding links_value
  links-none link v = refl

  module _ (g : Assignment) where
    pub linked-value : (l : Link) (v : Term) → tree_value g slots (linked l v) ≡ link_value l (tree_value g slots v)
    linked-value skip v = refl
    linked-value (if_then sort x y) v = refl
    linked-value (and_with x) v = refl
    linked-value (or_with x) v = refl

    pub chain-value : (link : ℕ → Link) (n : ℕ) (base : Term) → tree_value g slots (chain link n base) ≡ links_value link n (tree_value g slots base)
    unfolding chain links_value
    chain-value link zero base = refl
    chain-value link (suc n) base = linked-value (link n) (chain link n base) ∙ ap (link_value (link n)) (chain-value link n base)

  -- a link changes nothing: it is skip, or its test is false
  abbrev pub Quiet : Link → Type 0
  Quiet l = (v : Value) → link_value l v ≡ v

  pub quiet_if : (sort : ℕ) (x y : Slot) → as_bit (slots x) ≡ false → Quiet (if_then sort x y)
  quiet_if sort x y e v = passed (slots y) v e

  pub quiet-cond : (b : Bool) (l m : Link) → Quiet l → Quiet m → Quiet (cond b l m)
  quiet-cond true l m p q = p
  quiet-cond false l m p q = q

  pub links-quiet : (link : ℕ → Link) (n : ℕ) (v : Value) → ((i : ℕ) → i < n → Quiet (link i)) → links_value link n v ≡ v
  unfolding links_value
  links-quiet link zero v f = refl
  links-quiet link (suc n) v f = f n (omega arith) (links_value link n v) ∙ links-quiet link n v (λ i h. f i (omega arith))

  -- all links but link p change nothing
  pub links-one : (link : ℕ → Link) (n p : ℕ) (v : Value) → p < n → ((i : ℕ) → i < n → (i ≡ p → ⊥) → Quiet (link i)) → links_value link n v ≡ link_value (link p) v
  unfolding links_value
  links-one link zero p v h f = absurd (omega arith)
  links-one link (suc n) p v h f = elim (ℕ_discrete p n) [
    | yes e ↦ ap (link_value (link n)) (links-quiet link n v (λ i l. f i (omega arith) (λ (q : i ≡ p). omega arith))) ∙ ap (λ i. link_value (link i) v) (sym e)
    | no e ↦ f n (omega arith) (λ (q : n ≡ p). e (sym q)) (links_value link n v) ∙ links-one link n p v (omega arith) (λ i l. f i (omega arith))
  ]

  -- of links whose tests are p = i and `on`, at most link p counts
  pub links-at : (link : ℕ → Link) (n p : ℕ) (on : Bool) (v : Value) → ((i : ℕ) → i < n → (eqb p i && on) ≡ false → Quiet (link i))
      → links_value link n v ≡ cond (ltb p n && on) (link_value (link p) v) v
  links-at link n p true v f = elim (dec_lt p n) [
    | yes h ↦ links-one link n p v h (λ i l e. f i l (and_false true (ne_eqb p i (λ (q : p ≡ i). e (sym q))))) ∙ sym (ap (λ b. cond (b && true) (link_value (link p) v) v) (lt-ltb p n h))
    | no h ↦ links-quiet link n v (λ i l. f i l (and_false true (ne_eqb p i (λ (q : p ≡ i). omega arith)))) ∙ sym (ap (λ b. cond (b && true) (link_value (link p) v) v) (le-ltb p n (omega arith)))
  ]
  links-at link n p false v f = links-quiet link n v (λ i l. f i l (and_right_false (eqb p i) refl)) ∙ sym (ap (λ b. cond b (link_value (link p) v) v) (and_right_false (ltb p n) refl))

-- ---- one entry

module _ (g : Assignment) where
  entry-leaves : (slots : Slot → Value) (b : Bool) (s : Slot) (v : Term) (x : Slot) → same x s ≡ false → values_after same g slots (cond b (sets s v ∷ []) []) x ≡ slots x
  unfolding values_after
  entry-leaves slots true s v x e = passed _ _ e
  entry-leaves slots false s v x e = refl

  entry-sets : (slots : Slot → Value) (b : Bool) (s : Slot) (v : Term) → b ≡ true → same s s ≡ true → values_after same g slots (cond b (sets s v ∷ []) []) s ≡ tree_value g slots v
  unfolding values_after
  entry-sets slots true s v p e = chosen _ _ e
  entry-sets slots false s v p e = clash p refl

  pub values-none : (slots : Slot → Value) → values_after same g slots [] ≡ slots
  unfolding values_after
  values-none slots = refl

-- ---- a kind's block

module _ (g : Assignment) where
  -- the values after one more
  pub values_snoc : (slots : Slot → Value) (f : ℕ → List (Command Slot)) (n : ℕ) → values_after same g slots (upto f (suc n)) ≡ values_after same g (values_after same g slots (upto f n)) (f n)
  values_snoc slots f n = ap (values_after same g slots) (upto-last f n) ∙ values-++ same g slots (upto f n) (f n)

  pub values-zero : (slots : Slot → Value) (f : ℕ → List (Command Slot)) → values_after same g slots (upto f 0) ≡ slots
  values-zero slots f = ap (values_after same g slots) (upto-none f) ∙ values-none g slots

  module _ (S : Set) (cs : List ℕ) (k : ℕ) (kind : Kind) where
    -- the slots' values before the entry in row a and column b
    abbrev pub before_row : (Slot → Value) → ℕ → Slot → Value
    before_row slots a = values_after same g slots (upto (line S cs k kind) a)

    abbrev pub before_column : (Slot → Value) → (a b : ℕ) → Slot → Value
    before_column slots a b = values_after same g slots (upto (entry S cs k kind a) b)

    -- x is none of the first n of row a
    line-leaves : (slots : Slot → Value) (a n : ℕ) (x : Slot) → ((b : ℕ) → b < n → same x (slot kind a b) ≡ false) → before_column slots a n x ≡ slots x
    line-leaves slots a zero x f = ap (λ v. v x) (values-zero slots (entry S cs k kind a))
    line-leaves slots a (suc n) x f =
        ap (λ v. v x) (values_snoc slots (entry S cs k kind a) n)
        ∙ (entry-leaves g (before_column slots a n) (kept S cs k (shape kind) a n) (slot kind a n) (tree S cs k kind a n) x (f n (omega arith))
        ∙ line-leaves slots a n x (λ b h. f b (omega arith)))

    same-own : (a b : ℕ) → same (slot kind a b) (slot kind a b) ≡ true
    same-own a b = and_true (eq-eqb (kind_number kind) (kind_number kind) refl) (and_true (eq-eqb a a refl) (eq-eqb b b refl))

    other-column : (l : Kind) (a c b d : ℕ) → (b ≡ d → ⊥) → same (slot l a b) (slot kind c d) ≡ false
    other-column l a c b d e = and_right_false (eqb (kind_number l) (kind_number kind)) (and_right_false (eqb a c) (ne_eqb b d e))

    other_row : (l : Kind) (a c b d : ℕ) → (a ≡ c → ⊥) → same (slot l a b) (slot kind c d) ≡ false
    other_row l a c b d e = and_right_false (eqb (kind_number l) (kind_number kind)) (and_false (eqb b d) (ne_eqb a c e))

    line_sets : (slots : Slot → Value) (a n b : ℕ) → b < n → kept S cs k (shape kind) a b ≡ true → before_column slots a n (slot kind a b) ≡ tree_value g (before_column slots a b) (tree S cs k kind a b)
    line_sets slots a zero b h e = absurd (omega arith)
    line_sets slots a (suc n) b h e =
        ap (λ v. v (slot kind a b)) (values_snoc slots (entry S cs k kind a) n) ∙ elim (ℕ_discrete b n) [
          | yes p ↦ ap (λ c. values_after same g (before_column slots a c) (entry S cs k kind a c) (slot kind a b)) (sym p)
              ∙ entry-sets g (before_column slots a b) (kept S cs k (shape kind) a b) (slot kind a b) (tree S cs k kind a b) e (same-own a b)
          | no p ↦ entry-leaves g (before_column slots a n) (kept S cs k (shape kind) a n) (slot kind a n) (tree S cs k kind a n) (slot kind a b) (other-column kind a a b n p)
              ∙ line_sets slots a n b (omega arith) e
        ]

    -- what follows column b leaves it
    line-later : (slots : Slot → Value) (a n b : ℕ) (l : Kind) (c d : ℕ) → d < b → b ≤ n → before_column slots a n (slot l c d) ≡ before_column slots a b (slot l c d)
    line-later slots a zero b l c d h r = absurd (omega arith)
    line-later slots a (suc n) b l c d h r = elim (ℕ_discrete b (suc n)) [
      | yes p ↦ ap (λ m. before_column slots a m (slot l c d)) (sym p)
      | no p ↦ ap (λ v. v (slot l c d)) (values_snoc slots (entry S cs k kind a) n)
          ∙ (entry-leaves g (before_column slots a n) (kept S cs k (shape kind) a n) (slot kind a n) (tree S cs k kind a n) (slot l c d) (other-column l c a d n (λ (q : d ≡ n). omega arith))
          ∙ line-later slots a n b l c d h (omega arith))
    ]

    -- x is in none of the first m rows
    rows_leave : (slots : Slot → Value) (m : ℕ) (x : Slot) → ((a b : ℕ) → a < m → same x (slot kind a b) ≡ false) → before_row slots m x ≡ slots x
    rows_leave slots zero x f = ap (λ v. v x) (values-zero slots (line S cs k kind))
    rows_leave slots (suc m) x f =
        ap (λ v. v x) (values_snoc slots (line S cs k kind) m)
        ∙ (line-leaves (before_row slots m) m (columns S cs k (shape kind) m) x (λ b h. f m b (omega arith))
        ∙ rows_leave slots m x (λ a b h. f a b (omega arith)))

    -- what follows row a leaves it
    rows-later : (slots : Slot → Value) (m a : ℕ) (l : Kind) (d : ℕ) → a < m → before_row slots m (slot l a d) ≡ before_column (before_row slots a) a (columns S cs k (shape kind) a) (slot l a d)
    rows-later slots zero a l d h = absurd (omega arith)
    rows-later slots (suc m) a l d h =
        ap (λ v. v (slot l a d)) (values_snoc slots (line S cs k kind) m) ∙ elim (ℕ_discrete a m) [
          | yes p ↦ ap (λ c. values_after same g (before_row slots c) (line S cs k kind c) (slot l a d)) (sym p)
          | no p ↦ line-leaves (before_row slots m) m (columns S cs k (shape kind) m) (slot l a d) (λ b r. other_row l a m d b p)
              ∙ rows-later slots m a l d (omega arith)
        ]

    module _ (slots : Slot → Value) where
      abbrev pub after_block : Slot → Value
      after_block = values_after same g slots (block S cs k kind)

      -- a slot of another kind keeps its value
      pub others : (l : Kind) (a b : ℕ) → eqb (kind_number l) (kind_number kind) ≡ false → after_block (slot l a b) ≡ slots (slot l a b)
      others l a b e = rows_leave slots (rows S cs k (shape kind)) (slot l a b) (λ c d h. and_false (eqb a c && eqb b d) e)

      -- before the entry in row a and column b, slots of another kind
      before-other : (a b : ℕ) (l : Kind) (c d : ℕ) → eqb (kind_number l) (kind_number kind) ≡ false → before_column (before_row slots a) a b (slot l c d) ≡ slots (slot l c d)
      before-other a b l c d e =
          line-leaves (before_row slots a) a b (slot l c d) (λ n h. and_false (eqb c a && eqb d n) e)
          ∙ rows_leave slots a (slot l c d) (λ m n h. and_false (eqb c m && eqb d n) e)

      -- the value that an entry takes, at the slots' values before it
      entered : (a b : ℕ) → a < rows S cs k (shape kind) → b < columns S cs k (shape kind) a → kept S cs k (shape kind) a b ≡ true
          → after_block (slot kind a b) ≡ tree_value g (before_column (before_row slots a) a b) (tree S cs k kind a b)
      entered a b ha hb e =
          rows-later slots (rows S cs k (shape kind)) a kind b ha
          ∙ line_sets (before_row slots a) a (columns S cs k (shape kind) a) b hb e

      -- a tree that names of its own kind its own slot alone has its value at the slots' values before the block
      pub settled : (a b : ℕ) → a < rows S cs k (shape kind) → b < columns S cs k (shape kind) a → kept S cs k (shape kind) a b ≡ true
          → refs (own kind a b) (tree S cs k kind a b) ≡ true → after_block (slot kind a b) ≡ tree_value g slots (tree S cs k kind a b)
      settled a b ha hb e r = entered a b ha hb e ∙ refs-agree g (own kind a b) (before_column (before_row slots a) a b) slots agree (tree S cs k kind a b) r
        where
          agree : (x : Slot) → own kind a b x ≡ true → before_column (before_row slots a) a b x ≡ slots x
          agree (slot l c d) p = go (eqb (kind_number l) (kind_number kind)) refl
            where
              go : (t : Bool) → eqb (kind_number l) (kind_number kind) ≡ t → before_column (before_row slots a) a b (slot l c d) ≡ slots (slot l c d)
              go false q = before-other a b l c d q
              go true q =
                  let both : (eqb c a && eqb d b) ≡ true = sym (ap (λ t. not t || (eqb c a && eqb d b)) q) ∙ p in
                  let here : c ≡ a = eqb-true c a (and_left (eqb c a) (eqb d b) both) in
                  let there : d ≡ b = eqb-true d b (and_right (eqb c a) (eqb d b) both) in
                  line-leaves (before_row slots a) a b (slot l c d) (λ n (h : n < b). other-column l c a d n (λ (z : d ≡ n). omega arith))
                  ∙ rows_leave slots a (slot l c d) (λ m n (h : m < a). other_row l c m d n (λ (z : c ≡ m). omega arith))

      -- a tree that names of its own kind slots before it in its row alone has its value at the slots' values after the block
      pub scanned : (a b : ℕ) → a < rows S cs k (shape kind) → b < columns S cs k (shape kind) a → kept S cs k (shape kind) a b ≡ true
          → refs (earlier kind a b) (tree S cs k kind a b) ≡ true → after_block (slot kind a b) ≡ tree_value g after_block (tree S cs k kind a b)
      scanned a b ha hb e r = entered a b ha hb e ∙ refs-agree g (earlier kind a b) (before_column (before_row slots a) a b) after_block agree (tree S cs k kind a b) r
        where
          agree : (x : Slot) → earlier kind a b x ≡ true → before_column (before_row slots a) a b x ≡ after_block x
          agree (slot l c d) p = go (eqb (kind_number l) (kind_number kind)) refl
            where
              go : (t : Bool) → eqb (kind_number l) (kind_number kind) ≡ t → before_column (before_row slots a) a b (slot l c d) ≡ after_block (slot l c d)
              go false q = before-other a b l c d q ∙ sym (others l c d q)
              go true q =
                  let both : (eqb c a && ltb d b) ≡ true = sym (ap (λ t. not t || (eqb c a && ltb d b)) q) ∙ p in
                  let here : c ≡ a = eqb-true c a (and_left (eqb c a) (ltb d b) both) in
                  let there : d < b = ltb-true d b (and_right (eqb c a) (ltb d b) both) in
                  ap (λ m. before_column (before_row slots a) a b (slot l m d)) here
                  ∙ (sym (line-later (before_row slots a) a (columns S cs k (shape kind) a) b l a d there (omega arith))
                  ∙ (sym (rows-later slots (rows S cs k (shape kind)) a l d ha)
                  ∙ ap (λ m. after_block (slot l m d)) (sym here)))

-- ---- blocks one after the other

-- kind l is none of the n kinds from number j on
abbrev pub misses : Kind → (j n : ℕ) → Bool
misses l j zero = true
misses l j (suc n) = misses l j n && not (eqb (kind_number l) (kind_number (kind_at (j + n))))

module _ (g : Assignment) (S : Set) (cs : List ℕ) (k : ℕ) (slots : Slot → Value) (j : ℕ) where
  -- the values after the n blocks from kind number j on
  abbrev pub through : ℕ → Slot → Value
  through n = values_after same g slots (blocks S cs k j n)

  pub through-none : through 0 ≡ slots
  through-none = values-zero g slots (λ i. block S cs k (kind_at (j + i)))

  pub through-next : (n : ℕ) → through (suc n) ≡ values_after same g (through n) (block S cs k (kind_at (j + n)))
  through-next n = values_snoc g slots (λ i. block S cs k (kind_at (j + i))) n

  -- the d blocks after the first n leave slots of another kind
  pub leaves : (l : Kind) (a b n d : ℕ) → misses l (j + n) d ≡ true → through (n + d) (slot l a b) ≡ through n (slot l a b)
  leaves l a b n zero e = let sum : n + 0 ≡ n = omega arith in ap (λ m. through m (slot l a b)) sum
  leaves l a b n (suc d) e =
      let far = misses l (j + n) d in
      let last = eqb (kind_number l) (kind_number (kind_at (j + n + d))) in
      let sum : j + n + d ≡ j + (n + d) = omega arith in
      let one : n + suc d ≡ suc (n + d) = omega arith in
      ap (λ m. through m (slot l a b)) one
      ∙ (ap (λ v. v (slot l a b)) (through-next (n + d))
      ∙ (others g S cs k (kind_at (j + (n + d))) (through (n + d)) l a b (ap (λ m. eqb (kind_number l) (kind_number (kind_at m))) (sym sum) ∙ not-true last (and_right far (not last) e))
      ∙ leaves l a b n d (and_left far (not last) e)))
