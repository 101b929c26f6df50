-- A step's commands one after the other: what holds of each value's tree, given the slots that were set before it, holds along the step. Assumes nothing.
use Prim.Native.Nat.{ℕ, zero, suc, ◌+◌, ◌≤◌, ◌<◌}
use mathlib.Core.Path.{◌≡◌, refl, ap, sym, ◌∙◌, subst}
use mathlib.Core.Bool.{Bool, true, false, cond, ◌||◌}
use mathlib.Core.List.{List, [], ◌∷◌, ◌++◌}
use native.Mathlib.Omega.{arith}
use native.Mathlib.Decide.{ℕ_discrete, dec_lt}
use borrow.Author.Tests.{eq-eqb}
use Rattle.base.proofs.Choice.{and_true, or_true, or_right_true}
use Rattle.records.specs.Sets.{Set}
use Rattle.table.specs.Programs.{upto, Command, sets, needs, aims}
use Rattle.encoding.specs.Slots.{Kind, Slot, slot, same, Term, kind_number, kind_at}
use Rattle.encoding.specs.Steps.{shape, tree, rows, columns, kept, entry, line, block, blocks, ruled, step}
use Rattle.table.proofs.Sequences.{upto_ext}
use Rattle.encoding.proofs.Split.{rest}
use Rattle.encoding.proofs.KindNumbers.{kind_at_lem, kind_number_lem}

-- ---- slots

same_self : (s : Slot) → same s s ≡ true
same_self (slot k a b) = and_true (eq-eqb (kind_number k) (kind_number k) refl) (and_true (eq-eqb a a refl) (eq-eqb b b refl))

-- ---- the slots that were set

abbrev pub with : (Slot → Bool) → Slot → Slot → Bool
with done s x = same x s || done x

unfoldable pub After : (Slot → Bool) → List (Command Slot) → Slot → Bool
After done [] = done
After done (sets s t ∷ L) = After (with done s) L
After done (needs t ∷ L) = After done L
After done (aims t ∷ L) = After done L

after-++ : (done : Slot → Bool) (L M : List (Command Slot)) → After done (L ++ M) ≡ After (After done L) M
unfolding After
after-++ done [] M = refl
after-++ done (sets s t ∷ L) M = after-++ (with done s) L M
after-++ done (needs t ∷ L) M = after-++ done L M
after-++ done (aims t ∷ L) M = after-++ done L M

after-keeps : (done : Slot → Bool) (L : List (Command Slot)) (x : Slot) → done x ≡ true → After done L x ≡ true
unfolding After
after-keeps done [] x e = e
after-keeps done (sets s t ∷ L) x e = after-keeps (with done s) L x (or_right_true (same x s) e)
after-keeps done (needs t ∷ L) x e = after-keeps done L x e
after-keeps done (aims t ∷ L) x e = after-keeps done L x e

module _ (S : Set) (cs : List ℕ) where
  -- there is a value of this kind for a and b
  pub record There (l : Kind) (a b : ℕ) : Type 0 where
    pub row : a < rows S cs 0 (shape l)
    pub column : b < columns S cs 0 (shape l) a
    pub is : kept S cs 0 (shape l) a b ≡ true

  -- all slots of the first c kinds were set
  abbrev pub Below : ℕ → (Slot → Bool) → Type 0
  Below c done = (l : Kind) (a b : ℕ) → kind_number l < c → There l a b → done (slot l a b) ≡ true

  below-keeps : (c : ℕ) (done : Slot → Bool) (L : List (Command Slot)) → Below c done → Below c (After done L)
  below-keeps c done L h l a b e t = after-keeps done L (slot l a b) (h l a b e t)

  -- what was set before the value of a kind for a and b: what was set at the start, the kinds before, and its row up to it
  pub record SetBefore (start done : Slot → Bool) (kind : Kind) (a b : ℕ) : Type 0 where
    pub from_start : (x : Slot) → start x ≡ true → done x ≡ true
    pub kinds_before : Below (kind_number kind) done
    pub row_before : (d : ℕ) → d < b → kept S cs 0 (shape kind) a d ≡ true → done (slot kind a d) ≡ true

  -- ---- what is set by the entries of a kind

  module _ (kind : Kind) where
    entry_done : (done : Slot → Bool) (a b : ℕ) → kept S cs 0 (shape kind) a b ≡ true → After done (entry S cs 0 kind a b) (slot kind a b) ≡ true
    unfolding After
    entry_done done a b e =
        ap (λ (t : Bool). After done (cond t (sets (slot kind a b) (tree S cs 0 kind a b) ∷ []) []) (slot kind a b)) e ∙ or_true (done (slot kind a b)) (same_self (slot kind a b))

    line-done : (done : Slot → Bool) (a i b : ℕ) → b < i → kept S cs 0 (shape kind) a b ≡ true → After done (upto (entry S cs 0 kind a) i) (slot kind a b) ≡ true
    unfolding upto
    line-done done a zero b h e = absurd (omega arith)
    line-done done a (suc i) b h e =
        ap (λ (f : Slot → Bool). f (slot kind a b)) (after-++ done (upto (entry S cs 0 kind a) i) (entry S cs 0 kind a i)) ∙ elim (ℕ_discrete b i) [
          | yes p ↦ subst (λ (c : ℕ). After (After done (upto (entry S cs 0 kind a) i)) (entry S cs 0 kind a c) (slot kind a b) ≡ true) p (entry_done (After done (upto (entry S cs 0 kind a) i)) a b e)
          | no p ↦ after-keeps (After done (upto (entry S cs 0 kind a) i)) (entry S cs 0 kind a i) (slot kind a b) (line-done done a i b (omega arith) e)
        ]

    block-done : (done : Slot → Bool) (i a b : ℕ) → a < i → b < columns S cs 0 (shape kind) a → kept S cs 0 (shape kind) a b ≡ true → After done (upto (line S cs 0 kind) i) (slot kind a b) ≡ true
    unfolding upto
    block-done done zero a b h l e = absurd (omega arith)
    block-done done (suc i) a b h l e =
        ap (λ (f : Slot → Bool). f (slot kind a b)) (after-++ done (upto (line S cs 0 kind) i) (line S cs 0 kind i)) ∙ elim (ℕ_discrete a i) [
          | yes p ↦ subst (λ (c : ℕ). After (After done (upto (line S cs 0 kind) i)) (line S cs 0 kind c) (slot kind a b) ≡ true) p (line-done (After done (upto (line S cs 0 kind) i)) a (columns S cs 0 (shape kind) a) b l e)
          | no p ↦ after-keeps (After done (upto (line S cs 0 kind) i)) (line S cs 0 kind i) (slot kind a b) (block-done done i a b (omega arith) l e)
        ]

  below_next : (kind : Kind) (done : Slot → Bool) → Below (kind_number kind) done → Below (suc (kind_number kind)) (After done (block S cs 0 kind))
  below_next kind done low l a b h t = elim (dec_lt (kind_number l) (kind_number kind)) [
    | yes below ↦ after-keeps done (block S cs 0 kind) (slot l a b) (low l a b below t)
    | no above ↦
        let numbers : kind_number kind ≡ kind_number l = omega arith in
        let e : kind ≡ l = sym (kind_at_lem kind) ∙ (ap kind_at numbers ∙ kind_at_lem l) in
        subst (λ (x : Kind). After done (block S cs 0 x) (slot l a b) ≡ true) (sym e) (block-done l done (rows S cs 0 (shape l)) a b t.row t.column t.is)
  ]

  -- ---- what holds along a step

  module _ (Holds : (Slot → Bool) → Slot → Term → Type 0) (Demanded : (Slot → Bool) → Term → Type 0) where
    unfoldable pub Along : (Slot → Bool) → List (Command Slot) → Type 0
    Along done [] = Unit
    Along done (sets s t ∷ L) = Holds done s t × Along (with done s) L
    Along done (needs t ∷ L) = Demanded done t × Along done L
    Along done (aims t ∷ L) = Demanded done t × Along done L

    along-++ : (done : Slot → Bool) (L M : List (Command Slot)) → Along done L → Along (After done L) M → Along done (L ++ M)
    unfolding After Along
    along-++ done [] M f g = g
    along-++ done (sets s t ∷ L) M f g = (f.0, along-++ (with done s) L M f.1 g)
    along-++ done (needs t ∷ L) M f g = (f.0, along-++ done L M f.1 g)
    along-++ done (aims t ∷ L) M f g = (f.0, along-++ done L M f.1 g)

    -- kinds from number `least` on
    module _ (least : ℕ) (start : Slot → Bool)
        (each : (kind : Kind) → least ≤ kind_number kind → kind_number kind < 36 → (done : Slot → Bool) (a b : ℕ) → There kind a b → SetBefore start done kind a b → Holds done (slot kind a b) (tree S cs 0 kind a b))
        (rule : (done : Slot → Bool) → ((x : Slot) → start x ≡ true → done x ≡ true) → Below 11 done → Demanded done (ruled S cs 0)) where
      abbrev From : (Slot → Bool) → Type 0
      From done = (x : Slot) → start x ≡ true → done x ≡ true

      from-keeps : (done : Slot → Bool) (L : List (Command Slot)) → From done → From (After done L)
      from-keeps done L h x e = after-keeps done L x (h x e)

      module _ (kind : Kind) (late : least ≤ kind_number kind) (few : kind_number kind < 36) where
        entry-along : (done : Slot → Bool) (a b : ℕ) → a < rows S cs 0 (shape kind) → b < columns S cs 0 (shape kind) a → From done → Below (kind_number kind) done →
            ((d : ℕ) → d < b → kept S cs 0 (shape kind) a d ≡ true → done (slot kind a d) ≡ true) → Along done (entry S cs 0 kind a b)
        unfolding Along
        entry-along done a b ha hb from low left = go (kept S cs 0 (shape kind) a b) refl
          where
            go : (t : Bool) → kept S cs 0 (shape kind) a b ≡ t → Along done (cond t (sets (slot kind a b) (tree S cs 0 kind a b) ∷ []) [])
            go true e = (each kind late few done a b (record { row = ha; column = hb; is = e }) (record { from_start = from; kinds_before = low; row_before = left }), tt)
            go false e = tt

        line-along : (done : Slot → Bool) (a i : ℕ) → a < rows S cs 0 (shape kind) → i ≤ columns S cs 0 (shape kind) a → From done → Below (kind_number kind) done → Along done (upto (entry S cs 0 kind a) i)
        unfolding upto Along
        line-along done a zero ha h from low = tt
        line-along done a (suc i) ha h from low =
            let before = upto (entry S cs 0 kind a) i in
            along-++ done before (entry S cs 0 kind a i) (line-along done a i ha (omega arith) from low)
            (entry-along (After done before) a i ha (omega arith) (from-keeps done before from) (below-keeps (kind_number kind) done before low) (λ d l e. line-done kind done a i d l e))

        block-along : (done : Slot → Bool) (i : ℕ) → i ≤ rows S cs 0 (shape kind) → From done → Below (kind_number kind) done → Along done (upto (line S cs 0 kind) i)
        unfolding upto Along
        block-along done zero h from low = tt
        block-along done (suc i) h from low =
            let before = upto (line S cs 0 kind) i in
            along-++ done before (line S cs 0 kind i) (block-along done i (omega arith) from low)
            (line-along (After done before) i (columns S cs 0 (shape kind) i) (omega arith) (omega arith) (from-keeps done before from) (below-keeps (kind_number kind) done before low))

      blocks-along : (j i : ℕ) → least ≤ j → j + i ≤ 36 → (done : Slot → Bool) → From done → Below j done → Along done (blocks S cs 0 j i) × Below (j + i) (After done (blocks S cs 0 j i))
      unfolding upto Along After
      blocks-along j zero l h done from low = (tt, let e : j ≡ j + 0 = omega arith in subst (λ (c : ℕ). Below c done) e low)
      blocks-along j (suc i) l h done from low =
          let r = blocks-along j i l (omega arith) done from low in
          let mid = After done (blocks S cs 0 j i) in
          let kind = kind_at (j + i) in
          let number : j + i ≡ kind_number kind = sym (kind_number_lem (j + i) (omega arith)) in
          let few : kind_number kind < 36 = omega arith in
          let under : Below (kind_number kind) mid = subst (λ (c : ℕ). Below c mid) number r.1 in
          let e : suc (kind_number kind) ≡ j + suc i = omega arith in
          let f : After mid (block S cs 0 kind) ≡ After done (blocks S cs 0 j (suc i)) = sym (after-++ done (blocks S cs 0 j i) (block S cs 0 kind)) in (
            along-++ done (blocks S cs 0 j i) (block S cs 0 kind) r.0 (block-along kind (omega arith) few mid (rows S cs 0 (shape kind)) (omega arith) (from-keeps done (blocks S cs 0 j i) from) under),
            subst (λ (x : Slot → Bool). Below (j + suc i) x) f (subst (λ (c : ℕ). Below c (After mid (block S cs 0 kind))) e (below_next kind mid under)),
          )

      -- the constraint and the kinds after it, once those before it were set
      later : (done : Slot → Bool) → least ≤ 1 → From done → Below 11 done → Along done (needs (ruled S cs 0) ∷ blocks S cs 0 11 25)
      unfolding Along
      later done l from low = (rule done from low, (blocks-along 11 25 (omega arith) (omega arith) done from low).0)

      pub along-step : least ≡ 0 → Along start (step S cs 0)
      unfolding step
      along-step z =
          let r = blocks-along 0 11 (omega arith) (omega arith) start (λ x e. e) (λ l a b h t. absurd (omega arith)) in
          along-++ start (blocks S cs 0 0 11) (needs (ruled S cs 0) ∷ blocks S cs 0 11 25) r.0
          (later (After start (blocks S cs 0 0 11)) (omega arith) (from-keeps start (blocks S cs 0 0 11) (λ x e. e)) r.1)

      pub along-rest : least ≤ 1 → Below 1 start → Along start (rest S cs)
      unfolding rest
      along-rest l low =
          let r = blocks-along 1 10 l (omega arith) start (λ x e. e) low in
          let e : blocks S cs 0 1 10 ≡ upto (λ i. block S cs 0 (kind_at (suc i))) 10 =
          upto_ext (λ i. block S cs 0 (kind_at (1 + i))) (λ i. block S cs 0 (kind_at (suc i))) 10 (λ i h. ap (λ (j : ℕ). block S cs 0 (kind_at j)) (omega arith)) in
          subst (λ (L : List (Command Slot)). Along start (L ++ (needs (ruled S cs 0) ∷ blocks S cs 0 11 25))) e
          (along-++ start (blocks S cs 0 1 10) (needs (ruled S cs 0) ∷ blocks S cs 0 11 25) r.0
          (later (After start (blocks S cs 0 1 10)) l (from-keeps start (blocks S cs 0 1 10) (λ x e. e)) r.1))
