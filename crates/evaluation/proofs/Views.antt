-- What it says of a record that it is formed: its operation with the sorts of its operands, and that its fields fit their bytes.
-- Assumes nothing.
use Prim.Native.Nat.{ℕ, ◌≤◌, ◌<◌}
use mathlib.Core.Path.{◌≡◌, refl, sym, ◌∙◌}
use mathlib.Core.Bool.{Bool, true, false, cond, ◌&&◌, ◌||◌}
use native.Mathlib.Omega.{arith}
use borrow.Author.Tests.{eqb-true, ltb-true}
use lib.Dec.{eqb, ltb}
use Rattle.base.proofs.Choice.{chosen, either, passed, and_left, and_right, clash}
use Rattle.table.specs.Formulas.{no_sort, bit_sort, word_sort, memory_sort, CHOICE, FIRST, CONSTANT, NOT, AND, OR, EQUAL, IF, PLUS, MINUS, TIMES, READ, WRITE, TOP, CONSTRAINT, GOAL}
use Rattle.table.specs.Tables.{formed}
use Rattle.table.specs.declared.Formula.{Formula}

-- an earlier record of this sort
abbrev pub Operand : (ℕ → ℕ) → ℕ → ℕ → ℕ → Type 0
Operand sorts n sort i = (i < n) × (sorts i ≡ sort)

-- record n by its operation, among the sorts of the records before it
pub data View (sorts : ℕ → ℕ) (n : ℕ) (f : Formula) : Type 0 where
  is_choice : f.operation ≡ CHOICE → f.sort ≡ bit_sort → View sorts n f
  is_first : f.operation ≡ FIRST → f.sort ≡ memory_sort → View sorts n f
  is_bit : f.operation ≡ CONSTANT → f.sort ≡ bit_sort → f.constant < 2 → View sorts n f
  is_word : f.operation ≡ CONSTANT → f.sort ≡ word_sort → View sorts n f
  is_not : f.operation ≡ NOT → f.sort ≡ bit_sort → Operand sorts n bit_sort f.a → View sorts n f
  is_and : f.operation ≡ AND → f.sort ≡ bit_sort → Operand sorts n bit_sort f.a → Operand sorts n bit_sort f.b → View sorts n f
  is_or : f.operation ≡ OR → f.sort ≡ bit_sort → Operand sorts n bit_sort f.a → Operand sorts n bit_sort f.b → View sorts n f
  is_equal : f.operation ≡ EQUAL → f.sort ≡ bit_sort → f.a < n → f.b < n → View sorts n f
  is_if : f.operation ≡ IF → Operand sorts n bit_sort f.a → Operand sorts n f.sort f.b → Operand sorts n f.sort f.c → View sorts n f
  is_plus : f.operation ≡ PLUS → f.sort ≡ word_sort → f.a < n → f.b < n → View sorts n f
  is_minus : f.operation ≡ MINUS → f.sort ≡ word_sort → f.a < n → f.b < n → View sorts n f
  is_times : f.operation ≡ TIMES → f.sort ≡ word_sort → f.a < n → f.b < n → View sorts n f
  is_read : f.operation ≡ READ → f.sort ≡ word_sort → Operand sorts n memory_sort f.a → f.b < n → View sorts n f
  is_write : f.operation ≡ WRITE → f.sort ≡ memory_sort → Operand sorts n memory_sort f.a → f.b < n → f.c < n → View sorts n f
  is_top : f.operation ≡ TOP → f.sort ≡ bit_sort → f.a < n → View sorts n f
  is_constraint : f.operation ≡ CONSTRAINT → f.sort ≡ no_sort → Operand sorts n bit_sort f.a → View sorts n f
  is_goal : f.operation ≡ GOAL → f.sort ≡ no_sort → Operand sorts n bit_sort f.a → View sorts n f

-- A memory is first memory, a write into a memory, or an if of memories.
pub on-memory : {R : Type 0} (sorts : ℕ → ℕ) (n : ℕ) (f : Formula) → f.sort ≡ memory_sort → View sorts n f →
    (f.operation ≡ FIRST → R) →
    (f.operation ≡ WRITE → Operand sorts n memory_sort f.a → f.b < n → f.c < n → R) →
    (f.operation ≡ IF → Operand sorts n bit_sort f.a → Operand sorts n memory_sort f.b → Operand sorts n memory_sort f.c → R) → R
on-memory sorts n f s (is_first e t) first write either = first e
on-memory sorts n f s (is_write e t a b c) first write either = write e a b c
on-memory sorts n f s (is_if e a b c) first write either = either e a (b.0, b.1 ∙ s) (c.0, c.1 ∙ s)
on-memory sorts n f s (is_choice e t) first write either = absurd (omega arith)
on-memory sorts n f s (is_bit e t k) first write either = absurd (omega arith)
on-memory sorts n f s (is_word e t) first write either = absurd (omega arith)
on-memory sorts n f s (is_not e t a) first write either = absurd (omega arith)
on-memory sorts n f s (is_and e t a b) first write either = absurd (omega arith)
on-memory sorts n f s (is_or e t a b) first write either = absurd (omega arith)
on-memory sorts n f s (is_equal e t a b) first write either = absurd (omega arith)
on-memory sorts n f s (is_plus e t a b) first write either = absurd (omega arith)
on-memory sorts n f s (is_minus e t a b) first write either = absurd (omega arith)
on-memory sorts n f s (is_times e t a b) first write either = absurd (omega arith)
on-memory sorts n f s (is_read e t a b) first write either = absurd (omega arith)
on-memory sorts n f s (is_top e t a) first write either = absurd (omega arith)
on-memory sorts n f s (is_constraint e t a) first write either = absurd (omega arith)
on-memory sorts n f s (is_goal e t a) first write either = absurd (omega arith)

-- its fields fit their bytes
pub record Small (f : Formula) : Type 0 where
  pub small_operation : f.operation < 256
  pub small_sort : f.sort < 256
  pub small_constant : f.constant < 65536
  pub small_a : f.a < 4294967296
  pub small_b : f.b < 4294967296
  pub small_c : f.c < 4294967296

-- the step and the thread of a choice bit fit their bytes
abbrev pub SmallChoice : Formula → Type 0
SmallChoice f = f.operation ≡ CHOICE → (f.a < 4294967296) × (f.c < 4294967296)

-- ---- tests by parts

split : {R : Type 0} (o k : ℕ) {x y : Bool} → cond (eqb o k) x y ≡ true → (o ≡ k → x ≡ true → R) → (y ≡ true → R) → R
split {R} o k {x} {y} e p q = go (eqb o k) refl
  where
    go : (b : Bool) → eqb o k ≡ b → R
    go true t = p (eqb-true o k t) (sym (chosen x y t) ∙ e)
    go false t = q (sym (passed x y t) ∙ e)

split_or : {R : Type 0} (t : Bool) {x y : Bool} → cond t x y ≡ true → (t ≡ true → x ≡ true → R) → (y ≡ true → R) → R
split_or true e p q = p refl e
split_or false e p q = q e

abbrev Five : Bool → Bool → Bool → Bool → Bool → Type 0
Five a b c d e = (a ≡ true) × ((b ≡ true) × ((c ≡ true) × ((d ≡ true) × (e ≡ true))))

five : (a b c d e : Bool) → (a && b && c && d && e) ≡ true → Five a b c d e
five a b c d e h =
    let p = and_left (a && b && c && d) e h in
    let q = and_left (a && b && c) d p in
    let r = and_left (a && b) c q in
    (and_left a b r, (and_right a b r, (and_right (a && b) c q, (and_right (a && b && c) d p, and_right (a && b && c && d) e h))))

-- ---- one record

module _ (sorts : ℕ → ℕ) (n : ℕ) (f : Formula) where
  -- its view, and its fields where the table is not too long for its operands' bytes
  abbrev pub Seen : Type 0
  Seen = View sorts n f × (n ≤ 4294967296 → SmallChoice f → Small f)

  operand_of : (sort i : ℕ) → (ltb i n && eqb (sorts i) sort) ≡ true → Operand sorts n sort i
  operand_of sort i h = (ltb-true i n (and_left (ltb i n) (eqb (sorts i) sort) h), eqb-true (sorts i) sort (and_right (ltb i n) (eqb (sorts i) sort) h))

  zero_of : {i : ℕ} → eqb i 0 ≡ true → i ≡ 0
  zero_of {i} h = eqb-true i 0 h

  -- one operand, two, three
  module _ (k own : ℕ) (l : k < 256) (m : own < 256) (e : f.operation ≡ k) where
    one : (sort : ℕ) → (f.sort ≡ own → Operand sorts n sort f.a → View sorts n f) →
        (eqb f.sort own && (ltb f.a n && eqb (sorts f.a) sort) && eqb f.constant 0 && eqb f.b 0 && eqb f.c 0) ≡ true → Seen
    one sort view h =
        let p = five (eqb f.sort own) (ltb f.a n && eqb (sorts f.a) sort) (eqb f.constant 0) (eqb f.b 0) (eqb f.c 0) h in
        let s : f.sort ≡ own = eqb-true f.sort own p.0 in
        let a = operand_of sort f.a p.1.0 in
        let x : f.a < n = a.0 in
        let z : f.constant ≡ 0 = zero_of p.1.1.0 in
        let b : f.b ≡ 0 = zero_of p.1.1.1.0 in
        let c : f.c ≡ 0 = zero_of p.1.1.1.1 in (
          view s a,
          λ (few : n ≤ 4294967296) small. record {
            small_operation = omega arith;
            small_sort = omega arith;
            small_constant = omega arith;
            small_a = omega arith;
            small_b = omega arith;
            small_c = omega arith;
          },
        )

    two : (first second : ℕ) → (f.sort ≡ own → Operand sorts n first f.a → Operand sorts n second f.b → View sorts n f) →
        (eqb f.sort own && (ltb f.a n && eqb (sorts f.a) first) && (ltb f.b n && eqb (sorts f.b) second) && eqb f.constant 0 && eqb f.c 0) ≡ true →
        Seen
    two first second view h =
        let p = five (eqb f.sort own) (ltb f.a n && eqb (sorts f.a) first) (ltb f.b n && eqb (sorts f.b) second) (eqb f.constant 0) (eqb f.c 0) h in
        let s : f.sort ≡ own = eqb-true f.sort own p.0 in
        let a = operand_of first f.a p.1.0 in
        let b = operand_of second f.b p.1.1.0 in
        let x : f.a < n = a.0 in
        let y : f.b < n = b.0 in
        let z : f.constant ≡ 0 = zero_of p.1.1.1.0 in
        let c : f.c ≡ 0 = zero_of p.1.1.1.1 in (
          view s a b,
          λ (few : n ≤ 4294967296) small. record {
            small_operation = omega arith;
            small_sort = omega arith;
            small_constant = omega arith;
            small_a = omega arith;
            small_b = omega arith;
            small_c = omega arith;
          },
        )

    three : (first second third : ℕ) →
        (f.sort ≡ own → Operand sorts n first f.a → Operand sorts n second f.b → Operand sorts n third f.c → View sorts n f) →
        (eqb f.sort own && (ltb f.a n && eqb (sorts f.a) first) && (ltb f.b n && eqb (sorts f.b) second)
        && (ltb f.c n && eqb (sorts f.c) third) && eqb f.constant 0) ≡ true →
        Seen
    three first second third view h =
        let p = five (eqb f.sort own) (ltb f.a n && eqb (sorts f.a) first) (ltb f.b n && eqb (sorts f.b) second)
        (ltb f.c n && eqb (sorts f.c) third) (eqb f.constant 0) h in
        let s : f.sort ≡ own = eqb-true f.sort own p.0 in
        let a = operand_of first f.a p.1.0 in
        let b = operand_of second f.b p.1.1.0 in
        let c = operand_of third f.c p.1.1.1.0 in
        let x : f.a < n = a.0 in
        let y : f.b < n = b.0 in
        let w : f.c < n = c.0 in
        let z : f.constant ≡ 0 = zero_of p.1.1.1.1 in (
          view s a b c,
          λ (few : n ≤ 4294967296) small. record {
            small_operation = omega arith;
            small_sort = omega arith;
            small_constant = omega arith;
            small_a = omega arith;
            small_b = omega arith;
            small_c = omega arith;
          },
        )

  -- no operand
  none : (k own : ℕ) → k < 256 → own < 256 → f.operation ≡ k → f.sort ≡ own → f.constant < 65536 → View sorts n f →
      (eqb f.a 0 && eqb f.b 0 && eqb f.c 0) ≡ true → Seen
  none k own l m e s z view h =
      let p = and_left (eqb f.a 0 && eqb f.b 0) (eqb f.c 0) h in
      let a : f.a ≡ 0 = zero_of (and_left (eqb f.a 0) (eqb f.b 0) p) in
      let b : f.b ≡ 0 = zero_of (and_right (eqb f.a 0) (eqb f.b 0) p) in
      let c : f.c ≡ 0 = zero_of (and_right (eqb f.a 0 && eqb f.b 0) (eqb f.c 0) h) in (
        view,
        λ (few : n ≤ 4294967296) small. record {
          small_operation = omega arith;
          small_sort = omega arith;
          small_constant = omega arith;
          small_a = omega arith;
          small_b = omega arith;
          small_c = omega arith;
        },
      )

  choice-view : f.operation ≡ CHOICE → (eqb f.sort bit_sort && eqb f.constant 0 && ltb f.b 2) ≡ true → Seen
  choice-view e h =
      let p = and_left (eqb f.sort bit_sort && eqb f.constant 0) (ltb f.b 2) h in
      let s : f.sort ≡ 1 = eqb-true f.sort 1 (and_left (eqb f.sort bit_sort) (eqb f.constant 0) p) in
      let z : f.constant ≡ 0 = zero_of (and_right (eqb f.sort bit_sort) (eqb f.constant 0) p) in
      let b : f.b < 2 = ltb-true f.b 2 (and_right (eqb f.sort bit_sort && eqb f.constant 0) (ltb f.b 2) h) in (
        is_choice e s,
        λ (few : n ≤ 4294967296) small. record {
          small_operation = omega arith;
          small_sort = omega arith;
          small_constant = omega arith;
          small_a = (small e).0;
          small_b = omega arith;
          small_c = (small e).1;
        },
      )

  first-view : f.operation ≡ FIRST → (eqb f.sort memory_sort && eqb f.constant 0 && (eqb f.a 0 && eqb f.b 0 && eqb f.c 0)) ≡ true →
      Seen
  first-view e h =
      let q = eqb f.a 0 && eqb f.b 0 && eqb f.c 0 in
      let p = and_left (eqb f.sort memory_sort && eqb f.constant 0) q h in
      let s : f.sort ≡ 3 = eqb-true f.sort 3 (and_left (eqb f.sort memory_sort) (eqb f.constant 0) p) in
      let z : f.constant ≡ 0 = zero_of (and_right (eqb f.sort memory_sort) (eqb f.constant 0) p) in
      none 2 3 (omega arith) (omega arith) e s (omega arith) (is_first e s) (and_right (eqb f.sort memory_sort && eqb f.constant 0) q h)

  constant_view : f.operation ≡ CONSTANT →
      ((eqb f.sort bit_sort && ltb f.constant 2 || eqb f.sort word_sort && ltb f.constant 65536) && (eqb f.a 0 && eqb f.b 0 && eqb f.c 0)) ≡ true →
      Seen
  constant_view e h =
      let q = eqb f.a 0 && eqb f.b 0 && eqb f.c 0 in
      let t = eqb f.sort bit_sort && ltb f.constant 2 in
      let u = eqb f.sort word_sort && ltb f.constant 65536 in
      let r = and_right (t || u) q h in
      either t u (and_left (t || u) q h)
      (λ p.
      let s : f.sort ≡ 1 = eqb-true f.sort 1 (and_left (eqb f.sort bit_sort) (ltb f.constant 2) p) in
      let z : f.constant < 2 = ltb-true f.constant 2 (and_right (eqb f.sort bit_sort) (ltb f.constant 2) p) in
      none 3 1 (omega arith) (omega arith) e s (omega arith) (is_bit e s z) r)
      (λ p.
      let s : f.sort ≡ 2 = eqb-true f.sort 2 (and_left (eqb f.sort word_sort) (ltb f.constant 65536) p) in
      let z : f.constant < 65536 = ltb-true f.constant 65536 (and_right (eqb f.sort word_sort) (ltb f.constant 65536) p) in
      none 3 2 (omega arith) (omega arith) e s z (is_word e s) r)

  if_view : f.operation ≡ IF → (((eqb f.sort bit_sort || eqb f.sort word_sort) || eqb f.sort memory_sort)
      && (eqb f.sort f.sort && (ltb f.a n && eqb (sorts f.a) bit_sort) && (ltb f.b n && eqb (sorts f.b) f.sort)
      && (ltb f.c n && eqb (sorts f.c) f.sort) && eqb f.constant 0)) ≡ true → Seen
  if_view e h =
      let t = (eqb f.sort bit_sort || eqb f.sort word_sort) || eqb f.sort memory_sort in
      let u = eqb f.sort f.sort && (ltb f.a n && eqb (sorts f.a) bit_sort) && (ltb f.b n && eqb (sorts f.b) f.sort)
      && (ltb f.c n && eqb (sorts f.c) f.sort) && eqb f.constant 0 in
      three 8 f.sort (omega arith) (sort_byte (and_left t u h)) e bit_sort f.sort f.sort (λ s a b c. is_if e a b c) (and_right t u h)
    where
      sort_byte : ((eqb f.sort bit_sort || eqb f.sort word_sort) || eqb f.sort memory_sort) ≡ true → f.sort < 256
      sort_byte p =
          either (eqb f.sort bit_sort || eqb f.sort word_sort) (eqb f.sort memory_sort) p
          (λ q. either (eqb f.sort bit_sort) (eqb f.sort word_sort) q
          (λ r. let s : f.sort ≡ 1 = eqb-true f.sort 1 r in omega arith)
          (λ r. let s : f.sort ≡ 2 = eqb-true f.sort 2 r in omega arith))
          (λ r. let s : f.sort ≡ 3 = eqb-true f.sort 3 r in omega arith)

  pub view_of : formed sorts n f ≡ true → Seen
  unfolding formed
  view_of h =
      let o = f.operation in
      split o CHOICE h choice-view
      (λ h. split o FIRST h first-view
      (λ h. split o CONSTANT h constant_view
      (λ h. split o NOT h (λ e. one 4 1 (omega arith) (omega arith) e bit_sort (is_not e))
      (λ h. split_or (eqb o AND || eqb o OR) h
      (λ t. either (eqb o AND) (eqb o OR) t
      (λ t. let e = eqb-true o AND t in two 5 1 (omega arith) (omega arith) e bit_sort bit_sort (is_and e))
      (λ t. let e = eqb-true o OR t in two 6 1 (omega arith) (omega arith) e bit_sort bit_sort (is_or e)))
      (λ h. split o EQUAL h
      (λ e h. two 7 1 (omega arith) (omega arith) e (sorts f.a) (sorts f.a) (λ s a b. is_equal e s a.0 b.0)
      (and_right (eqb (sorts f.a) bit_sort || eqb (sorts f.a) word_sort) _ h))
      (λ h. split o IF h if_view
      (λ h. split_or ((eqb o PLUS || eqb o MINUS) || eqb o TIMES) h
      (λ t. either (eqb o PLUS || eqb o MINUS) (eqb o TIMES) t
      (λ t. either (eqb o PLUS) (eqb o MINUS) t
      (λ t. let e = eqb-true o PLUS t in two 9 2 (omega arith) (omega arith) e word_sort word_sort (λ s a b. is_plus e s a.0 b.0))
      (λ t. let e = eqb-true o MINUS t in two 10 2 (omega arith) (omega arith) e word_sort word_sort (λ s a b. is_minus e s a.0 b.0)))
      (λ t. let e = eqb-true o TIMES t in two 11 2 (omega arith) (omega arith) e word_sort word_sort (λ s a b. is_times e s a.0 b.0)))
      (λ h. split o READ h (λ e. two 12 2 (omega arith) (omega arith) e memory_sort word_sort (λ s a b. is_read e s a b.0))
      (λ h. split o WRITE h (λ e. three 13 3 (omega arith) (omega arith) e memory_sort word_sort word_sort (λ s a b c. is_write e s a b.0 c.0))
      (λ h. split o TOP h (λ e. one 14 1 (omega arith) (omega arith) e word_sort (λ s a. is_top e s a.0))
      (λ h. split_or (eqb o CONSTRAINT || eqb o GOAL) h
      (λ t. either (eqb o CONSTRAINT) (eqb o GOAL) t
      (λ t. let e = eqb-true o CONSTRAINT t in one 15 0 (omega arith) (omega arith) e bit_sort (is_constraint e))
      (λ t. let e = eqb-true o GOAL t in one 16 0 (omega arith) (omega arith) e bit_sort (is_goal e)))
      (λ h. clash h refl))))))))))))
