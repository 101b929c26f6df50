-- Laws of a choice by a test, and of tests joined. Assumes nothing.
use Rattle.std.proofs.Common.{◌≡◌, ℕ, Bool, true, false, cond, not, ◌&&◌, ◌||◌, eqb, ltb, leb, sym, refl, ap, ◌∙◌, true≢false, ltb-false, ltb-true, eq-eqb, ne_eqb, eqb-true, le-leb}
use borrow.Author.Tests.{lt-leb, eqb-false}
use mir.Val.{bool_byte}

-- what a test that came out one way chooses
pub chosen : {A : Type 0} {b : Bool} (x y : A) → b ≡ true → cond b x y ≡ x
chosen x y e = ap (λ (b : Bool). cond b x y) e

pub passed : {A : Type 0} {b : Bool} (x y : A) → b ≡ false → cond b x y ≡ y
passed x y e = ap (λ (b : Bool). cond b x y) e

-- what holds of both answers holds of the chosen one
pub cond_both : {A : Type 0} (P : A → Type 0) (b : Bool) {x y : A} → P x → P y → P (cond b x y)
cond_both P true p q = p
cond_both P false p q = q

-- a function goes into both answers
pub cond-ap : {A B : Type 0} (f : A → B) (b : Bool) (x y : A) → f (cond b x y) ≡ cond b (f x) (f y)
cond-ap f true x y = refl
cond-ap f false x y = refl

-- a test as the number that a cast makes of it
pub cast_test : (b : Bool) → bool_byte b ≡ cond b 1 0
cast_test true = refl
cast_test false = refl

pub and_true : {a b : Bool} → a ≡ true → b ≡ true → (a && b) ≡ true
and_true {a} {b} p q = ap (λ (x : Bool). x && b) p ∙ q

pub and_false : {a : Bool} (b : Bool) → a ≡ false → (a && b) ≡ false
and_false b p = ap (λ (x : Bool). x && b) p

pub and_right_false : (a : Bool) {b : Bool} → b ≡ false → (a && b) ≡ false
and_right_false true q = q
and_right_false false q = refl

pub and_left : (a b : Bool) → (a && b) ≡ true → a ≡ true
and_left true b e = refl
and_left false b e = e

pub and_right : (a b : Bool) → (a && b) ≡ true → b ≡ true
and_right true b e = e
and_right false b e = absurd (true≢false (sym e))

pub or_true : {a : Bool} (b : Bool) → a ≡ true → (a || b) ≡ true
or_true b p = ap (λ (x : Bool). x || b) p

pub or_false : {a b : Bool} → a ≡ false → b ≡ false → (a || b) ≡ false
or_false {a} {b} p q = ap (λ (x : Bool). x || b) p ∙ q

pub or_right_true : (a : Bool) {b : Bool} → b ≡ true → (a || b) ≡ true
or_right_true true q = refl
or_right_true false q = q

-- a test that is not true
pub refuted : (b : Bool) → (b ≡ true → ⊥) → b ≡ false
refuted true f = absurd (f refl)
refuted false f = refl

-- a test that decides alone
pub and_yes : (b : Bool) → (b && true) ≡ b
and_yes true = refl
and_yes false = refl

pub or_no : (b : Bool) → (b || false) ≡ b
or_no true = refl
or_no false = refl

pub clash : {A : Type 0} {b : Bool} → b ≡ true → b ≡ false → A
clash p q = absurd (true≢false (sym p ∙ q))

-- below is not at least
pub ltb-not : (a b : ℕ) → ltb a b ≡ not (leb b a)
ltb-not a b = go (ltb a b) refl
  where
    go : (t : Bool) → ltb a b ≡ t → ltb a b ≡ not (leb b a)
    go true e = e ∙ sym (ap not (lt-leb b a (ltb-true a b e)))
    go false e = e ∙ sym (ap not (le-leb b a (ltb-false a b e)))

-- both parts of a disjunction that fails
pub or_left : (a b : Bool) → (a || b) ≡ false → a ≡ false
or_left true b e = e
or_left false b e = refl

pub or_right : (a b : Bool) → (a || b) ≡ false → b ≡ false
or_right true b e = absurd (true≢false e)
or_right false b e = e

-- what follows from either of two tests
pub either : {X : Type 0} (a b : Bool) → (a || b) ≡ true → (a ≡ true → X) → (b ≡ true → X) → X
either true b e f g = f refl
either false b e f g = g e

pub or_three : (a b c : Bool) → ((a || b) || c) ≡ (a || (b || c))
or_three true b c = refl
or_three false b c = refl

-- equality the other way round
pub eqb_swap : (a b : ℕ) → eqb a b ≡ eqb b a
eqb_swap a b = go (eqb a b) refl
  where
    go : (t : Bool) → eqb a b ≡ t → eqb a b ≡ eqb b a
    go true e = e ∙ sym (eq-eqb b a (sym (eqb-true a b e)))
    go false e = e ∙ sym (ne_eqb b a (λ (q : b ≡ a). eqb-false a b e (sym q)))
