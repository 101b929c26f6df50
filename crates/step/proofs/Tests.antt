-- A test that stands before a search over the numbers below a bound. Assumes nothing.
use Prim.Native.Nat.{ℕ, ◌+◌, ◌<◌}
use mathlib.Core.Path.{◌≡◌, refl, ◌∙◌}
use mathlib.Core.Bool.{Bool, true, false, ◌&&◌, ◌||◌}
use native.Mathlib.Numerals.{add-one}
use Rattle.base.specs.Below.{some}
use Rattle.base.proofs.Below.{some_at}
use Rattle.base.proofs.Choice.{and_true, and_left, and_right, or_false}

pub and_or : (l a b : Bool) → (l && (a || b)) ≡ ((l && a) || (l && b))
and_or true a b = refl
and_or false a b = refl

module _ (l : Bool) (test : ℕ → Bool) where
  pub guarded_none : (l && some 0 test) ≡ false
  unfolding some
  guarded_none = no l
    where
      no : (b : Bool) → (b && false) ≡ false
      no true = refl
      no false = refl

  pub guarded_more : (i : ℕ) → (l && some i test) ≡ false → (l && test i) ≡ false → (l && some (i + 1) test) ≡ false
  unfolding some
  guarded_more i p q = rw add-one (and_or l (some i test) (test i) ∙ or_false p q)

  pub guarded_at : (n i : ℕ) → i < n → (l && test i) ≡ true → (l && some n test) ≡ true
  guarded_at n i h e = and_true (and_left l (test i) e) (some_at test n i h (and_right l (test i) e))
