-- A law of comparing labels. Assumes nothing.
use Rattle.std.proofs.Common.{ℕ, zero, suc, ◌≤◌, ◌≡◌, refl, ap₂, sym, ◌∙◌, List, Bool, ◌&&◌, eqb, length, get_or, drop, drop_of_length-le, le_of_eq, add-one, arith}
use Rattle.base.specs.Below.{every}
use Rattle.base.specs.Bytes.{same}
use Rattle.base.proofs.Bytes.{same_next}
use Rattle.base.proofs.Choice.{and_yes}

-- two lists of n bytes are the same exactly where all n are
pub same-every : (n : ℕ) (a b : List ℕ) → length a ≡ n → length b ≡ n → every n (λ k. eqb (get_or a k 0) (get_or b k 0)) ≡ same a b
unfolding every
same-every n a b h k =
    sym (and_yes (every n test)) ∙ ap₂ (λ (xs ys : List ℕ). every n test && same xs ys) (sym (drop_of_length-le a (le_of_eq h))) (sym (drop_of_length-le b (le_of_eq k)))
    ∙ sym (upto n (omega arith) (omega arith))
  where
    test : ℕ → Bool
    test i = eqb (get_or a i 0) (get_or b i 0)

    upto : (i : ℕ) → i ≤ length a → i ≤ length b → same a b ≡ (every i test && same (drop i a) (drop i b))
    upto zero p q = refl
    upto (suc i) p q = upto i (omega arith) (omega arith) ∙ rw (← add-one) (same_next (every i test) a b i (omega arith) (omega arith))
