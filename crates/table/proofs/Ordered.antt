-- The parts of a table in their order: rows of choice bits and steps, as what one number after the other gives. Assumes nothing.
use Prim.Native.Nat.{ℕ, zero, suc, ◌+◌, ◌<◌}
use mathlib.Core.Path.{◌≡◌, refl, ap, ap₂, sym, ◌∙◌}
use mathlib.Core.Bool.{cond}
use mathlib.Core.List.{List, [], ◌∷◌, ◌++◌, append_assoc, append-nil}
use native.Mathlib.Omega.{arith}
use native.Mathlib.Nat.{zero-add}
use borrow.Author.Tests.{eq-eqb, ne_eqb}
use lib.Dec.{eqb}
use Rattle.base.proofs.Choice.{chosen, passed}
use Rattle.table.specs.declared.Formula.{Formula}
use Rattle.table.specs.Tables.{bits, choice_bits, steps}
use Rattle.table.specs.Programs.{choice_bit, leaf_formula, upto}
use Rattle.table.proofs.Sequences.{upto-first, upto_ext}

bits-from : (k kind t n : ℕ) → bits k kind t n ≡ upto (λ i. leaf_formula (choice_bit k kind (t + i)) ∷ []) n
unfolding bits upto
bits-from k kind t zero = refl
bits-from k kind t (suc n) =
    let f : ℕ → List Formula = λ i. leaf_formula (choice_bit k kind (t + i)) ∷ [] in
    let e : t ≡ t + 0 = omega arith in
    ap₂ (λ i x. leaf_formula (choice_bit k kind i) ∷ x) e
    (bits-from k kind (suc t) n ∙ upto_ext _ (λ i. f (suc i)) n (λ i h. ap (λ j. leaf_formula (choice_bit k kind j) ∷ []) (next i)))
    ∙ sym (upto-first f n)
  where
    next : (i : ℕ) → suc t + i ≡ t + suc i
    next i = omega arith

-- the choice bits of one kind in step k
pub bits-upto : (k kind n : ℕ) → bits k kind 0 n ≡ upto (λ i. leaf_formula (choice_bit k kind i) ∷ []) n
bits-upto k kind n = bits-from k kind 0 n ∙ upto_ext _ _ n (λ i h. ap (λ j. leaf_formula (choice_bit k kind j) ∷ []) (zero-add i))

steps-from : (threads : ℕ) (inner : ℕ → List Formula) (k n : ℕ) → steps threads inner k n ≡ upto (λ i. choice_bits threads (k + i) ++ inner (k + i)) n
unfolding steps upto
steps-from threads inner k zero = refl
steps-from threads inner k (suc n) =
    let f : ℕ → List Formula = λ i. choice_bits threads (k + i) ++ inner (k + i) in
    let e : k ≡ k + 0 = omega arith in
    sym (append_assoc (choice_bits threads k) (inner k) (steps threads inner (suc k) n))
    ∙ (ap₂ (λ i x. choice_bits threads i ++ inner i ++ x) e
    (steps-from threads inner (suc k) n ∙ upto_ext _ (λ i. f (suc i)) n (λ i h. ap (λ j. choice_bits threads j ++ inner j) (next i)))
    ∙ sym (upto-first f n))
  where
    next : (i : ℕ) → suc k + i ≡ k + suc i
    next i = omega arith

-- steps one after the other, and what follows the last as a part of it
pub steps-ended : (threads : ℕ) (inner : ℕ → List Formula) (tail : List Formula) (n : ℕ) →
    upto (λ k. choice_bits threads k ++ inner k) (suc n) ++ tail ≡ steps threads (λ k. inner k ++ cond (eqb k n) tail []) 0 (suc n)
unfolding upto
steps-ended threads inner tail n =
    append_assoc (upto (λ k. choice_bits threads k ++ inner k) n) (choice_bits threads n ++ inner n) tail
    ∙ (ap₂ (λ x y. x ++ y)
    (upto_ext (λ k. choice_bits threads k ++ inner k) (λ i. choice_bits threads (0 + i) ++ full (0 + i)) n
    (λ i (h : i < n). (ap (λ x. choice_bits threads i ++ x) (sym (append-nil (inner i)) ∙ ap (λ x. inner i ++ x) (sym (passed tail [] (ne_eqb i n (omega arith))))))
    ∙ ap part (sym (zero-add i))))
    (append_assoc (choice_bits threads n) (inner n) tail ∙ (ap (λ x. choice_bits threads n ++ (inner n ++ x)) (sym (chosen tail [] (eq-eqb n n refl)))
    ∙ ap part (sym (zero-add n))))
    ∙ sym (steps-from threads full 0 (suc n)))
  where
    full : ℕ → List Formula
    full k = inner k ++ cond (eqb k n) tail []

    part : ℕ → List Formula
    part k = choice_bits threads k ++ full k
