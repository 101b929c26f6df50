-- Laws of the twenty words: which instruction a word names, by its first letter. Assumes nothing.
use Rattle.std.proofs.Common.{ℕ, suc, ◌<◌, ◌≡◌, List, [], ◌∷◌, Bool, true, false, cond, eqb, eqb-true, eq-eqb, refl, sym, ap, ◌∙◌, arith, Option, Some, None, MatchOption, All, get_or}
use Rattle.base.specs.Below.{every, least}
use Rattle.base.specs.Bytes.{same}
use Rattle.base.proofs.Below.{every-at, least-none}
use Rattle.base.proofs.Bytes.{same_equal}
use Rattle.base.proofs.Choice.{chosen, passed, clash, refuted}
use Rattle.records.specs.Instructions.{words, word_of}
use Rattle.records.specs.Numbers.{number}
use Rattle.records.specs.declared.instructions.Instruction.{Instruction}
use Rattle.records.specs.declared.instructions.Instruction.TheVariants.{Load, Store, Fence, Add, Addi, Sub, Subi, Mul, Muli, Jmp, Jz, Jnz, Js, Jns, Jnzns, Mem, Cas, Halt, Exit, Check}

-- the instruction whose word is w
abbrev pub named : List ℕ → ℕ
named w = least 20 (λ n. same w (word_of n))

-- the twenty words differ
different : every 20 (λ n. eqb n (named (word_of n))) ≡ true
unfolding every least words word_of
different = refl

-- w is the word of n
found : (w : List ℕ) (n : ℕ) → n < 20 → same w (word_of n) ≡ true → named w ≡ n
found w n h e = sym (eqb-true n (named (word_of n)) (every-at (λ m. eqb m (named (word_of m))) 20 n different h) ∙ ap named (sym (same_equal w (word_of n) e)))

below : (i : Instruction) → number i < 20
below Load = omega arith
below Store = omega arith
below Fence = omega arith
below Add = omega arith
below Addi = omega arith
below Sub = omega arith
below Subi = omega arith
below Mul = omega arith
below Muli = omega arith
below Jmp = omega arith
below Jz = omega arith
below Jnz = omega arith
below Js = omega arith
below Jns = omega arith
below Jnzns = omega arith
below Mem = omega arith
below Cas = omega arith
below Halt = omega arith
below Exit = omega arith
below Check = omega arith

-- w is no word
unnamed : (w : List ℕ) → ((n : ℕ) → n < 20 → same w (word_of n) ≡ true → ⊥) → named w ≡ 20
unnamed w f = least-none (λ n. same w (word_of n)) 20 (λ n h. refuted (same w (word_of n)) (f n h))

-- ---- by the first letter

-- the first letter of a word
abbrev pub first : List ℕ → ℕ
first w = get_or w 0 0

-- instruction n is one of these
unfoldable pub among : ℕ → List Instruction → Bool
among n [] = false
among n (i ∷ some) = cond (eqb (number i) n) true (among n some)

-- w is the word of none of these
abbrev pub IsNone : List ℕ → List Instruction → Type 0
IsNone w some = All (λ i. same w (word_of (number i)) ≡ false) some

none_at : (w : List ℕ) (some : List Instruction) (n : ℕ) → IsNone w some → among n some ≡ true → same w (word_of n) ≡ false
unfolding among
none_at w [] n f e = clash e refl
none_at w (i ∷ some) n f e = go (none_at w some n (λ k d h. f (suc k) d (omega arith))) (eqb (number i) n) refl
  where
    go : (among n some ≡ true → same w (word_of n) ≡ false) → (b : Bool) → eqb (number i) n ≡ b → same w (word_of n) ≡ false
    go more true p = ap (λ m. same w (word_of m)) (sym (eqb-true (number i) n p)) ∙ f 0 i (omega arith)
    go more false p = more (sym (passed true (among n some) p) ∙ e)

-- the instructions whose words start with x are among these
abbrev pub Starting : ℕ → List Instruction → Type 0
Starting x some = every 20 (λ n. cond (eqb (first (word_of n)) x) (among n some) true) ≡ true

-- w starts with x, and is looked for among the words that do
pub by_letter : (w : List ℕ) (x : ℕ) (some : List Instruction) (r : Option Instruction) → first w ≡ x → Starting x some →
    MatchOption r (IsNone w some) (λ i. same w (word_of (number i)) ≡ true) → MatchOption r (named w ≡ 20) (λ i. named w ≡ number i)
by_letter w x some (Some i) h s e = found w (number i) (below i) e
by_letter w x some None h s f = unnamed w (λ n l e. clash e (none_at w some n f (listed n l e)))
  where
    listed : (n : ℕ) → n < 20 → same w (word_of n) ≡ true → among n some ≡ true
    listed n l e =
        let starts = ap first (sym (same_equal w (word_of n) e)) ∙ h in
        sym (chosen (among n some) true (eq-eqb (first (word_of n)) x starts)) ∙ every-at (λ m. cond (eqb (first (word_of m)) x) (among m some) true) 20 n s l

-- the letters that words start with
unfoldable pub is_letter : ℕ → Bool
is_letter x =
    cond (eqb x 65) true (cond (eqb x 67) true (cond (eqb x 69) true (cond (eqb x 70) true (cond (eqb x 72) true (cond (eqb x 74) true (cond (eqb x 76) true (cond (eqb x 77) true (eqb x 83))))))))

covered : every 20 (λ n. is_letter (first (word_of n))) ≡ true
unfolding every is_letter words word_of
covered = refl

-- w starts with none of them
pub other_letter : (w : List ℕ) → is_letter (first w) ≡ false → named w ≡ 20
other_letter w f = unnamed w (λ n l e. clash (every-at (λ m. is_letter (first (word_of m))) 20 n covered l) (ap (λ v. is_letter (first v)) (sym (same_equal w (word_of n) e)) ∙ f))
