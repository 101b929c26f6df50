-- Laws of the blocks that statements are kept in. Assumes nothing.
use Prim.Native.Nat.{ℕ, ◌+◌, ◌*◌, ◌/◌, ◌%◌, ◌≤◌, ◌<◌}
use mathlib.Core.Path.{◌≡◌, refl, ap, ap₂, sym, ◌∙◌}
use mathlib.Core.List.{List, [], ◌∷◌}
use mathlib.Core.Bool.{cond}
use native.Mathlib.Omega.{arith}
use native.Mathlib.Nat.{add-zero, add_assoc}
use native.Mathlib.Decide.{ℕ_discrete, dec_lt}
use lib.Dec.{eqb}
use lib.ListN.{length, get_or, take, drop}
use lib.Seq.{take_all}
use borrow.Author.Tests.{eq-eqb, ne_eqb}
use Rattle.base.specs.Bytes.{word_at, placed}
use Rattle.base.proofs.Bytes.{length-placed}
use Rattle.base.proofs.Choice.{chosen, passed}
use Rattle.text_lines.specs.declared.Stated.{Stated}
use Rattle.text_drafts.specs.Blocks.{block_at, stored}
use Rattle.text_drafts.proofs.Parts.{part-before, part-after, part_at, byte-part}

-- two drafts that agree on the parts of block j
same_block : (c d : List ℕ) (j : ℕ) → ((a n : ℕ) → 36 * j ≤ a → a + n ≤ 36 * j + 36 → take n (drop a c) ≡ take n (drop a d)) → block_at c j ≡ block_at d j
same_block c d j e =
    λ k. record {
      label = e (36 * j + 4) 16 (omega arith) (omega arith) k;
      number = byte (36 * j) (omega arith) (omega arith) k;
      mode = byte (36 * j + 1) (omega arith) (omega arith) k;
      argument = ap₂ (λ (low high : ℕ). low + 256 * high) (byte (36 * j + 2) (omega arith) (omega arith)) (byte (36 * j + 2 + 1) (omega arith) (omega arith)) k;
      target = e (36 * j + 20) 16 (omega arith) (omega arith) k;
    }
  where
    byte : (a : ℕ) → 36 * j ≤ a → a + 1 ≤ 36 * j + 36 → get_or c a 0 ≡ get_or d a 0
    byte a h h' = byte-part c a ∙ ap (λ (s : List ℕ). get_or s 0 0) (e a 1 h h') ∙ sym (byte-part d a)

-- a statement's parts written into block k: numbers, label, target
module _ (x : Stated) (k : ℕ) (d d₁ d₂ d₃ : List ℕ)
    (e₁ : d₁ ≡ placed d (36 * k) (x.number ∷ x.mode ∷ x.argument % 256 ∷ x.argument / 256 ∷ []))
    (e₂ : d₂ ≡ placed d₁ (36 * k + 4) x.label)
    (e₃ : d₃ ≡ placed d₂ (36 * k + 20) x.target) where
  length₁ : length d₁ ≡ length d
  length₁ = ap length e₁ ∙ length-placed d (36 * k) (x.number ∷ x.mode ∷ x.argument % 256 ∷ x.argument / 256 ∷ [])

  length₂ : length d₂ ≡ length d
  length₂ = ap length e₂ ∙ length-placed d₁ (36 * k + 4) x.label ∙ length₁

  put-length : length d₃ ≡ length d
  put-length = ap length e₃ ∙ length-placed d₂ (36 * k + 20) x.target ∙ length₂

  module _ (room : 36 * k + 36 ≤ length d) (l16 : length x.label ≡ 16) (t16 : length x.target ≡ 16) where
    fits₁ : 36 * k + 4 ≤ length d
    fits₁ = omega arith

    fits₂ : 36 * k + 4 + length x.label ≤ length d₁
    fits₂ = omega (arith, l16, length₁)

    fits₃ : 36 * k + 20 + length x.target ≤ length d₂
    fits₃ = omega (arith, t16, length₂)

    -- parts of the other blocks, and parts of block k
    before : (a n : ℕ) → a + n ≤ 36 * k → take n (drop a d₃) ≡ take n (drop a d)
    before a n h =
        ap (λ (s : List ℕ). take n (drop a s)) e₃ ∙ part-before d₂ (36 * k + 20) x.target fits₃ a n (omega arith)
        ∙ ap (λ (s : List ℕ). take n (drop a s)) e₂ ∙ part-before d₁ (36 * k + 4) x.label fits₂ a n (omega arith)
        ∙ ap (λ (s : List ℕ). take n (drop a s)) e₁ ∙ part-before d (36 * k) _ fits₁ a n h

    after : (a n : ℕ) → 36 * k + 36 ≤ a → take n (drop a d₃) ≡ take n (drop a d)
    after a n h =
        ap (λ (s : List ℕ). take n (drop a s)) e₃ ∙ part-after d₂ (36 * k + 20) x.target fits₃ a n (omega (arith, t16))
        ∙ ap (λ (s : List ℕ). take n (drop a s)) e₂ ∙ part-after d₁ (36 * k + 4) x.label fits₂ a n (omega (arith, l16))
        ∙ ap (λ (s : List ℕ). take n (drop a s)) e₁ ∙ part-after d (36 * k) _ fits₁ a n (omega arith)

    target_is : take 16 (drop (36 * k + 20) d₃) ≡ x.target
    target_is =
        ap (λ (s : List ℕ). take 16 (drop (36 * k + 20) s)) e₃
        ∙ ap (λ (i : ℕ). take 16 (drop i (placed d₂ (36 * k + 20) x.target))) (sym (add-zero (36 * k + 20)))
        ∙ part_at d₂ (36 * k + 20) x.target fits₃ 0 16 (omega (arith, t16))
        ∙ take_all 16 x.target (omega (arith, t16))

    label_is : take 16 (drop (36 * k + 4) d₃) ≡ x.label
    label_is =
        ap (λ (s : List ℕ). take 16 (drop (36 * k + 4) s)) e₃
        ∙ part-before d₂ (36 * k + 20) x.target fits₃ (36 * k + 4) 16 (omega arith)
        ∙ ap (λ (s : List ℕ). take 16 (drop (36 * k + 4) s)) e₂
        ∙ ap (λ (i : ℕ). take 16 (drop i (placed d₁ (36 * k + 4) x.label))) (sym (add-zero (36 * k + 4)))
        ∙ part_at d₁ (36 * k + 4) x.label fits₂ 0 16 (omega (arith, l16))
        ∙ take_all 16 x.label (omega (arith, l16))

    number_is : (i : ℕ) → i < 4 → get_or d₃ (36 * k + i) 0 ≡ get_or (take 1 (drop i (x.number ∷ x.mode ∷ x.argument % 256 ∷ x.argument / 256 ∷ []))) 0 0
    number_is i h =
        byte-part d₃ (36 * k + i)
        ∙ ap (λ (s : List ℕ). get_or s 0 0)
        (ap (λ (s : List ℕ). take 1 (drop (36 * k + i) s)) e₃
        ∙ part-before d₂ (36 * k + 20) x.target fits₃ (36 * k + i) 1 (omega arith)
        ∙ ap (λ (s : List ℕ). take 1 (drop (36 * k + i) s)) e₂
        ∙ part-before d₁ (36 * k + 4) x.label fits₂ (36 * k + i) 1 (omega arith)
        ∙ ap (λ (s : List ℕ). take 1 (drop (36 * k + i) s)) e₁
        ∙ part_at d (36 * k) _ fits₁ i 1 (omega arith))

    word-is : word_at d₃ (36 * k + 2) ≡ x.argument
    word-is =
        ap₂ (λ (low high : ℕ). low + 256 * high) (number_is 2 (omega arith)) (ap (λ (i : ℕ). get_or d₃ i 0) (add_assoc (36 * k) 2 1) ∙ number_is 3 (omega arith))
        ∙ omega arith

    put-block : (j : ℕ) → block_at d₃ j ≡ cond (eqb j k) x (block_at d j)
    put-block j = elim (ℕ_discrete j k) [
      | yes e ↦ rw e (λ i. record {
        label = label_is i;
        number = (ap (λ (a : ℕ). get_or d₃ a 0) (sym (add-zero (36 * k))) ∙ number_is 0 (omega arith)) i;
        mode = number_is 1 (omega arith) i;
        argument = word-is i;
        target = target_is i;
      }) ∙ sym (chosen _ _ (eq-eqb j k e))
      | no f ↦ elim (dec_lt j k) [
        | yes l ↦ same_block d₃ d j (λ a n p q. before a n (omega arith)) ∙ sym (passed _ _ (ne_eqb j k f))
        | no l ↦ same_block d₃ d j (λ a n p q. after a n (omega arith)) ∙ sym (passed _ _ (ne_eqb j k f))
      ]
    ]

-- what a draft with a statement stored in block k holds, where there is room
pub stored-length : (x : Stated) (k : ℕ) (d d' : List ℕ) → d' ≡ stored d k x → length d' ≡ length d
unfolding stored
stored-length x k d d' e = put-length x k d _ _ d' refl refl e

pub stored-block : (x : Stated) (k : ℕ) (d d' : List ℕ) → d' ≡ stored d k x → length x.label ≡ 16 → length x.target ≡ 16 → 36 * k + 36 ≤ length d →
    (j : ℕ) → block_at d' j ≡ cond (eqb j k) x (block_at d j)
unfolding stored
stored-block x k d d' e l16 t16 room j = put-block x k d _ _ d' refl refl e room l16 t16 j
