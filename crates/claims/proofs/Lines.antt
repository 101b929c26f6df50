-- Lines and labels (specs/Sections.antt states it): lines part the text, and labels filled up with 0 stay apart. Assumes nothing.
use Prim.Native.Nat.{ℕ, zero, suc, ◌+◌, ◌-◌, ◌≤◌, ◌<◌}
use mathlib.Core.Path.{◌≡◌, refl, ap, ap₂, sym, ◌∙◌}
use mathlib.Core.Bool.{Bool, true, false, cond, not}
use mathlib.Core.List.{List, [], ◌∷◌, ◌++◌}
use native.Mathlib.Omega.{arith}
use native.Mathlib.Decide.{dec_lt}
use lib.Dec.{eqb}
use lib.ListN.{length, get_or, take, drop, get_or-replicate, get_or-eq_default, get_or-append}
use lib.Seq.{get_or-append-add, get_or-drop, take-append_seam}
use borrow.Author.Tests.{ltb-true, eqb-true, eqb-false, not-true, not-false}
use Rattle.std.proofs.lemmas.List.{get_or-take}
use Rattle.std.proofs.lemmas.List.Folds.{length-prefix_len}
use Rattle.std.proofs.lemmas.List.Sums.{prefix_len_passes}
use Rattle.base.specs.Bytes.{same, over}
use Rattle.base.proofs.Bytes.{same_equal}
use Rattle.base.proofs.Choice.{and_left, refuted, clash}
use Rattle.text_lines.specs.Characters.{is_in_line, is_name_byte, run, name}
use Rattle.text_lines.specs.Lines.{extended, lines, unlabelled, padded, is_label}
use Rattle.claims.specs.Sections.{with_lf, LinesPartTheText, LabelsStayApart}

-- ---- lines

abbrev NoLF : List (List ℕ) → Type 0
NoLF ls = (i j : ℕ) → i < length ls → j < length (get_or ls i []) → get_or (get_or ls i []) j 0 ≡ 10 → ⊥

-- there is always a line
some-line : (text : List ℕ) → 0 < length (lines text)
unfolding lines
some-line [] = omega arith
some-line (b ∷ s) = go (is_in_line b) (lines s) (some-line s)
  where
    go : (t : Bool) (ls : List (List ℕ)) → 0 < length ls → 0 < length (cond t (extended b ls) ([] ∷ ls))
    go true [] h = omega arith
    go true (l ∷ ls) h = omega arith
    go false ls h = omega arith

extended-joined : (b : ℕ) (ls : List (List ℕ)) → 0 < length ls → with_lf (extended b ls) ≡ b ∷ with_lf ls
unfolding with_lf
extended-joined b [] h = absurd (omega arith)
extended-joined b (l ∷ []) h = refl
extended-joined b (l ∷ m ∷ ls) h = refl

parted-joined : (ls : List (List ℕ)) → 0 < length ls → with_lf ([] ∷ ls) ≡ 10 ∷ with_lf ls
unfolding with_lf
parted-joined [] h = absurd (omega arith)
parted-joined (l ∷ ls) h = refl

lines-joined : (text : List ℕ) → with_lf (lines text) ≡ text
unfolding lines with_lf
lines-joined [] = refl
lines-joined (b ∷ s) = go (is_in_line b) refl (lines-joined s)
  where
    go : (t : Bool) → is_in_line b ≡ t → with_lf (lines s) ≡ s → with_lf (cond t (extended b (lines s)) ([] ∷ lines s)) ≡ b ∷ s
    go true e ih = extended-joined b (lines s) (some-line s) ∙ ap (λ (r : List ℕ). b ∷ r) ih
    go false e ih = parted-joined (lines s) (some-line s) ∙ ap₂ (λ (c : ℕ) (r : List ℕ). c ∷ r) (sym (eqb-true b 10 (not-false (eqb b 10) e))) ih

extended-parted : (b : ℕ) (ls : List (List ℕ)) → (b ≡ 10 → ⊥) → NoLF ls → NoLF (extended b ls)
extended-parted b [] f g zero zero h l e = f e
extended-parted b [] f g zero (suc j) h l e = absurd (omega arith)
extended-parted b [] f g (suc i) j h l e = absurd (omega arith)
extended-parted b (m ∷ ls) f g zero zero h l e = f e
extended-parted b (m ∷ ls) f g zero (suc j) h l e = g 0 j (omega arith) (omega arith) e
extended-parted b (m ∷ ls) f g (suc i) j h l e = g (suc i) j h l e

empty-parted : (ls : List (List ℕ)) → NoLF ls → NoLF ([] ∷ ls)
empty-parted ls g zero j h l e = absurd (omega arith)
empty-parted ls g (suc i) j h l e = g i j (omega arith) l e

lines-parted : (text : List ℕ) → NoLF (lines text)
unfolding lines
lines-parted [] = empty-parted [] (λ i j h l e. omega arith)
lines-parted (b ∷ s) = go (is_in_line b) refl (lines-parted s)
  where
    go : (t : Bool) → is_in_line b ≡ t → NoLF (lines s) → NoLF (cond t (extended b (lines s)) ([] ∷ lines s))
    go true e g = extended-parted b (lines s) (eqb-false b 10 (not-true (eqb b 10) e)) g
    go false e g = empty-parted (lines s) g

pub lines-part_the_text : LinesPartTheText
lines-part_the_text text = record { joined = lines-joined text; parted = lines-parted text }

-- ---- labels

-- no byte of a name is 0
name-byte : (s : List ℕ) (i : ℕ) → i < length (name s) → get_or (name s) i 0 ≡ 0 → ⊥
name-byte s i h e =
    let n = run is_name_byte s in
    let below : i < n = omega (arith, length-prefix_len is_name_byte s) in
    clash {A = ⊥} (ap is_name_byte (sym e ∙ get_or-take n s i 0 below) ∙ prefix_len_passes is_name_byte s i 0 below) refl

filled : (i : ℕ) → get_or unlabelled i 0 ≡ 0
filled i = elim (dec_lt i 16) [
  | yes h ↦ get_or-replicate 16 i 0 0 h
  | no f ↦ get_or-eq_default unlabelled 0 {n = i} (omega arith)
]

module _ (w : List ℕ) where
  padded-inside : (i : ℕ) → i < length w → get_or (padded w) i 0 ≡ get_or w i 0
  unfolding padded over
  padded-inside i h = get_or-append w (drop (length w) unlabelled) 0 i h

  padded-outside : (i : ℕ) → length w ≤ i → get_or (padded w) i 0 ≡ 0
  unfolding padded over
  padded-outside i h =
      let e : i ≡ length w + (i - length w) = omega arith in
      ap (λ (k : ℕ). get_or (w ++ drop (length w) unlabelled) k 0) e
      ∙ get_or-append-add w (drop (length w) unlabelled) (i - length w) 0
      ∙ get_or-drop (length w) unlabelled (i - length w) 0
      ∙ filled (length w + (i - length w))

  padded-start : take (length w) (padded w) ≡ w
  unfolding padded over
  padded-start = take-append_seam w (drop (length w) unlabelled)

-- names filled up to equal bytes have no less than each other
no_shorter : (s other : List ℕ) → padded (name s) ≡ padded (name other) → length (name other) ≤ length (name s)
no_shorter s other e = elim (dec_lt (length (name s)) (length (name other))) [
  | yes h ↦ absurd (name-byte other (length (name s)) h (sym (padded-inside (name other) (length (name s)) h)
      ∙ ap (λ (p : List ℕ). get_or p (length (name s)) 0) (sym e) ∙ padded-outside (name s) (length (name s)) (omega arith)))
  | no f ↦ omega arith
]

pub labels-stay-apart : LabelsStayApart
unfolding is_label
labels-stay-apart s other label labelled = (ap not (refuted _ different), same_name)
  where
    some : 0 < length (name s)
    some = ltb-true 0 (length (name s)) (and_left _ _ (and_left _ _ label))

    different : same (padded (name s)) unlabelled ≡ true → ⊥
    different e = name-byte s 0 some (sym (padded-inside (name s) 0 some) ∙ ap (λ (p : List ℕ). get_or p 0 0) (same_equal (padded (name s)) unlabelled e))

    same_name : padded (name s) ≡ padded (name other) → name s ≡ name other
    same_name e =
        let long : length (name s) ≡ length (name other) = omega (arith, no_shorter s other e, no_shorter other s (sym e)) in
        sym (padded-start (name s)) ∙ ap₂ (λ (n : ℕ) (p : List ℕ). take n p) long e ∙ padded-start (name other)
