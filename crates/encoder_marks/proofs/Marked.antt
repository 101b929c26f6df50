-- What the kinds of marks have in common, and which of them is left. Assumes nothing.
use Prim.Native.Nat.{ℕ, ◌<◌}
use mathlib.Core.Path.{◌≡◌, refl, sym, subst}
use mathlib.Core.Bool.{true, ◌||◌}
use mathlib.Core.List.{List}
use native.Mathlib.Omega.{arith}
use lib.Dec.{eqb}
use lib.ListN.{length, get_or}
use borrow.Author.Tests.{eqb-true}
use Rattle.records.specs.Sets.{Set}
use Rattle.machine.specs.Machine.{contains}
use Rattle.encoding.specs.Slots.{Slot, kinds, kind_at, raised, kind_number, held, mark, kind_count}
use Rattle.encoding.specs.Steps.{shape, rows, columns, kept, chain, link, base}
use Rattle.encoder_slots.specs.Pieces.{WritesTree}
use Rattle.encoder_slots.proofs.Entries.{tree_of}
use Rattle.encoder_bases.specs.declared.written.WrittenTree.{WrittenTree}
use Rattle.encoder_bases.specs.SmallTrees.{Puts}
use Rattle.base.proofs.Choice.{either}
use Rattle.encoder_marks.specs.Marked.{marked}

-- what holds of each of the three
each : (P : ℕ → Type 0) → P (kind_number held) → P (kind_number raised) → P (kind_number mark) → (n : ℕ) → marked n ≡ true → P n
each P one two three n e =
    either (eqb n (kind_number held) || eqb n (kind_number raised)) (eqb n (kind_number mark)) e
    (λ e. either (eqb n (kind_number held)) (eqb n (kind_number raised)) e (λ h. subst P (sym (eqb-true n (kind_number held) h)) one) (λ h. subst P (sym (eqb-true n (kind_number raised) h)) two))
    (λ h. subst P (sym (eqb-true n (kind_number mark) h)) three)

pub marked-known : (n : ℕ) → marked n ≡ true → n < kind_count
marked-known = each (λ (n : ℕ). n < kind_count) (omega arith) (omega arith) (omega arith)

-- the last one
pub marked-last : (n : ℕ) → marked n ≡ true → (n ≡ kind_number held → ⊥) → (n ≡ kind_number raised → ⊥) → n ≡ kind_number mark
marked-last =
    each (λ (n : ℕ). (n ≡ kind_number held → ⊥) → (n ≡ kind_number raised → ⊥) → n ≡ kind_number mark)
    (λ p q. absurd (p refl)) (λ p q. absurd (q refl)) (λ p q. refl)

module _ (S : Set) (cs : List ℕ) (k : ℕ) where
  pub marked-rows : (n : ℕ) → marked n ≡ true → rows S cs k (shape (kind_at n)) ≡ S.threads
  unfolding kinds
  marked-rows = each (λ (n : ℕ). rows S cs k (shape (kind_at n)) ≡ S.threads) refl refl refl

  pub marked-columns : (t n : ℕ) → marked n ≡ true → columns S cs k (shape (kind_at n)) t ≡ length cs
  unfolding kinds
  marked-columns t = each (λ (n : ℕ). columns S cs k (shape (kind_at n)) t ≡ length cs) refl refl refl

  pub marked-kept : (t p n : ℕ) → marked n ≡ true → kept S cs 0 (shape (kind_at n)) t p ≡ contains S t (get_or cs p 0)
  unfolding kinds
  marked-kept t p = each (λ (n : ℕ). kept S cs 0 (shape (kind_at n)) t p ≡ contains S t (get_or cs p 0)) refl refl refl

  module _ (t p : ℕ) (places : Slot → ℕ) (out : List ℕ) (m : ℕ) (after : List ℕ) (next at : ℕ) where
    -- only RAISED has links
    pub raised_written : (n : ℕ) → n ≡ kind_number raised → WritesTree places (chain (link S cs 0 raised t p) (S.count t) (base S cs k (kind_at n) t p)) out m after next at →
        WritesTree places (tree_of S cs k (kind_at n) t p) out m after next at
    unfolding kinds
    raised_written n e =
        subst (λ (x : ℕ). WritesTree places (chain (link S cs 0 raised t p) (S.count t) (base S cs k (kind_at x) t p)) out m after next at →
        WritesTree places (tree_of S cs k (kind_at x) t p) out m after next at) (sym e) (λ w. w)

    pub mark_written : (n : ℕ) → marked n ≡ true → (n ≡ kind_number raised → ⊥) → WritesTree places (base S cs k (kind_at n) t p) out m after next at →
        WritesTree places (tree_of S cs k (kind_at n) t p) out m after next at
    unfolding kinds chain
    mark_written =
        each (λ (n : ℕ). (n ≡ kind_number raised → ⊥) → WritesTree places (base S cs k (kind_at n) t p) out m after next at → WritesTree places (tree_of S cs k (kind_at n) t p) out m after next at)
        (λ r w. w) (λ r. absurd (r refl)) (λ r w. w)

-- a base of a kind by number
pub put-at : (S : Set) (cs : List ℕ) (k t p : ℕ) (places : Slot → ℕ) (out after : List ℕ) (m : ℕ) (put : WrittenTree) (n l : ℕ) → n ≡ l →
    Puts put places m (base S cs k (kind_at l) t p) out after → Puts put places m (base S cs k (kind_at n) t p) out after
put-at S cs k t p places out after m put n l e = subst (λ (x : ℕ). Puts put places m (base S cs k (kind_at x) t p) out after) (sym e)
