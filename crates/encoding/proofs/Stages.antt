-- A step's next values, block by block: what the slots are after the first n of its last 25 blocks. Assumes nothing.
use Prim.Native.Nat.{ℕ, zero, suc, ◌+◌, ◌-◌, ◌≤◌, ◌<◌}
use mathlib.Core.Path.{◌≡◌, refl, ap, sym, ◌∙◌}
use mathlib.Core.Bool.{Bool, true, false, ◌&&◌, ◌||◌}
use mathlib.Core.List.{List}
use native.Mathlib.Omega.{arith}
use borrow.Author.Tests.{leb-true, ltb-true, ne_eqb}
use lib.Dec.{ltb, leb}
use Rattle.base.proofs.Choice.{and_left, and_right}
use Rattle.records.specs.Sets.{Set, WellFormedSet, nothing}
use Rattle.machine.specs.Machine.{State, permitted}
use Rattle.machine.specs.declared.Choice.{Choice}
use Rattle.table.specs.Programs.{tree_value, values_after}
use Rattle.table.specs.Values.{Assignment, Value}
use Rattle.encoding.specs.Slots.{Kind, Slot, slot, same, kind_number, kind_at}
use Rattle.encoding.specs.Steps.{shape, tree, base, links, link, rows, columns, kept, block}
use Rattle.encoding.proofs.KindNumbers.{kind_at_lem, kind_number_lem}
use Rattle.encoding.proofs.Blocks.{links_value, chain-value, others, through, through-none, through-next}
use Rattle.encoding.proofs.Named.{scans, settled_at, scanned_at}
use Rattle.encoding.proofs.Shown.{Bits, Ready}

-- what the next values of step k are computed from: the state s, where choice c is permitted and the choice bits are those of c
pub record Given (S : Set) (cs : List ℕ) (g : Assignment) (k : ℕ) (slots : Slot → Value) (s : State) (c : Choice) : Type 0 where
  pub well_formed : WellFormedSet S
  pub beyond : (t p : ℕ) → S.count t ≤ p → S.statement t p ≡ nothing
  pub ready : Ready S cs g k slots s
  pub is_permitted : permitted S s c ≡ true
  pub bits : Bits S g k c

-- ---- stages

module _ (S : Set) (cs : List ℕ) (g : Assignment) (k : ℕ) (slots : Slot → Value) where
  -- the slots' values after the first n blocks
  abbrev pub stage : ℕ → Slot → Value
  stage n = through g S cs k slots 11 n

  -- a slot whose kind none of the d blocks after the first n sets
  stays : (l : Kind) (a b n d : ℕ) → n + d ≤ 25 → ((i : ℕ) → n ≤ i → i < n + d → kind_number l ≡ 11 + i → ⊥) → stage (n + d) (slot l a b) ≡ stage n (slot l a b)
  stays l a b n zero h f = let sum : n + 0 ≡ n = omega arith in ap (λ m. stage m (slot l a b)) sum
  stays l a b n (suc d) h f =
      let one_permitted : n + suc d ≡ suc (n + d) = omega arith in
      let number = kind_number_lem (11 + (n + d)) (omega arith) in
      ap (λ m. stage m (slot l a b)) one_permitted
      ∙ (ap (λ v. v (slot l a b)) (through-next g S cs k slots 11 (n + d))
      ∙ (others g S cs k (kind_at (11 + (n + d))) (stage (n + d)) l a b (ne_eqb (kind_number l) (kind_number (kind_at (11 + (n + d)))) (λ (e : kind_number l ≡ kind_number (kind_at (11 + (n + d)))). f (n + d) (omega arith) (omega arith) (e ∙ number)))
      ∙ stays l a b n d (omega arith) (λ i p q. f i p (omega arith))))

  -- a slot that is still as before them: its kind is set before, or after the first n
  pub was : (l : Kind) (a b n : ℕ) → (leb n 25 && (ltb (kind_number l) 11 || leb (11 + n) (kind_number l))) ≡ true → stage n (slot l a b) ≡ slots (slot l a b)
  was l a b n e =
      let none : 0 + n ≡ n = omega arith in
      let few = leb-true n 25 (and_left (leb n 25) (ltb (kind_number l) 11 || leb (11 + n) (kind_number l)) e) in
      ap (λ m. stage m (slot l a b)) (sym none)
      ∙ (stays l a b 0 n (omega arith) (λ i p (q : i < 0 + n) (r : kind_number l ≡ 11 + i). far (ltb (kind_number l) 11) refl (and_right (leb n 25) (ltb (kind_number l) 11 || leb (11 + n) (kind_number l)) e) i (omega arith) r)
      ∙ ap (λ v. v (slot l a b)) (through-none g S cs k slots 11))
    where
      far : (t : Bool) → ltb (kind_number l) 11 ≡ t → (ltb (kind_number l) 11 || leb (11 + n) (kind_number l)) ≡ true → (i : ℕ) → i < n → kind_number l ≡ 11 + i → ⊥
      far true p q i h r = let m = ltb-true (kind_number l) 11 p in omega arith
      far false p q i h r = let m = leb-true (11 + n) (kind_number l) (sym (ap (λ t. t || leb (11 + n) (kind_number l)) p) ∙ q) in omega arith

  -- a slot that is as after the first n blocks: its kind is set in one of them
  pub since : (l : Kind) (a b n m : ℕ) → (leb n m && (leb m 25 && ltb (kind_number l) (11 + n))) ≡ true → stage m (slot l a b) ≡ stage n (slot l a b)
  since l a b n m e = go (leb-true n m (and_left (leb n m) rest e)) (leb-true m 25 (and_left (leb m 25) (ltb (kind_number l) (11 + n)) both)) (ltb-true (kind_number l) (11 + n) (and_right (leb m 25) (ltb (kind_number l) (11 + n)) both))
    where
      rest : Bool
      rest = leb m 25 && ltb (kind_number l) (11 + n)

      both : rest ≡ true
      both = and_right (leb n m) rest e

      go : n ≤ m → m ≤ 25 → kind_number l < 11 + n → stage m (slot l a b) ≡ stage n (slot l a b)
      go p q r =
          let sum : n + (m - n) ≡ m = omega arith in
          ap (λ d. stage d (slot l a b)) (sym sum) ∙ stays l a b n (m - n) (omega arith) (λ i u w (z : kind_number l ≡ 11 + i). omega arith)

  -- the value that a slot takes: of its tree, at the values before its kind's block, or after it where it names slots of its kind
  module _ (n : ℕ) (kind : Kind) (number : 11 + n ≡ kind_number kind) (a b : ℕ) (ha : a < rows S cs k (shape kind)) (hb : b < columns S cs k (shape kind) a) (there : kept S cs k (shape kind) a b ≡ true) where
    abbrev value_at : (Slot → Value) → Value
    value_at v = links_value v (link S cs k kind a b) (links S cs k kind a b) (tree_value g v (base S cs k kind a b))

    next : stage (suc n) ≡ values_after same g (stage n) (block S cs k kind)
    next = through-next g S cs k slots 11 n ∙ ap (λ l. values_after same g (stage n) (block S cs k l)) (ap kind_at number ∙ kind_at_lem kind)

    pub settles : scans kind ≡ false → stage (suc n) (slot kind a b) ≡ value_at (stage n)
    settles e = ap (λ v. v (slot kind a b)) next ∙ (settled_at S cs k g kind (stage n) a b ha hb there e ∙ chain-value (stage n) g (link S cs k kind a b) (links S cs k kind a b) (base S cs k kind a b))

    pub scanned : scans kind ≡ true → stage (suc n) (slot kind a b) ≡ value_at (stage (suc n))
    scanned e =
        ap (λ v. v (slot kind a b)) next ∙ (scanned_at S cs k g kind (stage n) a b ha hb there e
        ∙ (ap (λ v. tree_value g v (tree S cs k kind a b)) (sym next)
        ∙ chain-value (stage (suc n)) g (link S cs k kind a b) (links S cs k kind a b) (base S cs k kind a b)))
