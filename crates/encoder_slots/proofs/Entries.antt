-- Entries and lines: what they depend on, and how they are written. Assumes nothing.
use Prim.Native.Nat.{ℕ, zero, suc}
use mathlib.Core.Path.{◌≡◌, refl, ap, sym, ◌∙◌, subst}
use mathlib.Core.Bool.{true, false, ◌&&◌}
use mathlib.Core.List.{List, [], ◌∷◌}
use lib.Dec.{eqb}
use lib.ListN.{length}
use Rattle.base.proofs.Choice.{and_false, chosen, passed, cond_both}
use Rattle.records.specs.Sets.{Set}
use Rattle.table.specs.Programs.{Command, sets, put, compiled, upto, next_after, places_after}
use Rattle.table.proofs.Sequences.{places-++}
use Rattle.encoding.specs.Slots.{Kind, kind_number, choice, active, opening, shut, barred, held, waits, may_execute, none, permitted_first, one_permitted, address, loaded, swaps, result, test, not_test, flush_to, write_to, flush_value, write_value, raised, exits, codes, shared_memory, val, adr, mem, accu, full, halted, flag, mark, halts, ended, code, bit_zero, bit_one, word_zero, word_one, argument, Slot, slot, same, Term, kind_at}
use Rattle.encoding.specs.Steps.{Shape, per_choice, per_thread, per_statement, per_checkpoint, per_mark, before_thread, before_choice, single, shape, chain, link, links, base, tree, kept, entry, line}
use Rattle.encoder_slots.specs.Places.{place_of}
use Rattle.encoder_slots.specs.Pieces.{Writes, WritesTree}
use Rattle.encoder_slots.proofs.Pieces.{writes-none}

-- ---- only a base depends on the step

module _ (S : Set) (cs : List ℕ) (k : ℕ) where
  pub kept_step : (s : Shape) (a b : ℕ) → kept S cs 0 s a b ≡ kept S cs k s a b
  kept_step per_choice a b = refl
  kept_step per_thread a b = refl
  kept_step per_statement a b = refl
  kept_step per_checkpoint a b = refl
  kept_step per_mark a b = refl
  kept_step before_thread a b = refl
  kept_step before_choice a b = refl
  kept_step single a b = refl

  -- a kind's tree, its links as the code asks for them
  pub tree-step : (kind : Kind) (a b : ℕ) → chain (link S cs 0 kind a b) (links S cs 0 kind a b) (base S cs k kind a b) ≡ tree S cs k kind a b
  tree-step choice a b = refl
  tree-step active a b = refl
  tree-step opening a b = refl
  tree-step shut a b = refl
  tree-step barred a b = refl
  tree-step held a b = refl
  tree-step waits a b = refl
  tree-step may_execute a b = refl
  tree-step none a b = refl
  tree-step permitted_first a b = refl
  tree-step one_permitted a b = refl
  tree-step address a b = refl
  tree-step loaded a b = refl
  tree-step swaps a b = refl
  tree-step result a b = refl
  tree-step test a b = refl
  tree-step not_test a b = refl
  tree-step flush_to a b = refl
  tree-step write_to a b = refl
  tree-step flush_value a b = refl
  tree-step write_value a b = refl
  tree-step raised a b = refl
  tree-step exits a b = refl
  tree-step codes a b = refl
  tree-step shared_memory a b = refl
  tree-step val a b = refl
  tree-step adr a b = refl
  tree-step mem a b = refl
  tree-step accu a b = refl
  tree-step full a b = refl
  tree-step halted a b = refl
  tree-step flag a b = refl
  tree-step mark a b = refl
  tree-step halts a b = refl
  tree-step ended a b = refl
  tree-step code a b = refl
  tree-step bit_zero a b = refl
  tree-step bit_one a b = refl
  tree-step word_zero a b = refl
  tree-step word_one a b = refl
  tree-step argument a b = refl

-- ---- one entry

-- a kind's tree as the code writes it
abbrev pub tree_of : Set → List ℕ → ℕ → Kind → (a b : ℕ) → Term
tree_of S cs k kind a b = chain (link S cs 0 kind a b) (links S cs 0 kind a b) (base S cs k kind a b)

module _ (S : Set) (cs : List ℕ) (k : ℕ) (kind : Kind) (a b : ℕ) (out slots : List ℕ) (n : ℕ) where
  pub entry-none : kept S cs 0 (shape kind) a b ≡ false → Writes (entry S cs k kind a b) out slots n out slots n
  entry-none e =
      subst (λ (P : List (Command Slot)). Writes P out slots n out slots n) (sym (passed _ _ (sym (kept_step S cs k (shape kind) a b) ∙ e)))
      (writes-none out slots n)

  set-written : (t : Term) (after slots_after : List ℕ) (m at : ℕ) → WritesTree (place_of slots) t out n after m at →
      place_of slots_after ≡ put same (place_of slots) (slot kind a b) at → length slots_after ≡ length slots →
      Writes (sets (slot kind a b) t ∷ []) out slots n after slots_after m
  unfolding compiled places_after next_after
  set-written t after slots_after m at w p l = record {
    written = w.tree_written;
    places = p ∙ ap (put same (place_of slots) (slot kind a b)) w.tree_root;
    next = w.tree_next;
    slots_stay = l;
  }

  pub entry_kept : (after slots_after : List ℕ) (m at : ℕ) → kept S cs 0 (shape kind) a b ≡ true → WritesTree (place_of slots) (tree_of S cs k kind a b) out n after m at →
      place_of slots_after ≡ put same (place_of slots) (slot kind a b) at → length slots_after ≡ length slots →
      Writes (entry S cs k kind a b) out slots n after slots_after m
  entry_kept after slots_after m at e w p l =
      subst (λ (P : List (Command Slot)). Writes P out slots n after slots_after m) (sym (chosen _ _ (sym (kept_step S cs k (shape kind) a b) ∙ e)))
      (subst (λ (t : Term). Writes (sets (slot kind a b) t ∷ []) out slots n after slots_after m) (tree-step S cs k kind a b)
      (set-written (tree_of S cs k kind a b) after slots_after m at w p l))

-- the line of a kind by number
pub line_at : (S : Set) (cs : List ℕ) (k kind l a : ℕ) → kind ≡ l → (out slots : List ℕ) (n : ℕ) (after slots_after : List ℕ) (m : ℕ) →
    Writes (line S cs k (kind_at l) a) out slots n after slots_after m → Writes (line S cs k (kind_at kind) a) out slots n after slots_after m
line_at S cs k kind l a e out slots n after slots_after m w =
    subst (λ (i : ℕ). Writes (line S cs k (kind_at i) a) out slots n after slots_after m) (sym e) w

-- ---- values of other kinds

-- values of one kind written leave them where they lay
module _ (S : Set) (cs : List ℕ) (k : ℕ) (kind : Kind) (t : ℕ) (other : Kind) (a b : ℕ) (apart : eqb (kind_number other) (kind_number kind) ≡ false) where
  pub entry-apart : (i : ℕ) (places : Slot → ℕ) (n : ℕ) → places_after same places n (entry S cs k kind t i) (slot other a b) ≡ places (slot other a b)
  unfolding places_after
  entry-apart i places n =
      cond_both (λ (P : List (Command Slot)). places_after same places n P (slot other a b) ≡ places (slot other a b)) (kept S cs k (shape kind) t i)
      (passed _ _ (and_false (eqb a t && eqb b i) apart)) refl

  row_apart : (i : ℕ) (places : Slot → ℕ) (n : ℕ) → places_after same places n (upto (entry S cs k kind t) i) (slot other a b) ≡ places (slot other a b)
  unfolding places_after upto
  row_apart zero places n = refl
  row_apart (suc i) places n =
      let f = entry S cs k kind t in
      ap (λ (g : Slot → ℕ). g (slot other a b)) (places-++ same places n (upto f i) (f i))
      ∙ (entry-apart i (places_after same places n (upto f i)) (next_after same n (upto f i)) ∙ row_apart i places n)

  pub row-others : (i : ℕ) (out slots : List ℕ) (n : ℕ) (out1 slots1 : List ℕ) (n1 : ℕ) → Writes (upto (entry S cs k kind t) i) out slots n out1 slots1 n1 →
      place_of slots1 (slot other a b) ≡ place_of slots (slot other a b)
  row-others i out slots n out1 slots1 n1 w = ap (λ (g : Slot → ℕ). g (slot other a b)) w.places ∙ row_apart i (place_of slots) n
