-- Links as places, and how a statement leads to another: which way each test sends it. Assumes nothing.
use Prim.Native.Nat.{ℕ}
use mathlib.Core.Path.{◌≡◌, refl, sym, ap, ◌∙◌}
use mathlib.Core.Bool.{Bool, true, false, cond, not, ◌&&◌, ◌||◌}
use lib.Dec.{eqb}
use borrow.Author.Tests.{eqb-true}
use Rattle.base.proofs.Choice.{cond-ap, passed, or_false, and_false, and_yes, clash}
use Rattle.records.specs.Instructions.{JMP, is_jump}
use Rattle.records.specs.declared.Statement.{Statement}
use Rattle.table.specs.Formulas.{bit_sort, AND, OR}
use Rattle.encoding.specs.Slots.{active, test, not_test, bit_one, Slot, slot}
use Rattle.encoding.specs.Steps.{Link as ChainLink, skip, if_then, and_with, or_with, only, is_conditional, is_plain, rests}
use Rattle.set_index.specs.Members.{names_target}
use Rattle.std.proofs.Common.{Option}
use Rattle.std.specs.Bool.{then_some}
use Rattle.encoder_chains.specs.Placed.{placed_link, no_link, if_link, bit_link, numbers_of}
use Rattle.encoder_chains.specs.declared.Link.{Link}
use Rattle.encoder_chains.specs.declared.Link.TheVariants.{And, Or}

-- a link that is there where a test holds
module _ (places : Slot → ℕ) {b d : Bool} (same : b ≡ d) where
  pub if_placed : (sort : ℕ) (x y : Slot) → cond b (if_link sort (places x) (places y)) no_link ≡ placed_link places (cond d (if_then sort x y) skip)
  if_placed sort x y = ap (λ (t : Bool). cond t (if_link sort (places x) (places y)) no_link) same ∙ sym (cond-ap (placed_link places) d (if_then sort x y) skip)

  module _ (s : Slot) {at : ℕ} (is : at ≡ places s) {link : Option Link} where
    pub and_placed : link ≡ then_some b (And at) → numbers_of link ≡ placed_link places (cond d (and_with s) skip)
    and_placed made = ap numbers_of (made ∙ ap (λ (t : Bool). then_some t (And at)) same) ∙ go d
      where
        go : (t : Bool) → numbers_of (then_some t (And at)) ≡ placed_link places (cond t (and_with s) skip)
        go true = ap (bit_link AND) is
        go false = refl

    pub or_placed : link ≡ then_some b (Or at) → numbers_of link ≡ placed_link places (cond d (or_with s) skip)
    or_placed made = ap numbers_of (made ∙ ap (λ (t : Bool). then_some t (Or at)) same) ∙ go d
      where
        go : (t : Bool) → numbers_of (then_some t (Or at)) ≡ placed_link places (cond t (or_with s) skip)
        go true = ap (bit_link OR) is
        go false = refl

-- how a statement leads to j; `after` is the number after its own
abbrev pub leads_by : Statement → (t j i after : ℕ) → ChainLink
leads_by s t j i after =
    let n = s.number in
    cond (rests n) skip
    (cond (eqb n JMP || is_conditional n && eqb s.argument after) (cond (eqb s.argument j) (if_then bit_sort (slot active t i) (only bit_one)) skip)
    (cond (is_conditional n)
    (cond (eqb s.argument j) (if_then bit_sort (slot active t i) (slot (cond (is_plain n) test not_test) t i))
    (cond (eqb after j) (if_then bit_sort (slot active t i) (slot (cond (is_plain n) not_test test) t i)) skip))
    (cond (eqb after j) (if_then bit_sort (slot active t i) (only bit_one)) skip)))

-- a choice between things that are the same
pub cond_same : {A : Type 0} (b : Bool) {x y z : A} → x ≡ z → y ≡ z → cond b x y ≡ z
cond_same true p q = p
cond_same false p q = q

-- which way each test sends a statement
module _ (s : Statement) (t j i after : ℕ) where
  -- it neither names j nor stands before it
  pub leads-none : eqb s.argument j ≡ false → eqb after j ≡ false → leads_by s t j i after ≡ skip
  leads-none hit next =
      cond_same (rests s.number) refl
      (cond_same (eqb s.number JMP || is_conditional s.number && eqb s.argument after) (passed _ _ hit)
      (cond_same (is_conditional s.number) (passed _ _ hit ∙ passed _ _ next) (passed _ _ next)))

  -- it is no jump to j and does not stand before it
  pub leads-elsewhere : names_target s j ≡ false → eqb after j ≡ false → leads_by s t j i after ≡ skip
  leads-elsewhere names next = go (eqb s.argument j) refl
    where
      jumps : (b : Bool) → eqb s.number JMP ≡ b → is_jump s.number ≡ false → eqb s.number JMP ≡ false
      jumps true e none = clash (ap (λ (n : ℕ). is_jump n) (eqb-true s.number JMP e)) none
      jumps false e none = e

      go : (b : Bool) → eqb s.argument j ≡ b → leads_by s t j i after ≡ skip
      go false hit = leads-none hit next
      go true hit =
          let none : is_jump s.number ≡ false = sym (and_yes (is_jump s.number)) ∙ (ap (λ (b : Bool). is_jump s.number && b) (sym hit) ∙ names) in
          let straight : is_conditional s.number ≡ false = and_false (not (eqb s.number JMP)) none in
          cond_same (rests s.number) refl
          (passed _ _ (or_false (jumps (eqb s.number JMP) refl none) (and_false (eqb s.argument after) straight)) ∙ (passed _ _ straight ∙ passed _ _ next))
