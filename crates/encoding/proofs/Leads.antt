-- Where a statement leads: the link of a flag gives whether its statement is next. Assumes nothing.
use Prim.Native.Nat.{ℕ, suc, ◌≤◌}
use mathlib.Core.Path.{◌≡◌, refl, ap, sym, ◌∙◌}
use mathlib.Core.Bool.{Bool, true, false, cond, not, ◌&&◌, ◌||◌, not-not}
use borrow.Author.Tests.{eqb-true, eqb-false, eq-eqb, ne_eqb}
use lib.Dec.{eqb, ltb}
use Rattle.base.proofs.Choice.{clash}
use Rattle.base.specs.Words.{top_bit}
use Rattle.records.specs.Instructions.{HALT, EXIT, instructions}
use Rattle.machine.specs.Machine.{jumps}
use Rattle.table.specs.Formulas.{bit_sort}
use Rattle.table.specs.Values.{Value, bit, as_bit}
use Rattle.encoding.specs.Slots.{active, test, not_test, bit_one, Slot, slot}
use Rattle.encoding.specs.Steps.{Link, skip, if_then, only, is_conditional, is_one_way, is_plain, rests}
use Rattle.encoding.proofs.Blocks.{link_value}
use Rattle.encoding.proofs.Rows.{by_number, test_of, not_test_of}

not_or : (a b : Bool) → not (a || b) ≡ (not a && not b)
not_or true b = refl
not_or false b = refl

or_not : (a b : Bool) → (a || b) ≡ not (not a && not b)
or_not true b = refl
or_not false b = sym (not-not b)

-- statement i of thread t, whose argument is this one, leads to j; accu is v
module _ (slots : Slot → Value) (t i j argument v : ℕ) where
  -- `leads` with the instruction number apart
  abbrev pub leads_by : ℕ → Link
  leads_by n =
      let taken = slot (cond (is_plain n) test not_test) t i in
      let missed = slot (cond (is_plain n) not_test test) t i in
      cond (rests n) skip
      (cond (is_one_way n argument i) (cond (eqb argument j) (if_then bit_sort (slot active t i) (only bit_one)) skip)
      (cond (is_conditional n)
      (cond (eqb argument j) (if_then bit_sort (slot active t i) taken)
      (cond (eqb (suc i) j) (if_then bit_sort (slot active t i) missed) skip))
      (cond (eqb (suc i) j) (if_then bit_sort (slot active t i) (only bit_one)) skip)))

  -- the next pc
  abbrev pub goes : ℕ → ℕ
  goes n = cond (eqb n HALT || eqb n EXIT || not (ltb n instructions)) i (cond (jumps n v) argument (suc i))

  module _ (on : slots (slot active t i) ≡ bit true) (yes_is : slots (only bit_one) ≡ bit true) where
    fires : (y : Slot) (b : Bool) → slots y ≡ bit b → (w : Value) → link_value slots (if_then bit_sort (slot active t i) y) w ≡ bit b
    fires y b e w = λ z. cond (as_bit (on z)) (e z) w

    straight : (p : ℕ) → link_value slots (cond (eqb p j) (if_then bit_sort (slot active t i) (only bit_one)) skip) (bit false) ≡ bit (eqb p j)
    straight p = go (eqb p j)
      where
        go : (b : Bool) → link_value slots (cond b (if_then bit_sort (slot active t i) (only bit_one)) skip) (bit false) ≡ bit b
        go true = fires (only bit_one) true yes_is (bit false)
        go false = refl

    jump : (c : Bool) (taken missed : Slot) → slots taken ≡ bit c → slots missed ≡ bit (not c)
        → link_value slots (cond (eqb argument (suc i)) (cond (eqb argument j) (if_then bit_sort (slot active t i) (only bit_one)) skip)
        (cond (eqb argument j) (if_then bit_sort (slot active t i) taken) (cond (eqb (suc i) j) (if_then bit_sort (slot active t i) missed) skip))) (bit false)
        ≡ bit (eqb (cond c argument (suc i)) j)
    jump c taken missed p q = go (eqb argument (suc i)) refl
      where
        into : (c : Bool) → argument ≡ suc i → bit (eqb argument j) ≡ bit (eqb (cond c argument (suc i)) j)
        into true e = refl
        into false e = ap (λ w. bit (eqb w j)) e

        stay : (c : Bool) → argument ≡ j → (argument ≡ suc i → ⊥) → bit c ≡ bit (eqb (cond c argument (suc i)) j)
        stay true e f = sym (ap bit (eq-eqb argument j e))
        stay false e f = sym (ap bit (ne_eqb (suc i) j (λ (z : suc i ≡ j). f (e ∙ sym z))))

        fall : (c b : Bool) → eqb argument j ≡ false → eqb (suc i) j ≡ b → slots missed ≡ bit (not c)
            → link_value slots (cond b (if_then bit_sort (slot active t i) missed) skip) (bit false) ≡ bit (eqb (cond c argument (suc i)) j)
        fall true true e f r = fires missed false r (bit false) ∙ ap bit (sym e)
        fall true false e f r = ap bit (sym e)
        fall false true e f r = fires missed true r (bit false) ∙ ap bit (sym f)
        fall false false e f r = ap bit (sym f)

        apart : (b : Bool) → eqb argument j ≡ b → (argument ≡ suc i → ⊥)
            → link_value slots (cond b (if_then bit_sort (slot active t i) taken) (cond (eqb (suc i) j) (if_then bit_sort (slot active t i) missed) skip)) (bit false)
            ≡ bit (eqb (cond c argument (suc i)) j)
        apart true e f = fires taken c p (bit false) ∙ stay c (eqb-true argument j e) f
        apart false e f = fall c (eqb (suc i) j) e refl q

        go : (b : Bool) → eqb argument (suc i) ≡ b
            → link_value slots (cond b (cond (eqb argument j) (if_then bit_sort (slot active t i) (only bit_one)) skip)
            (cond (eqb argument j) (if_then bit_sort (slot active t i) taken) (cond (eqb (suc i) j) (if_then bit_sort (slot active t i) missed) skip))) (bit false)
            ≡ bit (eqb (cond c argument (suc i)) j)
        go true e = straight argument ∙ into c (eqb-true argument (suc i) e)
        go false e = apart (eqb argument j) refl (eqb-false argument (suc i) e)

    abbrev Leads : ℕ → Type 0
    Leads n = ltb n instructions ≡ true → slots (slot test t i) ≡ bit (test_of n v) → slots (slot not_test t i) ≡ bit (not_test_of n v)
        → link_value slots (leads_by n) (bit (rests n && eqb i j)) ≡ bit (eqb (goes n) j)

    -- a statement that executes: its link, over whether it rests at j
    pub leads-value : (n : ℕ) → n ≤ 20 → Leads n
    unfolding jumps
    leads-value = by_number Leads
        (λ l c d. straight (suc i))
        (λ l c d. straight (suc i))
        (λ l c d. straight (suc i))
        (λ l c d. straight (suc i))
        (λ l c d. straight (suc i))
        (λ l c d. straight (suc i))
        (λ l c d. straight (suc i))
        (λ l c d. straight (suc i))
        (λ l c d. straight (suc i))
        (λ l c d. straight argument)
        (λ l c d. jump (jumps 10 v) (slot test t i) (slot not_test t i) c d)
        (λ l c d. jump (jumps 11 v) (slot not_test t i) (slot test t i) d (c ∙ ap bit (sym (not-not (test_of 11 v)))))
        (λ l c d. jump (jumps 12 v) (slot test t i) (slot not_test t i) c d)
        (λ l c d. jump (jumps 13 v) (slot not_test t i) (slot test t i) d (c ∙ ap bit (sym (not-not (test_of 13 v)))))
        (λ l c d. jump (jumps 14 v) (slot not_test t i) (slot test t i) (d ∙ ap bit (not_or (top_bit v) (eqb v 0))) (c ∙ ap bit (or_not (top_bit v) (eqb v 0))))
        (λ l c d. straight (suc i))
        (λ l c d. straight (suc i))
        (λ l c d. refl)
        (λ l c d. refl)
        (λ l c d. straight (suc i))
        (λ l c d. clash l refl)
