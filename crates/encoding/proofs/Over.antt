-- A step after the end, with no choice, keeps the end and the code. Assumes nothing.
use Prim.Native.Nat.{ℕ, zero, suc, ◌-◌, ◌≤◌, ◌<◌}
use mathlib.Core.Path.{◌≡◌, refl, ap, ◌∙◌}
use mathlib.Core.Bool.{true, false, cond}
use mathlib.Core.List.{List}
use native.Mathlib.Omega.{arith}
use lib.Dec.{eqb, eqb-suc-zero}
use Rattle.base.proofs.Choice.{and_right_false, or_right_true}
use Rattle.records.specs.Instructions.{EXIT}
use Rattle.records.specs.Sets.{Set}
use Rattle.table.specs.Formulas.{bit_sort, word_sort}
use Rattle.table.specs.Values.{Assignment, Value, bit, as_bit}
use Rattle.encoding.specs.Slots.{Kind, active, exits, codes, flag, halts, ended, code, bit_zero, bit_one, word_zero, word_one, argument, Slot, slot}
use Rattle.encoding.specs.Steps.{only, link, number_of}
use Rattle.encoding.proofs.Blocks.{links_value, Quiet, quiet_if, quiet-cond, links-none, links-quiet}
use Rattle.encoding.proofs.Demands.{chosen_at, next_at}
use Rattle.encoding.proofs.Permits.{constants-stay, ended-stays, code_stays, active_is_lem}
use Rattle.encoding.proofs.Ruled.{choices_are}
use Rattle.encoding.proofs.Shown.{NoBits, Constants}
use Rattle.encoding.proofs.Stages.{stage, was, since, settles, scanned}

module _ (S : Set) (cs : List ℕ) (g : Assignment) (k : ℕ) (slots : Slot → Value) where
  abbrev at : Slot → Value
  at = chosen_at S cs g k slots

  abbrev later : ℕ → Slot → Value
  later = stage S cs g k at

  pub constants-last : Constants S slots → Constants S (next_at S cs g k slots)
  constants-last constants =
      let c = constants-stay S cs g k slots constants in
      record {
        no_is = was S cs g k at bit_zero 0 0 25 refl ∙ c.no_is;
        yes_is = was S cs g k at bit_one 0 0 25 refl ∙ c.yes_is;
        word_zero_is = was S cs g k at word_zero 0 0 25 refl ∙ c.word_zero_is;
        unit_is = was S cs g k at word_one 0 0 25 refl ∙ c.unit_is;
        argument_is = λ t i h l. was S cs g k at argument t i 25 refl ∙ c.argument_is t i h l;
      }

  -- a value that each thread hands on, since none of its statements executes
  module _ (kind : Kind) (n : ℕ) (first : Slot)
      (value : (b : ℕ) → b ≤ S.threads → later n (slot kind 0 b)
      ≡ links_value (later n) (link S cs k kind 0 b) (cond (eqb b 0) 0 (S.count (b - 1))) (later n (cond (eqb b 0) first (slot kind 0 (b - 1)))))
      (quiet : (b i : ℕ) → b < S.threads → i < S.count b → Quiet (later n) (link S cs k kind 0 (suc b) i)) where
    handed_on : (b : ℕ) → b ≤ S.threads → later n (slot kind 0 b) ≡ later n first
    handed_on zero h = value zero h ∙ links-none (later n) (link S cs k kind 0 0) (later n first)
    handed_on (suc b) h =
        let later-one = eqb-suc-zero b in
        let back : suc b - 1 ≡ b = omega arith in
        value (suc b) h
        ∙ ((λ z. links_value (later n) (link S cs k kind 0 (suc b)) (cond (later-one z) 0 (S.count (back z))) (later n (cond (later-one z) first (slot kind 0 (back z)))))
        ∙ (links-quiet (later n) (link S cs k kind 0 (suc b)) (S.count b) (later n (slot kind 0 b)) (λ i l. quiet b i h l)
        ∙ handed_on b (omega arith)))

  module _ (none : NoBits S g k) where
    inactive : (t i : ℕ) → t < S.threads → i < S.count t → as_bit (at (slot active (suc t - 1) i)) ≡ false
    inactive t i h l =
        let back : suc t - 1 ≡ t = omega arith in
        ap (λ u. as_bit (at (slot active u i))) back
        ∙ (ap as_bit (active_is_lem S cs g k slots t i h l)
        ∙ and_right_false (as_bit (at (slot flag t i))) (ap as_bit ((choices_are S cs g k slots).executes_is t h) ∙ none 0 t (omega arith) h))

    exits_are : later 12 (slot exits 0 S.threads) ≡ slots (only ended)
    exits_are =
        handed_on exits 12 (only ended) (λ b h. scanned S cs g k at 11 exits refl 0 b (omega arith) (omega arith) refl refl)
        (λ b i h l. quiet-cond (later 12) (eqb (number_of S cs k (suc b - 1) i) EXIT) _ _
        (quiet_if (later 12) bit_sort (slot active (suc b - 1) i) (only bit_one) (ap as_bit (was S cs g k at active (suc b - 1) i 12 refl) ∙ inactive b i h l)) (λ v. refl))
        S.threads (omega arith)
        ∙ (was S cs g k at ended 0 0 12 refl ∙ ended-stays S cs g k slots)

    pub ended-last : slots (only ended) ≡ bit true → next_at S cs g k slots (only ended) ≡ bit true
    ended-last e =
        since S cs g k at ended 0 0 24 25 refl
        ∙ (settles S cs g k at 23 ended refl 0 0 (omega arith) (omega arith) refl refl
        ∙ (links-none (later 23) (link S cs k ended 0 0) _
        ∙ ap bit (or_right_true (as_bit (later 23 (only halts))) (ap as_bit (since S cs g k at exits 0 S.threads 12 23 refl ∙ (exits_are ∙ e))))))

    codes_are : later 13 (slot codes 0 S.threads) ≡ slots (only code)
    codes_are =
        handed_on codes 13 (only code) (λ b h. scanned S cs g k at 12 codes refl 0 b (omega arith) (omega arith) refl refl)
        (λ b i h l. quiet-cond (later 13) (eqb (number_of S cs k (suc b - 1) i) EXIT) _ _
        (quiet_if (later 13) word_sort (slot active (suc b - 1) i) (slot argument (suc b - 1) i) (ap as_bit (was S cs g k at active (suc b - 1) i 13 refl) ∙ inactive b i h l)) (λ v. refl))
        S.threads (omega arith)
        ∙ (was S cs g k at code 0 0 13 refl ∙ code_stays S cs g k slots)

    pub code-last : next_at S cs g k slots (only code) ≡ slots (only code)
    code-last =
        settles S cs g k at 24 code refl 0 0 (omega arith) (omega arith) refl refl
        ∙ (links-none (later 24) (link S cs k code 0 0) _
        ∙ (since S cs g k at codes 0 S.threads 13 24 refl ∙ codes_are))
