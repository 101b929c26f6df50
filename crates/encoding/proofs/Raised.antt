-- A step's next marks are the machine's. Assumes nothing.
use Prim.Native.Nat.{ℕ, ◌<◌}
use mathlib.Core.Path.{◌≡◌, refl, ap, sym, ◌∙◌}
use mathlib.Core.Bool.{Bool, true, false, cond, ◌&&◌, ◌||◌}
use mathlib.Core.List.{List}
use native.Mathlib.Omega.{arith}
use lib.Dec.{eqb}
use lib.ListN.{get_or, length}
use Rattle.records.specs.Instructions.{CHECK}
use Rattle.records.specs.Sets.{Set}
use Rattle.records.specs.declared.Statement.{Statement}
use Rattle.machine.specs.Machine.{State, is_check, contains, marked_at, marks_after}
use Rattle.machine.specs.declared.Choice.{Choice}
use Rattle.machine.specs.declared.Choice.TheVariants.{Execute, Flush}
use Rattle.machine.proofs.Marks.{keeps, checks, marks-after}
use Rattle.table.specs.Formulas.{bit_sort}
use Rattle.table.specs.Values.{Assignment, Value, bit, as_bit}
use Rattle.encoding.specs.Assignments.{named}
use Rattle.encoding.specs.Slots.{active, held, raised, mark, bit_zero, bit_one, Slot, slot}
use Rattle.encoding.specs.Steps.{only, link}
use Rattle.encoding.proofs.Active.{past, active_at, active_links}
use Rattle.encoding.proofs.Blocks.{links-none}
use Rattle.encoding.proofs.Stages.{Given, stage, was, since, settles}
use Rattle.encoding.proofs.Statements.{bit-cond}

-- thread t executes CHECK p
checks-named : (S : Set) (s : State) (c : Choice) (t p : ℕ) → checks S s c t p ≡ cond (named c 0 t) (cond (is_check S t p (s.threads t).pc) true false) false
checks-named S s (Flush u) t p = refl
checks-named S s (Execute u) t p = go (eqb t u) (is_check S t p (s.threads t).pc)
  where
    go : (e b : Bool) → (e && b) ≡ cond e (cond b true false) false
    go true true = refl
    go true false = refl
    go false b = refl

module _ (S : Set) (cs : List ℕ) (g : Assignment) (k : ℕ) (slots : Slot → Value) (s : State) (c : Choice) (given : Given S cs g k slots s c) where
  abbrev at : ℕ → Slot → Value
  at = stage S cs g k slots

  -- thread t's mark at checkpoint number p, which it contains
  module _ (t p : ℕ) (ht : t < S.threads) (hp : p < length cs) (there : contains S t (get_or cs p 0) ≡ true) where
    abbrev point : ℕ
    point = get_or cs p 0

    -- raised says that this step's statement is its CHECK
    abbrev raised_by : Bool → Bool
    raised_by executes = cond executes (cond (is_check S t point (s.threads t).pc) true false) false

    raised_value : at 11 (slot raised t p) ≡ bit (raised_by (g.choice k 0 t))
    raised_value =
        let e = g.choice k 0 t in
        let here = is_check S t point (s.threads t).pc in
        let zero_is : at 10 (only bit_zero) ≡ bit false = was S cs g k slots bit_zero 0 0 10 refl ∙ given.ready.constants.no_is in
        settles S cs g k slots 10 raised refl t p ht hp there refl
        ∙ (active_links S cs g k slots s c given t ht (at 10) (active_at S cs g k slots s c given t ht 10 (λ j. was S cs g k slots active t j 10 refl))
        (is_check S t point) bit_sort (λ j. only bit_one) (bit true) (at 10 (only bit_zero))
        (λ l. was S cs g k slots bit_one 0 0 10 refl ∙ given.ready.constants.yes_is)
        (λ l. ap (λ (j : Statement). eqb j.number CHECK && eqb j.argument point) (past S cs g k slots s c given t ht l))
        ∙ ((λ z. cond e (cond here (bit true) (zero_is z)) (zero_is z))
        ∙ (ap (λ v. cond e v (bit false)) (bit-cond here true false) ∙ bit-cond e (cond here true false) false)))

    pub mark_value : at 22 (slot mark t p) ≡ bit (marked_at (marks_after S s c t) point)
    mark_value =
        let held_is : at 21 (slot held t p) ≡ bit (keeps S s t point) = was S cs g k slots held t p 21 refl ∙ given.ready.held_is t p ht hp there in
        let raised_is : at 21 (slot raised t p) ≡ bit (checks S s c t point) =
        since S cs g k slots raised t p 11 21 refl ∙ (raised_value ∙ (ap (λ b. bit (raised_by b)) (given.bits 0 t (omega arith) ht) ∙ ap bit (sym (checks-named S s c t point)))) in
        settles S cs g k slots 21 mark refl t p ht hp there refl ∙ (links-none (at 21) (link S cs k mark t p) _
        ∙ ((λ z. bit (as_bit (held_is z) || as_bit (raised_is z))) ∙ ap bit (sym (marks-after S s t point c given.is_permitted))))
