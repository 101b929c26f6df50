-- The chains over the statements of a thread: the link that a statement gives, by the kind's number and the statement's instruction. This serves the
-- code; no call's promise needs it. Assumes nothing.
use Rattle.std.specs.Prelude.{ℕ, ◌≡◌, Bool, cond, List, eqb}
use Rattle.records.specs.Instructions.{STORE, MEM, CAS, HALT, EXIT}
use Rattle.records.specs.Sets.{Set}
use Rattle.machine.specs.Machine.{needs_empty}
use Rattle.table.specs.Formulas.{bit_sort, word_sort}
use Rattle.encoding.specs.Slots.{Kind, Slot, slot, active, swaps, address, loaded, result, accu, bit_one, argument, kind_number, barred, write_to, write_value, exits, codes, val, adr, mem, full, halted}
use Rattle.encoding.specs.Steps.{Link, skip, if_then, only, sets_accu}
use Rattle.encoder_slots.specs.Places.{place_from, place_of}
use Rattle.encoder_slots.specs.Kinds.{number_of}
use Rattle.set_index.specs.Members.{in_class, class_number}
use Rattle.encoder_chains.specs.Placed.{placed_link, if_link}
use Rattle.encoder_chains.specs.declared.given.Effect.{Effect}
use Rattle.encoder_chains.specs.declared.given.Effect.TheVariants.{One, Accu, Own}
use Rattle.encoder_chains.specs.declared.given.Giver.{Giver}

-- where the test holds: if the statement executes, or is a CAS that matches, then the effect
abbrev pub given_if : Bool → ℕ → Kind → (t i : ℕ) → Slot → Link
given_if counts sort kind t i effect = cond counts (if_then sort (slot kind t i) effect) skip

-- the link that statement i of thread t gives, where it is instruction n; of other kinds no statement gives one
abbrev pub given_link : (kind t i n : ℕ) → Link
given_link kind t i n =
    cond (eqb kind (kind_number barred)) (given_if (needs_empty n) bit_sort active t i (only bit_one))
    (cond (eqb kind (kind_number write_to)) (given_if (eqb n CAS) word_sort swaps t i (slot address t i))
    (cond (eqb kind (kind_number write_value)) (given_if (eqb n CAS) word_sort swaps t i (slot accu t 0))
    (cond (eqb kind (kind_number exits)) (given_if (eqb n EXIT) bit_sort active t i (only bit_one))
    (cond (eqb kind (kind_number codes)) (given_if (eqb n EXIT) word_sort active t i (slot argument t i))
    (cond (eqb kind (kind_number val)) (given_if (eqb n STORE) word_sort active t i (slot accu t 0))
    (cond (eqb kind (kind_number adr)) (given_if (eqb n STORE) word_sort active t i (slot address t i))
    (cond (eqb kind (kind_number mem)) (given_if (eqb n MEM) word_sort active t i (slot loaded t i))
    (cond (eqb kind (kind_number accu)) (given_if (sets_accu n) word_sort active t i (slot result t i))
    (cond (eqb kind (kind_number full)) (given_if (eqb n STORE) bit_sort active t i (only bit_one))
    (cond (eqb kind (kind_number halted)) (given_if (eqb n HALT) bit_sort active t i (only bit_one)) skip))))))))))

-- the links that the statements of thread t give to the chain of a kind
abbrev pub given_by : Set → (kind t i : ℕ) → Link
given_by S kind t i = given_link kind t i (S.statement t i).number

-- ---- the same by class

-- the sort of a chain, by its effect, and where the effect lies
abbrev pub effect_sort : Effect → ℕ
effect_sort One = bit_sort
effect_sort Accu = word_sort
effect_sort (Own kind) = word_sort

abbrev pub effect_place : Effect → List ℕ → (t i : ℕ) → ℕ
effect_place One slots t i = place_from slots (kind_number bit_one) 0 0 1
effect_place Accu slots t i = place_from slots (kind_number accu) t 0 2
effect_place (Own kind) slots t i = place_from slots (number_of kind) t i 2

-- the statements of a class give the links of a chain
pub record Gives (kind : ℕ) (g : Giver) : Type 0 where
  pub link : (t i : ℕ) → Link
  pub inside : (t i n : ℕ) → given_link kind t i n ≡ cond (in_class (class_number g.class) n) (link t i) skip
  pub places : (slots : List ℕ) (t i : ℕ) →
      if_link (effect_sort g.effect) (place_from slots (number_of g.test) t i 0) (effect_place g.effect slots t i) ≡ placed_link (place_of slots) (link t i)
