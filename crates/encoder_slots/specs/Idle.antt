-- Values that a statement does not have: each lies where the constant lies that stands for it. This serves the code; no call's promise needs it.
-- Assumes nothing.
use Rattle.std.specs.Prelude.{ℕ, ◌≡◌, false, eqb}
use Rattle.records.specs.Instructions.{CAS}
use Rattle.records.specs.Sets.{Set}
use Rattle.encoding.specs.Slots.{loaded, swaps, result, test, not_test, bit_zero, word_zero, Slot, slot}
use Rattle.encoding.specs.Steps.{only, loads, sets_accu, is_conditional}

-- the word loaded of a statement that does not load, the swap of one that is no CAS, the result of one that does not change accu, the tests of one that is
-- no conditional jump
pub record Idle (S : Set) (places : Slot → ℕ) : Type 0 where
  pub no_load : (t i : ℕ) → loads (S.statement t i).number ≡ false → places (slot loaded t i) ≡ places (only word_zero)
  pub no_swap : (t i : ℕ) → eqb (S.statement t i).number CAS ≡ false → places (slot swaps t i) ≡ places (only bit_zero)
  pub no_result : (t i : ℕ) → sets_accu (S.statement t i).number ≡ false → places (slot result t i) ≡ places (only word_zero)
  pub no_test : (t i : ℕ) → is_conditional (S.statement t i).number ≡ false → places (slot test t i) ≡ places (only bit_zero)
  pub no_not_test : (t i : ℕ) → is_conditional (S.statement t i).number ≡ false → places (slot not_test t i) ≡ places (only bit_zero)
