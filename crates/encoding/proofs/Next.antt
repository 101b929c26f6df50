-- A step's next values are the machine's: the slots after a step show the state after it. Assumes nothing.
use Prim.Native.Nat.{ℕ, ◌≤◌}
use mathlib.Core.Path.{◌≡◌, refl, ap, ◌∙◌}
use mathlib.Core.Bool.{true}
use mathlib.Core.List.{List}
use lib.Dec.{eqb}
use Rattle.records.specs.Sets.{Set, WellFormedSet, nothing}
use Rattle.machine.specs.Machine.{State, permitted, step}
use Rattle.machine.specs.declared.Choice.{Choice}
use Rattle.machine.specs.declared.Thread.{Thread}
use Rattle.table.specs.Programs.{values_after}
use Rattle.table.specs.Values.{Assignment, Value, bit, word}
use Rattle.encoding.specs.Slots.{shared_memory, val, adr, mem, accu, full, halted, flag, mark, ended, bit_zero, bit_one, word_zero, word_one, argument, Slot, same}
use Rattle.encoding.specs.Steps.{blocks}
use Rattle.encoding.proofs.Active.{thread-after}
use Rattle.encoding.proofs.Ends.{ended-value, code-value}
use Rattle.encoding.proofs.Raised.{mark_value}
use Rattle.encoding.proofs.Registers.{val_value, adr_value, mem-value, accu_value, full-value, halted_value, flag-value}
use Rattle.encoding.proofs.Shown.{Bits, Constants, Shows, Ready}
use Rattle.encoding.proofs.Stages.{Given, was, since}
use Rattle.encoding.proofs.Writes.{memory-value}

module _ (S : Set) (cs : List ℕ) (g : Assignment) (k : ℕ) (slots : Slot → Value) (s : State) (c : Choice) where
  abbrev next : Slot → Value
  next = values_after same g slots (blocks S cs k 11 25)

  constants-after : Given S cs g k slots s c → Constants S next
  constants-after given = record {
    no_is = was S cs g k slots bit_zero 0 0 25 refl ∙ given.ready.constants.no_is;
    yes_is = was S cs g k slots bit_one 0 0 25 refl ∙ given.ready.constants.yes_is;
    word_zero_is = was S cs g k slots word_zero 0 0 25 refl ∙ given.ready.constants.word_zero_is;
    unit_is = was S cs g k slots word_one 0 0 25 refl ∙ given.ready.constants.unit_is;
    argument_is = λ t i ht hi. was S cs g k slots argument t i 25 refl ∙ given.ready.constants.argument_is t i ht hi;
  }

  shows-after : Given S cs g k slots s c → Shows S cs next (step S s c)
  unfolding step
  shows-after given = record {
    memory_is = since S cs g k slots shared_memory 0 0 14 25 refl ∙ memory-value S cs g k slots s c given;
    ended_is = since S cs g k slots ended 0 0 24 25 refl ∙ ended-value S cs g k slots s c given;
    code_is = code-value S cs g k slots s c given;
    accu_is = λ t ht. since S cs g k slots accu t 0 18 25 refl ∙ (accu_value S cs g k slots s c given t ht ∙ ap (λ (x : Thread). word x.accu) (thread-after S cs g k slots s c given t ht));
    mem_is = λ t ht. since S cs g k slots mem t 0 17 25 refl ∙ (mem-value S cs g k slots s c given t ht ∙ ap (λ (x : Thread). word x.mem) (thread-after S cs g k slots s c given t ht));
    adr_is = λ t ht. since S cs g k slots adr t 0 16 25 refl ∙ (adr_value S cs g k slots s c given t ht ∙ ap (λ (x : Thread). word x.adr) (thread-after S cs g k slots s c given t ht));
    val_is = λ t ht. since S cs g k slots val t 0 15 25 refl ∙ (val_value S cs g k slots s c given t ht ∙ ap (λ (x : Thread). word x.val) (thread-after S cs g k slots s c given t ht));
    full_is = λ t ht. since S cs g k slots full t 0 19 25 refl ∙ (full-value S cs g k slots s c given t ht ∙ ap (λ (x : Thread). bit x.full) (thread-after S cs g k slots s c given t ht));
    halted_is = λ t ht. since S cs g k slots halted t 0 20 25 refl ∙ (halted_value S cs g k slots s c given t ht ∙ ap (λ (x : Thread). bit x.halted) (thread-after S cs g k slots s c given t ht));
    flag_is = λ t i ht hi. since S cs g k slots flag t i 21 25 refl ∙ (flag-value S cs g k slots s c given t ht i hi ∙ ap (λ (x : Thread). bit (eqb x.pc i)) (thread-after S cs g k slots s c given t ht));
    mark_is = λ t p ht hp there. since S cs g k slots mark t p 22 25 refl ∙ mark_value S cs g k slots s c given t p ht hp there;
  }

  pub next_values : WellFormedSet S → ((t p : ℕ) → S.count t ≤ p → S.statement t p ≡ nothing)
      → Ready S cs g k slots s → permitted S s c ≡ true → Bits S g k c → Constants S next × Shows S cs next (step S s c)
  next_values well_formed beyond ready may bits =
      let given : Given S cs g k slots s c = record { well_formed = well_formed; beyond = beyond; ready = ready; is_permitted = may; bits = bits } in
      (constants-after given, shows-after given)
