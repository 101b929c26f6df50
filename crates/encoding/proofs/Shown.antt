-- What slots' values show: constants, a state of the machine, a step's choice bits. Assumes nothing.
use Rattle.std.specs.Prelude.{is_some}
use Prim.Native.Nat.{ℕ, ◌+◌, ◌<◌}
use mathlib.Core.Path.{◌≡◌}
use mathlib.Core.Bool.{true, false, not, ◌&&◌}
use mathlib.Core.List.{List}
use lib.Dec.{eqb}
use lib.ListN.{get_or, length}
use Rattle.records.specs.Sets.{Set}
use Rattle.machine.specs.Machine.{State, contains, marked_at, opened, checkpoint_of}
use Rattle.machine.specs.declared.Choice.{Choice}
use Rattle.table.specs.Values.{Assignment, Value, bit, word, memory}
use Rattle.encoding.specs.Assignments.{named}
use Rattle.encoding.specs.Slots.{choice, active, held, shared_memory, val, adr, mem, accu, full, halted, flag, mark, ended, code, bit_zero, bit_one, word_zero, word_one, argument, Slot, slot}
use Rattle.encoding.specs.Steps.{only}

-- every checkpoint that a thread contains is among cs
abbrev pub Complete : Set → List ℕ → Type 0
Complete S cs = (t c : ℕ) → t < S.threads → contains S t c ≡ true → (p : ℕ) × ((p < length cs) × (get_or cs p 0 ≡ c))

-- a mark stands at a checkpoint that its thread contains
abbrev pub Sound : Set → State → Type 0
Sound S s = (t : ℕ) → (is_some (s.marks t)) ≡ true → contains S t (checkpoint_of (s.marks t)) ≡ true

-- the bits of step k are those of a choice; none is 1
abbrev pub Bits : Set → Assignment → ℕ → Choice → Type 0
Bits S g k c = (kind t : ℕ) → kind < 2 → t < S.threads → g.choice k kind t ≡ named c kind t

abbrev pub NoBits : Set → Assignment → ℕ → Type 0
NoBits S g k = (kind t : ℕ) → kind < 2 → t < S.threads → g.choice k kind t ≡ false

pub record Constants (S : Set) (slots : Slot → Value) : Type 0 where
  pub no_is : slots (only bit_zero) ≡ bit false
  pub yes_is : slots (only bit_one) ≡ bit true
  pub word_zero_is : slots (only word_zero) ≡ word 0
  pub unit_is : slots (only word_one) ≡ word 1
  pub argument_is : (t i : ℕ) → t < S.threads → i < S.count t → slots (slot argument t i) ≡ word (S.statement t i).argument

pub record Shows (S : Set) (cs : List ℕ) (slots : Slot → Value) (s : State) : Type 0 where
  pub memory_is : slots (only shared_memory) ≡ memory s.memory
  pub ended_is : slots (only ended) ≡ bit s.ended
  pub code_is : slots (only code) ≡ word s.code
  pub accu_is : (t : ℕ) → t < S.threads → slots (slot accu t 0) ≡ word (s.threads t).accu
  pub mem_is : (t : ℕ) → t < S.threads → slots (slot mem t 0) ≡ word (s.threads t).mem
  pub adr_is : (t : ℕ) → t < S.threads → slots (slot adr t 0) ≡ word (s.threads t).adr
  pub val_is : (t : ℕ) → t < S.threads → slots (slot val t 0) ≡ word (s.threads t).val
  pub full_is : (t : ℕ) → t < S.threads → slots (slot full t 0) ≡ bit (s.threads t).full
  pub halted_is : (t : ℕ) → t < S.threads → slots (slot halted t 0) ≡ bit (s.threads t).halted
  pub flag_is : (t i : ℕ) → t < S.threads → i < S.count t → slots (slot flag t i) ≡ bit (eqb (s.threads t).pc i)
  pub mark_is : (t p : ℕ) → t < S.threads → p < length cs → contains S t (get_or cs p 0) ≡ true → slots (slot mark t p) ≡ bit (marked_at (s.marks t) (get_or cs p 0))

-- the choice bits of step k
pub record Chosen (S : Set) (g : Assignment) (k : ℕ) (slots : Slot → Value) : Type 0 where
  pub executes_is : (t : ℕ) → t < S.threads → slots (slot choice 0 t) ≡ bit (g.choice k 0 t)
  pub flushes_is : (t : ℕ) → t < S.threads → slots (slot choice 0 (S.threads + t)) ≡ bit (g.choice k 1 t)

-- what the next values of step k are computed from
pub record Ready (S : Set) (cs : List ℕ) (g : Assignment) (k : ℕ) (slots : Slot → Value) (s : State) : Type 0 where
  pub constants : Constants S slots
  pub shows : Shows S cs slots s
  pub chosen : Chosen S g k slots
  pub active_is : (t i : ℕ) → t < S.threads → i < S.count t → slots (slot active t i) ≡ bit (eqb (s.threads t).pc i && g.choice k 0 t)
  pub held_is : (t p : ℕ) → t < S.threads → p < length cs → contains S t (get_or cs p 0) ≡ true → slots (slot held t p) ≡ bit (marked_at (s.marks t) (get_or cs p 0) && not (opened S s.marks (get_or cs p 0)))
