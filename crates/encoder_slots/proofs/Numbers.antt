-- Each kind has one of the numbers of kinds, which is its place among them. Assumes nothing.
use Rattle.std.proofs.Common.{ap, arith, get_or, refl, sym, ℕ, List, [], ◌∷◌, ◌∙◌, ◌≡◌, ◌<◌}
use denote.Enum.Declared.{tag_of}
use Rattle.encoding.specs.Slots.{kind_count}
use Rattle.encoder_slots.specs.Kinds.{number_of}
use Rattle.encoder_slots.specs.contracts.kinds.Kind.{the_type}
use Rattle.encoder_slots.specs.declared.kinds.Kind.{Kind}
use Rattle.encoder_slots.specs.declared.kinds.Kind.TheVariants.{Choice, Active, Opening, Shut, Barred, Held, Waits, MayExecute, None, PermittedFirst, OnePermitted, Address, Loaded, Swaps, Result, Test, NotTest, FlushTo, WriteTo, FlushValue, WriteValue, Raised, Exits, Codes, SharedMemory, Val, Adr, Mem, Accu, Full, Halted, Flag, Mark, Halts, Ended, Code, BitZero, BitOne, WordZero, WordOne, Argument}

pub number-below : (kind : Kind) → number_of kind < kind_count
number-below Choice = omega arith
number-below Active = omega arith
number-below Opening = omega arith
number-below Shut = omega arith
number-below Barred = omega arith
number-below Held = omega arith
number-below Waits = omega arith
number-below MayExecute = omega arith
number-below None = omega arith
number-below PermittedFirst = omega arith
number-below OnePermitted = omega arith
number-below Address = omega arith
number-below Loaded = omega arith
number-below Swaps = omega arith
number-below Result = omega arith
number-below Test = omega arith
number-below NotTest = omega arith
number-below FlushTo = omega arith
number-below WriteTo = omega arith
number-below FlushValue = omega arith
number-below WriteValue = omega arith
number-below Raised = omega arith
number-below Exits = omega arith
number-below Codes = omega arith
number-below SharedMemory = omega arith
number-below Val = omega arith
number-below Adr = omega arith
number-below Mem = omega arith
number-below Accu = omega arith
number-below Full = omega arith
number-below Halted = omega arith
number-below Flag = omega arith
number-below Mark = omega arith
number-below Halts = omega arith
number-below Ended = omega arith
number-below Code = omega arith
number-below BitZero = omega arith
number-below BitOne = omega arith
number-below WordZero = omega arith
number-below WordOne = omega arith
number-below Argument = omega arith

pub tag-number : (kind : Kind) → tag_of the_type kind ≡ number_of kind
tag-number Choice = refl
tag-number Active = refl
tag-number Opening = refl
tag-number Shut = refl
tag-number Barred = refl
tag-number Held = refl
tag-number Waits = refl
tag-number MayExecute = refl
tag-number None = refl
tag-number PermittedFirst = refl
tag-number OnePermitted = refl
tag-number Address = refl
tag-number Loaded = refl
tag-number Swaps = refl
tag-number Result = refl
tag-number Test = refl
tag-number NotTest = refl
tag-number FlushTo = refl
tag-number WriteTo = refl
tag-number FlushValue = refl
tag-number WriteValue = refl
tag-number Raised = refl
tag-number Exits = refl
tag-number Codes = refl
tag-number SharedMemory = refl
tag-number Val = refl
tag-number Adr = refl
tag-number Mem = refl
tag-number Accu = refl
tag-number Full = refl
tag-number Halted = refl
tag-number Flag = refl
tag-number Mark = refl
tag-number Halts = refl
tag-number Ended = refl
tag-number Code = refl
tag-number BitZero = refl
tag-number BitOne = refl
tag-number WordZero = refl
tag-number WordOne = refl
tag-number Argument = refl

-- no two kinds have one number
abbrev listed : List Kind
listed = Choice ∷ Active ∷ Opening ∷ Shut ∷ Barred ∷ Held ∷ Waits ∷ MayExecute ∷ None ∷ PermittedFirst ∷ OnePermitted ∷ Address ∷ Loaded ∷ Swaps ∷ Result ∷ Test ∷ NotTest ∷ FlushTo ∷ WriteTo ∷ FlushValue ∷ WriteValue ∷ Raised ∷ Exits ∷ Codes ∷ SharedMemory ∷ Val ∷ Adr ∷ Mem ∷ Accu ∷ Full ∷ Halted ∷ Flag ∷ Mark ∷ Halts ∷ Ended ∷ Code ∷ BitZero ∷ BitOne ∷ WordZero ∷ WordOne ∷ Argument ∷ []

named : (kind : Kind) → get_or listed (number_of kind) Choice ≡ kind
named Choice = refl
named Active = refl
named Opening = refl
named Shut = refl
named Barred = refl
named Held = refl
named Waits = refl
named MayExecute = refl
named None = refl
named PermittedFirst = refl
named OnePermitted = refl
named Address = refl
named Loaded = refl
named Swaps = refl
named Result = refl
named Test = refl
named NotTest = refl
named FlushTo = refl
named WriteTo = refl
named FlushValue = refl
named WriteValue = refl
named Raised = refl
named Exits = refl
named Codes = refl
named SharedMemory = refl
named Val = refl
named Adr = refl
named Mem = refl
named Accu = refl
named Full = refl
named Halted = refl
named Flag = refl
named Mark = refl
named Halts = refl
named Ended = refl
named Code = refl
named BitZero = refl
named BitOne = refl
named WordZero = refl
named WordOne = refl
named Argument = refl

pub same-number : (kind other : Kind) → number_of kind ≡ number_of other → kind ≡ other
same-number kind other e = sym (named kind) ∙ (ap (λ (n : ℕ). get_or listed n Choice) e ∙ named other)

pub other-number : (kind other : Kind) → (kind ≡ other → ⊥) → number_of kind ≡ number_of other → ⊥
other-number kind other apart e = apart (same-number kind other e)
