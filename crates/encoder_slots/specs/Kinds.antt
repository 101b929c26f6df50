-- The code's kinds by number. This serves the code; no call's promise needs it. Assumes nothing.
use Rattle.std.specs.Prelude.{ℕ}
use Rattle.encoder_slots.specs.declared.kinds.Kind.{Kind}
use Rattle.encoder_slots.specs.declared.kinds.Kind.TheVariants.{Choice, Active, Opening, Shut, Barred, Held, Waits, MayExecute, None, PermittedFirst, OnePermitted, Address, Loaded, Swaps, Result, Test, NotTest, FlushTo, WriteTo, FlushValue, WriteValue, Raised, Exits, Codes, SharedMemory, Val, Adr, Mem, Accu, Full, Halted, Flag, Mark, Halts, Ended, Code, BitZero, BitOne, WordZero, WordOne, Argument}

abbrev pub number_of : Kind → ℕ
number_of Choice = 0
number_of Active = 1
number_of Opening = 2
number_of Shut = 3
number_of Barred = 4
number_of Held = 5
number_of Waits = 6
number_of MayExecute = 7
number_of None = 8
number_of PermittedFirst = 9
number_of OnePermitted = 10
number_of Address = 11
number_of Loaded = 12
number_of Swaps = 13
number_of Result = 14
number_of Test = 15
number_of NotTest = 16
number_of FlushTo = 17
number_of WriteTo = 18
number_of FlushValue = 19
number_of WriteValue = 20
number_of Raised = 21
number_of Exits = 22
number_of Codes = 23
number_of SharedMemory = 24
number_of Val = 25
number_of Adr = 26
number_of Mem = 27
number_of Accu = 28
number_of Full = 29
number_of Halted = 30
number_of Flag = 31
number_of Mark = 32
number_of Halts = 33
number_of Ended = 34
number_of Code = 35
number_of BitZero = 36
number_of BitOne = 37
number_of WordZero = 38
number_of WordOne = 39
number_of Argument = 40
