-- The numbered refusals (document 01, "Numbered refusals"). A reader of the calls believes this. Assumes nothing.
use Rattle.std.specs.Prelude.{ℕ}
use Rattle.records.specs.declared.refusals.Refusal.{Refusal}
use Rattle.records.specs.declared.refusals.Refusal.TheVariants.{TextLength, Malformed, Number, Threads, Statements, Label, Checkpoints, Map, Records, Bound, Room, NotPermitted, Differs, LacksCell, Model, NotSatisfied, Length}
use Rattle.records.specs.declared.refusals.Refused.{Refused}

-- 1 text above 16,384 bytes; 2 line malformed; 3 number above 65,535; 4 threads; 5 statements; 6 labels; 7 checkpoints; 8 map; 9 records;
-- 10 bound; 11 lent output or work memory too short; 12 choice not permitted; 13 trace differs; 14 cell lacking; 15 model; 16 not satisfied; 17 length
abbrev pub number : Refusal → ℕ
number TextLength = 1
number Malformed = 2
number Number = 3
number Threads = 4
number Statements = 5
number Label = 6
number Checkpoints = 7
number Map = 8
number Records = 9
number Bound = 10
number Room = 11
number NotPermitted = 12
number Differs = 13
number LacksCell = 14
number Model = 15
number NotSatisfied = 16
number Length = 17

-- a refusal that names no line, step or record
abbrev pub of_call : Refusal → Refused
of_call refusal = record { refusal = refusal; place = 0 }
