-- What each answer is to a caller in C or Rust: one number of 64 bits. A reader of the calls believes this. Assumes nothing.
use Rattle.std.specs.Prelude.{ℕ, ◌+◌, ◌*◌, Result, Ok, Err}
use Rattle.machine.specs.declared.Run.{Run}
use Rattle.machine.specs.declared.End.{End}
use Rattle.text.specs.declared.Counts.{Counts}
use Rattle.machine.specs.declared.End.TheVariants.{Code, Stuck, Open}
use Rattle.records.specs.Refusals.{number}
use Rattle.records.specs.declared.refusals.Refused.{Refused}
use Rattle.decoding.specs.declared.Decoded.{Decoded}

-- one more than the largest number in the bits below 8, 16, 32 and 48
abbrev pub bit8 : ℕ
bit8 = 256

abbrev pub bit16 : ℕ
bit16 = 65536

abbrev pub bit32 : ℕ
bit32 = 4294967296

abbrev pub bit48 : ℕ
bit48 = 281474976710656

-- Bits 0 to 7 are the refusal's number, 0 on success; on a refusal bits 32 to 63 are its place.
abbrev pub packed_refusal : Refused → ℕ
packed_refusal refused = number refused.refusal + bit32 * refused.place

-- the end: 0 for a code, 1 stuck, 2 open
abbrev pub end_number : End → ℕ
end_number (Code code) = 0
end_number Stuck = 1
end_number Open = 2

-- the code, 0 without one
abbrev pub end_code : End → ℕ
end_code (Code code) = code
end_code Stuck = 0
end_code Open = 0

-- an answer: the bits of what the call gives, or of its refusal
abbrev pub packed_by : {A : Type 0} → (A → ℕ) → Result A Refused → ℕ
packed_by bits (Ok given) = bits given
packed_by bits (Err refused) = packed_refusal refused

-- On success bits 8 to 15 are the end, 16 to 31 the code and 32 to 47 the steps.
abbrev pub run_bits : Run → ℕ
run_bits run = bit8 * end_number run.end + bit16 * end_code run.end + bit32 * run.steps

abbrev pub packed : Result Run Refused → ℕ
packed answer = packed_by run_bits answer

-- On success bits 16 to 31 are the statements and 32 to 47 the map cells.
abbrev pub read_bits : Counts → ℕ
read_bits counts = bit16 * counts.statements + bit32 * counts.cells

abbrev pub packed_read : Result Counts Refused → ℕ
packed_read answer = packed_by read_bits answer

-- On success bits 32 to 63 are the records of the table.
abbrev pub table_bits : ℕ → ℕ
table_bits records = bit32 * records

abbrev pub packed_table : Result ℕ Refused → ℕ
packed_table answer = packed_by table_bits answer

-- On success no bit is 1.
abbrev pub check_bits : Unit {0} → ℕ
check_bits accepted = 0

abbrev pub packed_check : Result (Unit {0}) Refused → ℕ
packed_check answer = packed_by check_bits answer

-- On success bits 32 to 47 are the steps and 48 to 63 the map cells.
abbrev pub decoding_bits : Decoded → ℕ
decoding_bits decoded = bit32 * decoded.steps + bit48 * decoded.cells

abbrev pub packed_decoding : Result Decoded Refused → ℕ
packed_decoding answer = packed_by decoding_bits answer
