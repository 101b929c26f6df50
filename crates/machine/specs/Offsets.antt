-- Where the fields of a trace step stand in its bytes; the last three are of the cell that the previous step wrote. This serves the code; no call's
-- promise needs it. Assumes nothing.
use Rattle.std.specs.Prelude.{ℕ}

abbrev pub THREAD : ℕ
THREAD = 0

abbrev pub NUMBER : ℕ
NUMBER = 1

abbrev pub PC : ℕ
PC = 2

abbrev pub ARGUMENT : ℕ
ARGUMENT = 4

abbrev pub MODE : ℕ
MODE = 6

abbrev pub FULL : ℕ
FULL = 7

abbrev pub ACCU : ℕ
ACCU = 8

abbrev pub MEM : ℕ
MEM = 10

abbrev pub ADR : ℕ
ADR = 12

abbrev pub VAL : ℕ
VAL = 14

abbrev pub WROTE : ℕ
WROTE = 16

abbrev pub ADDRESS : ℕ
ADDRESS = 18

abbrev pub VALUE : ℕ
VALUE = 20
