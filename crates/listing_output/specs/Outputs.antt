-- How the code prints: texts one after the other into a lent output, and a step's line from the bytes of its trace step. This serves the code; no
-- call's promise needs it. Assumes nothing.
use Rattle.std.specs.Prelude.{ℕ, List, ◌++◌, ◌≡◌, cond, Result, Ok, Err, eqb, get_or}
use Rattle.base.specs.Bytes.{word_at}
use Rattle.machine.specs.Offsets.{THREAD, NUMBER, PC, ARGUMENT, MODE, FULL, ACCU, MEM, ADR, VAL, WROTE, ADDRESS, VALUE}
use Rattle.records.specs.Refusals.{number}
use Rattle.records.specs.declared.refusals.Refused.{Refused}
use Rattle.machine.specs.declared.Run.{Run}
use Rattle.listing_output.specs.Printed.{printed, count}
use Rattle.listing_output.specs.Listings.{text, decimal, item, name, argument, pair, last_line, refused_line}

-- ---- an output

-- a text stands in an output that was xs, and `at` is the place after it
pub record Stands (text xs : List ℕ) (at : ℕ) (out : List ℕ) : Type 0 where
  pub place : at ≡ count text xs
  pub bytes : out ≡ printed text xs

-- what a function does that prints a text at a place: it stands after what was printed before
abbrev pub Prints : (at : ℕ) (out text : List ℕ) (next : ℕ) (afterwards : List ℕ) → Type 0
Prints at out text next afterwards = (before xs : List ℕ) → Stands before xs at out → Stands (before ++ text) xs next afterwards

-- ---- the line of a trace step, by its bytes

-- thread, pc, word, argument
abbrev pub act_at : List ℕ → List ℕ
act_at step =
    item (decimal (get_or step THREAD 0)) ++ item (decimal (word_at step PC)) ++ item (name (get_or step NUMBER 0))
    ++ item (argument (record { number = get_or step NUMBER 0; mode = get_or step MODE 0; argument = word_at step ARGUMENT }))

-- accu, mem, adr, val, full
abbrev pub registers_at : List ℕ → List ℕ
registers_at step =
    item (decimal (word_at step ACCU)) ++ item (decimal (word_at step MEM)) ++ item (decimal (word_at step ADR)) ++ item (decimal (word_at step VAL))
    ++ item (decimal (get_or step FULL 0))

-- the cell that the previous step wrote
abbrev pub cell_shown : List ℕ → List ℕ
cell_shown step = cond (eqb (get_or step WROTE 0) 1) (pair (word_at step ADDRESS) (word_at step VALUE)) (text "{}")

unfoldable pub line_at : List ℕ → List ℕ
line_at step = act_at step ++ registers_at step ++ cell_shown step ++ text "\n"

-- ---- the last line by simulation's answer

unfoldable pub last_of : Result Run Refused → List ℕ
last_of (Ok run) = last_line run.end
last_of (Err refused) = refused_line (number refused.refusal)
