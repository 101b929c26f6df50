-- The places of a table's values in an array: four rows for each kind, of 32 numbers for a kind of statements and of 9 for the others; 0 where a
-- value still lies at its start, else one more than its record's index. This serves the code; no call's promise needs it. Assumes nothing.
use Rattle.std.specs.Prelude.{ℕ, zero, suc, ◌+◌, ◌-◌, ◌*◌, Bool, cond, ◌&&◌, ◌||◌, List, eqb, ltb, get_or}
use Rattle.encoding.specs.Slots.{Slot, slot, kind_number, start_place, active, address, loaded, swaps, result, test, not_test, flag, argument}
use Rattle.records.specs.Sets.{most_threads, most_statements}

-- the kinds by number that have one value for each statement, and no links
abbrev pub of_statement : ℕ → Bool
of_statement kind =
    eqb kind (kind_number active) || eqb kind (kind_number address) || eqb kind (kind_number loaded) || eqb kind (kind_number swaps) || eqb kind (kind_number result)
    || eqb kind (kind_number test) || eqb kind (kind_number not_test) || eqb kind (kind_number argument)

-- those that have a value for each statement: these and the flags
abbrev pub wide : ℕ → Bool
wide kind = of_statement kind || eqb kind (kind_number flag)

-- the columns of a kind that is not of statements: one more than there are choices
abbrev pub most_columns : ℕ
most_columns = most_threads + most_threads + 1

-- the length of a kind's rows
abbrev pub width : ℕ → ℕ
width kind = cond (wide kind) most_statements most_columns

-- where the rows of a kind begin: the kinds stand one after another
unfoldable pub begin : ℕ → ℕ
begin zero = 0
begin (suc kind) = begin kind + most_threads * width kind

-- the index of a kind's value for a and b
abbrev pub index_of : (kind a b : ℕ) → ℕ
index_of kind a b = begin kind + (width kind * a + b)

-- a and b have an index of their own
abbrev pub fits : (kind a b : ℕ) → Bool
fits kind a b = ltb a most_threads && ltb b (width kind)

-- the number kept for a value, 0 without one
abbrev pub kept_at : List ℕ → (kind a b : ℕ) → ℕ
kept_at slots kind a b = cond (fits kind a b) (get_or slots (index_of kind a b) 0) 0

-- the record of a value that lies at `start` unless it was set
abbrev pub place_from : List ℕ → (kind a b start : ℕ) → ℕ
place_from slots kind a b start = cond (eqb (kept_at slots kind a b) 0) start (kept_at slots kind a b - 1)

-- where every slot lies
abbrev pub place_of : List ℕ → Slot → ℕ
place_of slots (slot k a b) = place_from slots (kind_number k) a b (start_place (slot k a b))

-- how many numbers there are
abbrev pub size : ℕ
size = 2304
