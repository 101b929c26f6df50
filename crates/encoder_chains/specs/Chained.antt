-- The values that there is one of and that have links. This serves the code; no call's promise needs it. Assumes nothing.
use Rattle.std.specs.Prelude.{ℕ, Bool, ◌||◌, eqb}
use Rattle.encoding.specs.Slots.{kind_number, one_permitted, flush_to, flush_value, halts}

-- these kinds by number
abbrev pub chained : ℕ → Bool
chained kind = eqb kind (kind_number one_permitted) || eqb kind (kind_number flush_to) || eqb kind (kind_number flush_value) || eqb kind (kind_number halts)
