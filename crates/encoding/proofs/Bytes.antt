-- Two bytes are a word: the arguments of a set's records and a map's addresses and values. Assumes nothing.
use Prim.Native.Nat.{ℕ, ◌+◌, ◌*◌, ◌<◌}
use mathlib.Core.List.{List}
use native.Mathlib.Omega.{arith}
use lib.Dec.{ltb}
use lib.ListN.{get_or}
use Rattle.base.specs.Bytes.{word_at}
use Rattle.base.proofs.Choice.{cond_both}
use Rattle.records.specs.Sets.{set_of, nothing, count_of, start_of, statement_at}
use Rattle.records.specs.declared.Statement.{Statement}
use Rattle.encoding.proofs.Sorts.{Words}

-- every number is a byte, as in every lent slice
abbrev pub Bytes : List ℕ → Type 0
Bytes bytes = (i : ℕ) → get_or bytes i 0 < 256

pub word_below : (bytes : List ℕ) → Bytes bytes → (i : ℕ) → word_at bytes i < 65536
word_below bytes h i = let p = h i in let q = h (i + 1) in omega arith

pub set_words : (set : List ℕ) → Bytes set → Words (set_of set)
set_words set h t p =
    cond_both (λ (s : Statement). s.argument < 65536) (ltb p (count_of set t))
    {x = statement_at set (start_of set t + p)} {y = nothing} (word_below set h (8 * (start_of set t + p) + 4)) (omega arith)
