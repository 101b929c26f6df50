-- A member of a class is read where the thread's statements stand. Assumes nothing.
use Prim.Native.Nat.{ℕ, ◌+◌, ◌<◌}
use mathlib.Core.Path.{◌≡◌, sym, ap, ◌∙◌}
use mathlib.Core.List.{List}
use lib.ListN.{length, get_or}
use Rattle.records.specs.Sets.{Set, statement_at}
use Rattle.records.specs.StatementRecords.{StandsFrom}
use Rattle.set_index.specs.Members.{members_of}
use Rattle.set_index.proofs.Listed.{members-below}

pub member-stands : (S : Set) (set : List ℕ) (c t first j i : ℕ) → StandsFrom S set t first (S.count t) → j < length (members_of S c t) → i ≡ get_or (members_of S c t) j 0 →
    S.statement t (get_or (members_of S c t) j 0) ≡ statement_at set (first + i)
member-stands S set c t first j i h inside e =
    h (get_or (members_of S c t) j 0) (members-below S c t (S.count t) j inside) ∙ ap (λ (k : ℕ). statement_at set (first + k)) (sym e)
