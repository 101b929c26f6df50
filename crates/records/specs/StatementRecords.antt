-- Where the records of a thread's statements stand. This serves the code; no call's promise needs it. Assumes nothing.
use Rattle.std.specs.Prelude.{ℕ, ◌+◌, ◌<◌, ◌≡◌, List}
use Rattle.records.specs.Sets.{Set, statement_at}

-- the first `count` statements of thread t stand from record `first` on
abbrev pub StandsFrom : Set → (set : List ℕ) (t first count : ℕ) → Type 0
StandsFrom S set t first count = (x : ℕ) → x < count → S.statement t x ≡ statement_at set (first + x)

-- thread t has `count` statements, and they are the records from `first` on
pub record Stands (S : Set) (set : List ℕ) (first count t : ℕ) : Type 0 where
  pub count_is : S.count t ≡ count
  pub statement_is : StandsFrom S set t first count
