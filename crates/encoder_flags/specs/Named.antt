-- The next jump that names a statement. This serves the code; no call's promise needs it. Assumes nothing.
use Rattle.std.specs.Prelude.{ℕ, ◌<◌}
use Rattle.records.specs.Sets.{Set}
use Rattle.set_index.specs.Members.{names_target}
use Rattle.set_index.specs.Lists.{Leads}

-- statement j of thread t is named, among the first `count` statements and from `from` on, by none before `it`; where `it` is below `no_statement` it is one that names j
abbrev pub NamedFirst : Set → (t count it from j : ℕ) → Type 0
NamedFirst S t count it from j = Leads (λ x. x < count) (λ x. names_target (S.statement t x) j) it from
