-- Kinds by their numbers. This serves the code; no call's promise needs it. Assumes nothing.
use Rattle.std.specs.Prelude.{ℕ, ◌≡◌, ◌≤◌, Result, MatchResult}
use Rattle.encoding.specs.Slots.{kind_count}
use Rattle.encoder_slots.specs.Kinds.{number_of}
use Rattle.encoder_slots.specs.declared.kinds.Kind.{Kind}
use Rattle.encoder_slots.specs.declared.kinds.NoKind.{NoKind}

-- the kind that a number names; the number itself from 41 on, which names none
abbrev pub Numbered : ℕ → Result Kind NoKind → Type 0
Numbered n r = MatchResult r (λ kind. number_of kind ≡ n) (λ none. (none.0 ≡ n) × (kind_count ≤ n))
