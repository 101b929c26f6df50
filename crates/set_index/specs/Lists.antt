-- Lists of statements, each kept as its first number and a next one for each number. This serves the code; no call's promise needs it. Assumes
-- nothing.
use Rattle.std.specs.Prelude.{ℕ, ◌+◌, ◌≤◌, ◌<◌, ◌≡◌, Bool, true}

-- of the numbers that are In and from `from` on, P holds of none before `it`; where `it` is below 32 it is one of them
pub record Leads (In : ℕ → Type 0) (P : ℕ → Bool) (it from : ℕ) : Type 0 where
  pub soonest : (x : ℕ) → In x → from ≤ x → P x ≡ true → it ≤ x
  pub belongs : it < 32 → In it × (P it ≡ true)

-- n lists of the statements that are In, of which list p has those of which P p holds, each list by its first statement and the next after each
pub record Lists (P : ℕ → ℕ → Bool) (n : ℕ) (In : ℕ → Type 0) (head next : ℕ → ℕ) : Type 0 where
  pub heads : (p : ℕ) → p < n → Leads In (P p) (head p) 0
  pub nexts : (p x : ℕ) → p < n → In x → P p x ≡ true → Leads In (P p) (next x) (x + 1)
  pub onwards : (p x : ℕ) → p < n → In x → P p x ≡ true → x < next x
