-- The checkpoints that are seen while a thread's statements are gone over: a byte for each, 0 where it was not seen. This serves the code; no call's
-- promise needs it. Assumes nothing.
use Rattle.std.specs.Prelude.{ℕ, ◌≤◌, ◌<◌, ◌≡◌, Bool, not, ◌&&◌, ◌||◌, List, eqb, get_or}
use Rattle.records.specs.Instructions.{CHECK}

-- checkpoint p was seen
abbrev pub is_seen : List ℕ → ℕ → Bool
is_seen seen p = not (eqb (get_or seen p 0) 0)

-- a statement is a CHECK of checkpoint p
abbrev pub checks_at : List ℕ → (n argument p : ℕ) → Bool
checks_at cs n argument p = eqb n CHECK && eqb argument (get_or cs p 0)

-- of the first n checkpoints those that pass the test are noted as seen; the others stay as they were
pub record Notes (n : ℕ) (test : ℕ → Bool) (seen after : List ℕ) : Type 0 where
  pub below : (p : ℕ) → p < n → is_seen after p ≡ (is_seen seen p || test p)
  pub past : (p : ℕ) → n ≤ p → is_seen after p ≡ is_seen seen p
