-- Whether a thread contains a checkpoint, by what its statements are. Assumes nothing.
use Prim.Native.Nat.{ℕ, ◌<◌}
use mathlib.Core.Path.{◌≡◌}
use mathlib.Core.Bool.{true, false}
use Rattle.base.proofs.Below.{some_at, some-none}
use Rattle.records.specs.Sets.{Set}
use Rattle.machine.specs.Machine.{is_check, contains}

module _ (S : Set) (t c : ℕ) where
  pub contains-at : (x : ℕ) → x < S.count t → is_check S t c x ≡ true → contains S t c ≡ true
  unfolding contains
  contains-at x h e = some_at (is_check S t c) (S.count t) x h e

  pub contains-none : ((x : ℕ) → x < S.count t → is_check S t c x ≡ false) → contains S t c ≡ false
  unfolding contains
  contains-none none = some-none (is_check S t c) (S.count t) none
