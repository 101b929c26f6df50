-- Tests over the numbers below a bound. A reader of the calls believes this. Assumes nothing.
use Rattle.std.specs.Prelude.{ℕ, zero, suc, ◌+◌, Bool, true, false, cond, ◌&&◌, ◌||◌, nat_lt}

-- every number below n passes
unfoldable pub every : ℕ → (ℕ → Bool) → Bool
every zero test = true
every (suc n) test = every n test && test n

-- some number below n passes
unfoldable pub some : ℕ → (ℕ → Bool) → Bool
some zero test = false
some (suc n) test = some n test || test n

-- how many numbers below n pass
unfoldable pub number : ℕ → (ℕ → Bool) → ℕ
number zero test = 0
number (suc n) test = number n test + cond (test n) 1 0

-- the least number below n that passes; n where none does
unfoldable pub least : ℕ → (ℕ → Bool) → ℕ
least zero test = 0
least (suc n) test = let i = least n test in cond (nat_lt i n) i (cond (test n) n (suc n))
