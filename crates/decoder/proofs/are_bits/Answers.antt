-- `decoder::are_bits` meets its contract. Assumes nothing.
use Rattle.std.proofs.Common.{◌≡◌, ◌<◌, ◌≤◌, ℕ, Bool, true, false, List, length, get_or, arith, rules, ltb, lt-ltb, le-ltb, sym}
use Rattle.std.specs.Bool.{MatchBool}
use Rattle.std.specs.List.{HoldsAt, AllWithin}
use borrow.Author.Tests.{tests}
use Rattle.std.proofs.lemmas.Iterator.{cases_from_all, YieldsList-from_slice}
use Rattle.base.specs.Below.{every}
use Rattle.base.proofs.Below.{every-all, every-not}
use Rattle.decoder.proofs.are_bits.Goals as goal

by_cases : (r : Bool) (xs : List ℕ) → MatchBool r (AllWithin (λ x. x < 2) xs 0 (length xs)) ((k : ℕ) × (k < length xs) × HoldsAt (λ x. 2 ≤ x) xs k) →
    r ≡ every (length xs) (λ i. ltb (get_or xs i 0) 2)
by_cases true xs h = sym (every-all (λ i. ltb (get_or xs i 0) 2) (length xs) (λ i l. lt-ltb _ _ (h i 0 (omega arith) l)))
by_cases false xs h = sym (every-not (λ i. ltb (get_or xs i 0) 2) (length xs) h.0 h.1 (le-ltb _ _ (h.2 0)))

pub returns : goal.returns
returns c =
    let xs = c.args.bytes.now in
    by_cases _ xs (cases_from_all _ _ _ (λ x. x < 2) (λ x. 2 ≤ x) c.all.ensures.ran (YieldsList-from_slice xs cc) (λ x q k. search (rules, tests)) (λ x q k. search (rules, tests)))
