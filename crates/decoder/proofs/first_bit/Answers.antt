-- `decoder::first_bit` meets its contract. Assumes nothing.
use Rattle.std.proofs.Common.{◌≡◌, ◌+◌, ◌<◌, ◌≤◌, ℕ, Bool, Option, Some, None, true, false, eqb, get_or, arith, rules, sym, ap, ◌∙◌, lt-ltb, le-ltb}
use Rattle.std.specs.Option.{MatchOption}
use borrow.Author.Tests.{tests}
use Rattle.std.proofs.lemmas.Iterator.{first_from_Range}
use Rattle.base.specs.Below.{least}
use Rattle.base.proofs.Below.{least-hit, least-none}
use Rattle.base.proofs.Choice.{chosen, passed}
use Rattle.decoding.specs.Lookups.{first_of}
use Rattle.decoder.proofs.first_bit.Goals as goal

by_cases : (test : ℕ → Bool) (n : ℕ) (r : Option ℕ) →
    MatchOption r ((k : ℕ) → 0 ≤ k → k < n → test k ≡ false) (λ i. (0 ≤ i) × (i < n) × (test i ≡ true) × ((k : ℕ) → 0 ≤ k → k < i → test k ≡ false)) → r ≡ first_of n test
by_cases test n None h =
    let e = least-none test n (λ k l. h k (omega arith) l) in
    sym (passed _ _ (le-ltb (least n test) n (omega (arith, e))))
by_cases test n (Some i) h =
    let e = least-hit test n i (least-none test i (λ k l. h.3 k (omega arith) l)) h.2 h.1 in
    ap Some (sym e) ∙ sym (chosen _ _ (lt-ltb (least n test) n (omega (arith, e, h.1))))

pub returns : goal.returns
returns c =
    let a = c.args in
    by_cases (λ j. eqb (get_or a.model.now (a.at + j) 0) 1) a.n c.find.result
    (first_from_Range _ _ _ c.find.result (λ j. eqb (get_or a.model.now (a.at + j) 0) 1 ≡ true) (λ j. eqb (get_or a.model.now (a.at + j) 0) 1 ≡ false) c.find.ensures.ran (λ x q k. search (rules, tests)) (λ x q k. search (rules, tests)))
