-- `decoder::schedule_of` meets its contract. Assumes nothing.
use Rattle.std.proofs.Common.{◌≡◌, refl, ◌<◌, ◌≤◌, ◌+◌, ◌*◌, Bool, true, false, ℕ, Option, Some, None, List, eqb, get_or, take, ltb, ltb-true, ltb-false, ap, arith, length-set, subst, sym, ◌∙◌}
use Rattle.base.specs.Below.{least}
use Rattle.base.proofs.Choice.{chosen, passed}
use Rattle.machine.specs.Runs.{choices}
use Rattle.decoding.specs.Lookups.{first_of}
use Rattle.decoding.specs.Decodings.{run_of}
use Rattle.decoding.specs.Models.{assigned}
use Rattle.decoder.proofs.Scheduled.{scheduled_first, scheduled_all, scheduled_over, scheduled_more}
use Rattle.decoder.proofs.schedule_of.Goals as goal

none_first : (n : ℕ) (test : ℕ → Bool) → None ≡ first_of n test → n ≤ least n test
none_first n test e = go (ltb (least n test) n) refl
  where
    go : (b : Bool) → ltb (least n test) n ≡ b → n ≤ least n test
    go true h = let f : None ≡ Some (least n test) = e ∙ chosen _ _ h in absurd (cc)
    go false h = ltb-false _ _ h

some_first : (n : ℕ) (test : ℕ → Bool) (j : ℕ) → Some j ≡ first_of n test → (j ≡ least n test) × (j < n)
some_first n test j e = go (ltb (least n test) n) refl
  where
    go : (b : Bool) → ltb (least n test) n ≡ b → (j ≡ least n test) × (j < n)
    go true h =
        let f : Some j ≡ Some (least n test) = e ∙ chosen _ _ h in
        let g : j ≡ least n test = cc in
        (g, omega (arith, g, ltb-true _ _ h))
    go false h = let f : Some j ≡ None = e ∙ passed _ _ h in absurd (cc)

-- the search by the number of threads
by_threads : (model : List ℕ) (threads row k : ℕ) (r : Option ℕ) → row ≡ threads → r ≡ first_of (2 * row) (λ j. eqb (get_or model (2 * row * k + j) 0) 1) →
    r ≡ first_of (2 * threads) (λ j. eqb (get_or model (2 * threads * k + j) 0) 1)
by_threads model threads row k r e f = f ∙ ap (λ (t : ℕ). first_of (2 * t) (λ j. eqb (get_or model (2 * t * k + j) 0) 1)) e

pub loop-k-init : goal.loop-k-init
loop-k-init c = let a = c.args in (c.requires.2, scheduled_first a.threads a.bound a.model.now a.schedule.now)

pub returns-in_default : goal.returns-in_default
returns-in_default c =
    let a = c.args in
    let l = c.loop-k in
    let more : l.k < a.bound = omega (arith, c.from-steps.ensures, c.loop-k-test.true) in
    let none = sym c.in_default.is ∙ by_threads a.model.now a.threads c.from-row.result l.k c.first_bit.result c.from-row.ensures c.first_bit.ensures in
    (omega arith, scheduled_over a.threads a.bound a.model.now l.schedule l.k _ l.invariant.1 more refl (none_first _ _ none))

pub loop-k-preserved : goal.loop-k-preserved
loop-k-preserved c =
    let a = c.args in
    let l = c.loop-k in
    let more : l.k < a.bound = omega (arith, c.from-steps.ensures, c.loop-k-test.true) in
    let some = sym c.in-Some.is ∙ by_threads a.model.now a.threads c.from-row.result l.k c.first_bit.result c.from-row.ensures c.first_bit.ensures in
    let found = some_first _ _ c.in-Some.j some in (
      length-set l.schedule l.k c.schedule_byte.result ∙ l.invariant.0,
      scheduled_more a.threads a.bound a.model.now l.schedule l.k c.in-Some.j c.schedule_byte.result l.invariant.1 more (omega (arith, more, l.invariant.0, c.requires.1)) found.0 found.1 c.schedule_byte.ensures,
    )

pub returns : goal.returns
returns c =
    let a = c.args in
    let l = c.loop-k in
    let all : l.k ≡ c.from-steps.result = omega arith in
    subst (λ (n : ℕ). (n ≤ a.bound) × (choices (take n l.schedule) ≡ run_of a.threads a.bound (assigned a.threads a.bound a.model.now))) all
    (l.invariant.1.within, scheduled_all a.threads a.bound a.model.now l.schedule l.k l.invariant.1 (omega (arith, all, c.from-steps.ensures)))
