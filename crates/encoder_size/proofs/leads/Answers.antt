-- `encoder_size::leads` meets its contract. Assumes nothing.
use Rattle.std.proofs.Common.{suc, add-one, ap, ap₂, arith, eqb, sym, Bool, ℕ, ◌&&◌, ◌+◌, ◌||◌, ◌∙◌, ◌≡◌}
use Rattle.encoder_size.proofs.Parts.{leads_nowhere, leads-there, leads-both, leads-on}
use Rattle.encoder_size.specs.Sizes.{within}
use Rattle.encoding.specs.Steps.{is_one_way, is_conditional}
use Rattle.encoder_size.proofs.leads.Goals as goal

-- the test of the code is that of the definition, from what the code knows of its numbers
one_way : (n target i there from : ℕ) (conditional b : Bool) → there ≡ target → from ≡ i → conditional ≡ is_conditional n →
    (eqb n 9 || conditional && eqb there (from + 1)) ≡ b → is_one_way n target i ≡ b
one_way n target i there from conditional b t f k e = let h = rw (t, f, k, add-one) at e in h

-- the number of the next statement
next_is : (i from count : ℕ) → from ≡ i → within (from + 1) count ≡ within (suc i) count
next_is i from count e = rw (e, add-one)

pub returns-then-rests : goal.returns-then-rests
returns-then-rests c = (sym (leads_nowhere _ _ _ _ (sym c.rests.ensures ∙ c.if-rests.true)), omega arith)

pub returns-then-n-conditional : goal.returns-then-n-conditional
returns-then-n-conditional c =
    let a = c.args in
    let one = one_way a.n a.target a.i _ _ _ _ c.from-there.ensures c.from-next.ensures c.is_conditional-conditional.ensures c.if-n-conditional.true in
    (c.within.ensures.0 ∙ (ap (λ (j : ℕ). within j a.count) c.from-there.ensures ∙ sym (leads-there a.n a.target a.i a.count (sym c.rests.ensures ∙ c.if-rests.false) one)), omega arith)

pub returns-then-conditional : goal.returns-then-conditional
returns-then-conditional c =
    let a = c.args in
    let one = one_way a.n a.target a.i _ _ _ _ c.from-there.ensures c.from-next.ensures c.is_conditional-conditional.ensures c.if-n-conditional.false in
    let both = leads-both a.n a.target a.i a.count (sym c.rests.ensures ∙ c.if-rests.false) one (sym c.is_conditional-conditional.ensures ∙ c.if-conditional.true) in (
      ap₂ (λ x y. x + y) (c.within-then-conditional.ensures.0 ∙ ap (λ (j : ℕ). within j a.count) c.from-there.ensures)
          (c.within-then-conditional-2.ensures.0 ∙ next_is a.i _ a.count c.from-next.ensures) ∙ sym both,
      omega arith,
    )

pub returns : goal.returns
returns c =
    let a = c.args in
    let one = one_way a.n a.target a.i _ _ _ _ c.from-there.ensures c.from-next.ensures c.is_conditional-conditional.ensures c.if-n-conditional.false in (
      c.within-2.ensures.0 ∙ (next_is a.i _ a.count c.from-next.ensures
          ∙ sym (leads-on a.n a.target a.i a.count (sym c.rests.ensures ∙ c.if-rests.false) one (sym c.is_conditional-conditional.ensures ∙ c.if-conditional.false))),
      omega arith,
    )
