-- `encoder_step::rule` meets its contract. Assumes nothing.
use Rattle.std.proofs.Common.{List, ap, arith, refl, ℕ, ◌*◌, ◌+◌, ◌∙◌, ◌≡◌}
use Rattle.encoding.specs.Slots.{kind_number, none}
use Rattle.encoder_slots.specs.Places.{place_from}
use Rattle.table.specs.Formulas.{bit_sort}
use Rattle.table.specs.Programs.{constraint, ternary_formula, if3}
use Rattle.records.specs.Sets.{set_by}
use Rattle.encoder_step.proofs.Constraint.{rule-writes}
use Rattle.encoder_bases.proofs.Records.{record_at}
use Rattle.encoder_step.proofs.rule.Goals as goal

pub returns : goal.returns
returns c =
    let a = c.args in
    let twice : 2 * c.from-choices.result ≡ a.layout.threads + a.layout.threads = let e = c.from-choices.ensures in omega arith in (
      λ (bytes cs : List ℕ) (step : ℕ). rule-writes a.out.now a.slots.now a.n (set_by bytes a.layout) cs step _
          ((rw (c.new-constraint.ensures, c.from.ensures) at c.put-2.ensures) ∙ ap (record_at (a.n + 1) (constraint a.n))
          ((rw c.new-test.ensures at c.put.ensures)
          ∙ λ i. record_at a.n (ternary_formula (if3 bit_sort) (c.place-ended.ensures i)
          ((c.place-none.ensures ∙ ap (λ (b : ℕ). place_from a.slots.now (kind_number none) 0 b 0) twice) i) (c.place-one.ensures i)) a.out.now)),
      refl,
    )
