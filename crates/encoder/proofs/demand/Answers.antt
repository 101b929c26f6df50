-- `encoder::demand` meets its contract. Assumes nothing.
use Rattle.std.proofs.Common.{ap, refl, ◌+◌, ◌∙◌}
use Rattle.table.specs.Programs.{constraint, leaf_formula, binary_formula, constant_word, equal2, read2}
use Rattle.encoder.proofs.Parts.{demand_writes}
use Rattle.encoder_bases.proofs.Records.{record_at}
use Rattle.encoder.proofs.demand.Goals as goal

pub returns : goal.returns
returns c =
    let a = c.args in (
      demand_writes a.out.now a.slots.now a.n a.map.now a.j _
          ((rw (c.new-constraint.ensures, c.from-at.ensures) at c.put-5.ensures) ∙ ap (record_at (a.n + 4) (constraint (a.n + 3)))
          ((rw (c.new-equal.ensures, c.from-at.ensures) at c.put-4.ensures) ∙ ap (record_at (a.n + 3) (binary_formula equal2 (a.n + 1) (a.n + 2)))
          ((rw c.known-value.ensures at c.put-3.ensures) ∙ (λ i. record_at (a.n + 2) (leaf_formula (constant_word (c.value_at.ensures i)))
          (((rw (c.new-read.ensures, c.from-at.ensures) at c.put-2.ensures) ∙ λ k. record_at (a.n + 1) (binary_formula read2 (c.place.ensures k) a.n)
          (((rw c.known-address.ensures at c.put.ensures) ∙ λ h. record_at a.n (leaf_formula (constant_word (c.address_at.ensures h))) a.out.now) k)) i))))),
      refl,
    )
