-- `encoder::choice_bits` meets its contract. Assumes nothing.
use Rattle.std.proofs.Common.{ap₂, arith, refl, ℕ, ◌*◌, ◌+◌, ◌∙◌}
use Rattle.base.specs.Bytes.{placed}
use Rattle.table.specs.declared.Formula.{Formula}
use Rattle.table.specs.Formulas.{formula_bytes}
use Rattle.table.proofs.Numbered.{numbered-none, numbered_more}
use Rattle.encoder.proofs.choice_bits.Invariants.{bit}
use Rattle.encoder.proofs.choice_bits.Goals as goal

pub loop-j-init : goal.loop-j-init
loop-j-init c =
    let a = c.args in
    (omega arith, refl, numbered-none (bit a.threads a.step) a.out.now a.n)

pub loop-j-preserved : goal.loop-j-preserved
loop-j-preserved c =
    let a = c.args in
    let l = c.loop-j in (
      l.invariant.0,
      c.put.auto.out ∙ l.invariant.1,
      c.put.ensures
          ∙ (ap₂ (λ (j : ℕ) (x : Formula). placed l.out (16 * (a.n + j)) (formula_bytes x)) c.from.ensures c.choice_bit.ensures
          ∙ numbered_more (bit a.threads a.step) a.out.now l.out a.n l.j l.invariant.2),
    )
