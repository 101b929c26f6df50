-- `encoder_chains::written::put_link` meets its contract. Assumes nothing.
use Rattle.std.proofs.Common.{List, ap, arith, ℕ, ◌*◌, ◌∙◌}
use Rattle.base.specs.Bytes.{placed}
use Rattle.encoder_chains.proofs.Trees.{without, with_link}
use Rattle.encoding.specs.Slots.{Slot, Term}
use Rattle.encoding.specs.Steps.{Link as ChainLink}
use Rattle.table.specs.Formulas.{formula_bytes}
use Rattle.table.specs.declared.Formula.{Formula}
use Rattle.encoder_chains.proofs.written.put_link.Goals as goal

pub returns-in-None : goal.returns-in-None
returns-in-None g c =
    let a = c.args in (
      λ (places : Slot → ℕ) (l : ChainLink) (tree : Term) (start : List ℕ) (m : ℕ) few e w.
          without places tree start a.out.now m a.n a.at w (g.L.NamesLink.numbers a.link) l e c.in-None.ensures,
      omega arith,
    )

pub returns-then-n-gt-LAST : goal.returns-then-n-gt-LAST
returns-then-n-gt-LAST g c = (λ places l tree start m few e w. absurd (omega arith), omega arith)

pub returns-else-n-gt-LAST : goal.returns-else-n-gt-LAST
returns-else-n-gt-LAST g c =
    let a = c.args in
    let r = c.in-Some.ensures in (
      λ (places : Slot → ℕ) (l : ChainLink) (tree : Term) (start : List ℕ) (m : ℕ) few e w.
          rw c.from.ensures
          (with_link places tree start a.out.now m a.n a.at w (g.L.NamesLink.numbers a.link) l e r.0 _
          (c.put.ensures ∙ ap (λ (f : Formula). placed a.out.now (16 * a.n) (formula_bytes f)) r.1)),
      omega arith,
    )
