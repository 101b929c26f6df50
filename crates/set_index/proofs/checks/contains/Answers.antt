-- `set_index::checks::contains` meets its contract. Assumes nothing.
use Rattle.std.proofs.Common.{List, ap, ltb, ℕ, ◌∙◌}
use Rattle.records.specs.Sets.{Set}
use Rattle.set_index.specs.ListTables.{ListTable}
use Rattle.set_index.proofs.Making.{says}
use Rattle.set_index.proofs.checks.contains.Goals as goal

pub returns : goal.returns
returns c =
    let a = c.args in
    λ (S : Set) (cs : List ℕ) (k : ListTable S cs a.table.now) row column.
    ap (λ (x : ℕ). ltb x 32) c.first.ensures ∙ says S cs a.table.now k a.t a.p row column
