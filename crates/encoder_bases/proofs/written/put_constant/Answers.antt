-- `encoder_bases::written::put_constant` meets its contract. Assumes nothing.
use Rattle.std.proofs.Common.{ap, arith, refl, ◌∙◌}
use Rattle.table.specs.Programs.{leaf, constant_word, leaf_formula}
use Rattle.table.specs.declared.Formula.{Formula}
use Rattle.encoder_bases.proofs.Records.{record_at}
use Rattle.encoder_bases.proofs.Given.{gives_leaf, puts_one}
use Rattle.encoder_bases.proofs.written.put_constant.Goals as goal

pub returns : goal.returns
returns c =
    let a = c.args in
    let word = constant_word a.word in
    (λ at. rw c.from.ensures (puts_one at a.n (leaf word) a.out.now _ (leaf_formula word) (gives_leaf at a.n _ word word refl (refl, (refl, refl))) (c.put.ensures ∙ ap (λ (f : Formula). record_at a.n f a.out.now) c.known.ensures)), omega arith)
