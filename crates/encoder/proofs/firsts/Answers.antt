-- `encoder::firsts` meets its contract. Assumes nothing.
use Rattle.std.proofs.Common.{ap, false, true, ◌∙◌}
use Rattle.table.specs.Programs.{leaf_formula, constant_bit, constant_word, first_memory}
use Rattle.encoder_bases.proofs.Records.{record_at, written_4}
use Rattle.encoder.proofs.firsts.Goals as goal

pub returns : goal.returns
returns c =
    let a = c.args in
    (rw c.new-memory.ensures at c.put-4.ensures) ∙ (ap (record_at 3 (leaf_formula first_memory))
    ((rw c.known-word0.ensures at c.put-3.ensures) ∙ ap (record_at 2 (leaf_formula (constant_word 0)))
    ((rw c.known-bit1.ensures at c.put-2.ensures) ∙ ap (record_at 1 (leaf_formula (constant_bit true))) (rw c.known-bit0.ensures at c.put.ensures)))
    ∙ written_4 a.out.now 0 (leaf_formula (constant_bit false)) (leaf_formula (constant_bit true)) (leaf_formula (constant_word 0)) (leaf_formula first_memory))
