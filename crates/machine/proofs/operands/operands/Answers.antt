-- `machine::operands::operands` meets its contract. Assumes nothing.
use Rattle.std.proofs.Common.{ap, false, not, sym, true, ◌∙◌, ◌≡◌}
use Rattle.records.specs.Instructions.{is_memory}
use Rattle.base.proofs.Choice.{and_true, and_right_false, and_yes}
use Rattle.machine.specs.Machine.{takes_word}
use Rattle.machine.specs.Held.{memory_in, known_in, cells_of}
use Rattle.machine.proofs.Loads.{knows-from, cells-word, cells-none, word_none, plain}
use Rattle.machine.proofs.operands.operands.Goals as goal

pub address-a-requires : goal.address-a-requires
address-a-requires c = sym c.is_memory.ensures ∙ c.if-is_memory.true

pub returns-then-is : goal.returns-then-is
returns-then-is c =
    let a = c.args in
    let t : takes_word a.i.number ≡ false = and_right_false (is_memory a.i.number) (ap not (sym c.is.ensures ∙ c.if-is.true)) in
    let w = word_none a.i a.x (memory_in a.addresses.now a.values.now) (known_in a.addresses.now) t in
    let e = c.address-a.ensures in (
      sym (and_yes _) ∙ knows-from a.i a.x (memory_in a.addresses.now a.values.now) (known_in a.addresses.now) _ true e.0 w.0,
      e.1,
      w.1,
      cells-none a.i a.x (memory_in a.addresses.now a.values.now) (known_in a.addresses.now) _ _ e.2 w.2 c.then_some.ensures,
    )

pub word-w-requires : goal.word-w-requires
word-w-requires c =
    let memory_word : is_memory c.args.i.number ≡ true = sym c.is_memory.ensures ∙ c.if-is_memory.true in
    (and_true memory_word (ap not (sym c.is.ensures ∙ c.if-is.false)), c.address-a.ensures.1)

pub returns-then-is_memory : goal.returns-then-is_memory
returns-then-is_memory c =
    let a = c.args in
    let e = c.address-a.ensures in
    let w = c.word-w.ensures in
    let memory = memory_in a.addresses.now a.values.now in (
      knows-from a.i a.x memory (known_in a.addresses.now) _ _ e.0 (rw e.1 at w.0),
      e.1,
      w.1,
      cells-word a.i a.x memory (known_in a.addresses.now) _ _ _ _ _ e.2 (rw e.1 at w.2) e.1 c.then_some-then-is_memory.ensures c.then_some-then-is_memory-2.ensures,
    )

pub returns : goal.returns
returns c =
    let a = c.args in
    let n = c.none.ensures in
    let p = plain a.i a.x (memory_in a.addresses.now a.values.now) (known_in a.addresses.now) (sym c.is_memory.ensures ∙ c.if-is_memory.false) in
    (n.0 ∙ p.0, n.1 ∙ p.1, n.2 ∙ p.2, ap cells_of n.3 ∙ p.3)
