-- `encoder_slots::wide_before` meets its contract. Assumes nothing.
use Rattle.std.proofs.Common.{arith, le-leb, sym, ◌∙◌}
use borrow.Author.Tests.{lt-leb}
use Rattle.base.proofs.Choice.{chosen, passed}
use Rattle.encoder_slots.specs.Kinds.{number_of}
use Rattle.encoder_slots.proofs.Numbers.{number-below, tag-number}
use Rattle.encoder_slots.proofs.Rows.{number-counted}
use Rattle.encoder_slots.proofs.wide_before.Goals as goal

pub returns-then-at : goal.returns-then-at
returns-then-at c =
    let kind = c.args.kind in
    let k = number_of kind in
    let small = number-below kind in
    let is = tag-number kind in
    sym (number-counted k (omega arith)
    ∙ chosen _ _ (le-leb k 1 (rw is at c.if-at.true)))

pub returns-then-at-2 : goal.returns-then-at-2
returns-then-at-2 c =
    let kind = c.args.kind in
    let k = number_of kind in
    let small = number-below kind in
    let is = tag-number kind in
    sym (number-counted k (omega arith)
    ∙ passed _ _ (lt-leb k 1 (rw is at c.if-at.false))
    ∙ chosen _ _ (le-leb k 11 (rw is at c.if-at-2.true)))

pub returns-then-at-3 : goal.returns-then-at-3
returns-then-at-3 c =
    let kind = c.args.kind in
    let k = number_of kind in
    let small = number-below kind in
    let is = tag-number kind in
    rw is (sym (number-counted k (omega arith)
    ∙ passed _ _ (lt-leb k 1 (rw is at c.if-at.false))
    ∙ passed _ _ (lt-leb k 11 (rw is at c.if-at-2.false))
    ∙ chosen _ _ (le-leb k 17 (rw is at c.if-at-3.true))))

pub returns-then-at-4 : goal.returns-then-at-4
returns-then-at-4 c =
    let kind = c.args.kind in
    let k = number_of kind in
    let small = number-below kind in
    let is = tag-number kind in
    sym (number-counted k (omega arith)
    ∙ passed _ _ (lt-leb k 1 (rw is at c.if-at.false))
    ∙ passed _ _ (lt-leb k 11 (rw is at c.if-at-2.false))
    ∙ passed _ _ (lt-leb k 17 (rw is at c.if-at-3.false))
    ∙ chosen _ _ (le-leb k 31 (rw is at c.if-at-4.true)))

pub returns : goal.returns
returns c =
    let kind = c.args.kind in
    let k = number_of kind in
    let small = number-below kind in
    let is = tag-number kind in
    sym (number-counted k (omega arith)
    ∙ passed _ _ (lt-leb k 1 (rw is at c.if-at.false))
    ∙ passed _ _ (lt-leb k 11 (rw is at c.if-at-2.false))
    ∙ passed _ _ (lt-leb k 17 (rw is at c.if-at-3.false))
    ∙ passed _ _ (lt-leb k 31 (rw is at c.if-at-4.false))
    ∙ chosen _ _ (le-leb k 40 (omega arith)))
