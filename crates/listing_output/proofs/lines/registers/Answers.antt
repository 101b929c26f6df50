-- `listing_output::lines::registers` meets its contract: its items stand one after the other. Assumes nothing.
use Rattle.std.proofs.Common.{append_assoc, ◌∙◌}
use Rattle.listing_output.proofs.Texts.{stands_as, prints_item}
use Rattle.listing_output.proofs.lines.registers.Goals as goal

pub returns : goal.returns
returns c =
    λ before xs s.
    stands_as (prints_item (c.from.ensures ∙ c.byte_at.ensures) c.item.ensures _ xs
    (prints_item c.word_at-4.ensures c.item-val.ensures _ xs
    (prints_item c.word_at-3.ensures c.item-adr.ensures _ xs
    (prints_item c.word_at-2.ensures c.item-mem.ensures _ xs
    (prints_item c.word_at.ensures c.item-accu.ensures before xs s)))))
    (simp append_assoc)
