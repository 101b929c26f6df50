-- `listing_output::lines::act` meets its contract: its items stand one after the other. Assumes nothing.
use Rattle.std.proofs.Common.{ap, append_assoc, get_or, ℕ, ◌≡◌, ◌∙◌}
use Rattle.base.specs.Bytes.{word_at}
use Rattle.records.specs.declared.Statement.{Statement}
use Rattle.listing_output.specs.Listings.{item, name, argument}
use Rattle.listing_output.proofs.Texts.{stands_as, prints_as, prints_item}
use Rattle.listing_output.proofs.lines.act.Goals as goal

pub returns : goal.returns
returns c =
    λ before xs s.
    let step = c.args.step.now in
    let number = c.byte_at-n.ensures in
    let mode = c.byte_at.ensures in
    let value = c.word_at.ensures in
    let i : Statement = record { number = get_or step 1 0; mode = get_or step 6 0; argument = word_at step 4 } in
    let same : argument (record { number = c.byte_at-n.result; mode = c.byte_at.result; argument = c.word_at.result }) ≡ argument i = ap argument (λ k. record { number = number k; mode = mode k; argument = value k }) in
    stands_as (c.put.ensures _ xs
    (prints_as same c.argument-next.ensures _ xs
    (prints_as (ap (λ (n : ℕ). item (name n)) number) c.word-named.ensures _ xs
    (prints_item c.word_at-2.ensures c.item-pc.ensures _ xs
    (prints_item (c.from.ensures ∙ c.byte_at-2.ensures) c.item-thread.ensures before xs s)))))
    (simp append_assoc)
