-- `encoder_slots::kept_past` meets its contract. Assumes nothing.
use Rattle.std.proofs.Common.{ap, arith, get_or, rules, sym, ℕ, ◌*◌, ◌+◌, ◌∙◌, ◌≡◌}
use Rattle.encoder_slots.proofs.Rows.{index-past, width-past}
use Rattle.encoder_slots.proofs.Stores.{kept_in}
use Rattle.encoder_slots.proofs.kept_past.Goals as goal

pub returns : goal.returns
returns c =
    let a = c.args in
    let past = c.requires in
    let small = c.ranges.number.fits in
    let w = width-past a.number past (omega arith) in
    let read : c.unwrap_or.result ≡ get_or a.slots.now (36 * a.number + 828 + (9 * a.a + a.b)) 0 = search rules in
    read ∙ ap (λ (i : ℕ). get_or a.slots.now i 0) (index-past a.number past (omega arith) a.a a.b)
    ∙ sym (kept_in a.slots.now a.number a.a a.b (omega arith) (omega arith))
