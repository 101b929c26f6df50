-- `encoder_slots::begin` meets its contract. Assumes nothing.
use Rattle.std.proofs.Common.{arith, ◌∙◌}
use Rattle.encoder_slots.specs.Kinds.{number_of}
use Rattle.encoder_slots.proofs.Numbers.{tag-number}
use Rattle.encoder_slots.proofs.Rows.{begin-counted}
use Rattle.encoder_slots.proofs.begin.Goals as goal

pub returns : goal.returns
returns c = let is = tag-number c.args.kind in let e = begin-counted (number_of c.args.kind) in let f = c.from.ensures ∙ c.wide_before.ensures in omega arith
