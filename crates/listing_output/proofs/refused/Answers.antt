-- `listing_output::refused` meets its contract. Assumes nothing.
use Rattle.std.proofs.Common.{[]}
use Rattle.listing_output.proofs.Texts.{stands-none}
use Rattle.listing_output.proofs.refused.Goals as goal

pub returns : goal.returns
returns c = let s = c.refusal.ensures [] c.args.out.now (stands-none c.args.out.now) in (s.place, s.bytes)
