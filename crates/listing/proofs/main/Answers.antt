-- `listing::main` meets its contract. Assumes nothing.
use Rattle.std.proofs.Common.{length-take-le, rules, sym}
use Rattle.listing.proofs.main.Goals as goal

pub slice_bounds-write_all-end : goal.slice_bounds-write_all-end
slice_bounds-write_all-end c = sym (length-take-le c.list_text-length.result c.list_text-length.new.out (search rules))
