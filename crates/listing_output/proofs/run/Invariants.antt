-- `listing_output::run` meets its contract. The loop's invariant: the first k bytes of the schedule are a run of lowest choices, and its lines stand in the output. Assumes nothing.
use Rattle.std.proofs.Common.{length, take, true, ◌-◌, ◌≡◌}
use Rattle.records.specs.Sets.{set_of}
use Rattle.machine.specs.Machine.{no_write}
use Rattle.machine.specs.Maps.{begin}
use Rattle.machine.specs.Runs.{choices}
use Rattle.listing_output.specs.Listings.{listing_from}
use Rattle.listing_output.specs.Outputs.{Stands}
use Rattle.listing_output.specs.Schedules.{accepts}
use Rattle.listing_output.proofs.Listed.{Follows}
use Rattle.listing_output.proofs.Runs.{lines_of}
use Rattle.machine.specs.Traces.{longest_trace}
use Rattle.listing_output.proofs.run.Given as goal

abbrev pub invariant-loop-k : goal.invariant-loop-k
invariant-loop-k l =
    (accepts l.set l.map ≡ true) × (length l.schedule ≡ 64) × (length l.trace ≡ longest_trace)
    × Follows (set_of l.set) (begin l.map) (listing_from (set_of l.set) (begin l.map) no_write 64) (choices (take l.k l.schedule)) (64 - l.k)
    × Stands (lines_of (set_of l.set) (begin l.map) no_write (choices (take l.k l.schedule))) l.initial.out l.at l.out
