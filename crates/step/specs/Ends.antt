-- The end of a run on any layout; more than four threads are never permitted a choice. This serves the code; no call's promise needs it. Assumes
-- nothing.
use Rattle.std.specs.Prelude.{cond, ◌&&◌, leb}
use Rattle.records.specs.Sets.{Set, most_threads}
use Rattle.records.specs.declared.Layout.{Layout}
use Rattle.machine.specs.Machine.{State}
use Rattle.machine.specs.Runs.{some_permitted}
use Rattle.machine.specs.declared.End.{End}
use Rattle.machine.specs.declared.End.TheVariants.{Code, Stuck, Open}

-- `end_of` where there are at most four threads
abbrev pub end_for : Layout → Set → State → End
end_for layout S s = cond s.ended (Code s.code) (cond (leb layout.threads most_threads && some_permitted S s) Open Stuck)
