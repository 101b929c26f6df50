-- What both calls of the encoder know of a set, a map and a bound that they do not refuse. This serves the code; no call's promise needs it.
-- Assumes nothing.
use Rattle.std.specs.Prelude.{ℕ, ◌≡◌, true, List}
use Rattle.records.specs.Maps.{map_accepted, set_cells}
use Rattle.records.specs.Sets.{set_accepted, layout_of}
use Rattle.records.specs.declared.Layout.{Layout}
use Rattle.encoder.specs.Answers.{bound_fits}

-- the layout of the set and the number of the steps, none of the three being refused
pub record IsAccepted (set map : List ℕ) (bound : ℕ) (layout : Layout) (steps : ℕ) : Type 0 where
  pub accepted_set : set_accepted set ≡ true
  pub accepted_map : map_accepted set_cells map ≡ true
  pub accepted_bound : bound_fits bound ≡ true
  pub layout_is : layout ≡ layout_of set
  pub steps_are : steps ≡ bound
