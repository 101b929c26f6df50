-- Threads that a set does not have: no statements. Assumes nothing.
use Prim.Native.Nat.{ℕ, ◌≤◌}
use mathlib.Core.Path.{◌≡◌}
use mathlib.Core.List.{List}
use native.Mathlib.Omega.{arith}
use lib.ListN.{length, get_or, get_or-eq_default}
use Rattle.records.specs.declared.Layout.{Layout}

module _ (bytes : List ℕ) (layout : Layout) (four : length layout.counts ≡ 4) where
  pub count_past : (t : ℕ) → 4 ≤ t → get_or layout.counts t 0 ≡ 0
  count_past t h =
      let l : length layout.counts ≤ t = omega arith in
      get_or-eq_default layout.counts 0 l
