-- A thread's statements stand where its layout says. Assumes nothing.
use Prim.Native.Nat.{ℕ, ◌+◌, ◌≤◌, ◌<◌}
use mathlib.Core.Path.{◌≡◌, refl, sym, ap, ◌∙◌}
use mathlib.Core.List.{List}
use native.Mathlib.Omega.{arith}
use lib.ListN.{get_or}
use borrow.Author.Tests.{lt-ltb}
use Rattle.base.proofs.Choice.{chosen}
use Rattle.records.specs.Sets.{set_by, statement_at}
use Rattle.records.specs.declared.Layout.{Layout}
use Rattle.records.specs.StatementRecords.{StandsFrom, Stands}

-- the first `count` of them
pub stands_from : (set : List ℕ) (layout : Layout) (t first count : ℕ) → first ≡ get_or layout.starts t 0 → count ≤ get_or layout.counts t 0 →
    StandsFrom (set_by set layout) set t first count
stands_from set layout t first count from most = λ (x : ℕ) (p : x < count).
    chosen _ _ (lt-ltb x (get_or layout.counts t 0) (omega arith)) ∙ ap (λ (k : ℕ). statement_at set (k + x)) (sym from)

-- all of them
pub stands_by : (set : List ℕ) (layout : Layout) (t first : ℕ) → first ≡ get_or layout.starts t 0 → Stands (set_by set layout) set first (get_or layout.counts t 0) t
stands_by set layout t first from = record { count_is = refl; statement_is = stands_from set layout t first (get_or layout.counts t 0) from (omega arith) }
