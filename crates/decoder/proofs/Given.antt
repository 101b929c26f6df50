-- What the search for first cells gives for a run within its limits. Assumes nothing.
use Prim.Native.Nat.{ℕ, ◌*◌, ◌/◌, ◌≤◌}
use mathlib.Core.Path.{◌≡◌, ap, sym, ◌∙◌}
use mathlib.Core.Bool.{true, ◌&&◌}
use mathlib.Core.List.{List}
use native.Mathlib.Omega.{arith}
use borrow.Author.Tests.{le-leb}
use lib.ListN.{length}
use Rattle.base.specs.Below.{number}
use Rattle.base.specs.Bytes.{over}
use Rattle.base.proofs.Choice.{chosen, and_true}
use Rattle.records.specs.Maps.{map_accepted, set_cells}
use Rattle.records.specs.Sets.{Set}
use Rattle.machine.specs.Machine.{start, no_write}
use Rattle.machine.specs.Runs.{choices, is_run}
use Rattle.machine.specs.Traces.{trace, step_length}
use Rattle.decoding.specs.Decodings.{cells_below, longest_map}
use Rattle.first_cells.specs.Firsts.{first_cell, fits, found_by, written_by}
use Rattle.decoding.specs.declared.Decoded.{Decoded}
use Rattle.std.specs.Prelude.{Option, Some}

-- a set's map, and a run of at most 64 steps
pub record Asked (S : Set) (map : List ℕ) (first : ℕ → ℕ) (schedule : List ℕ) : Type 0 where
  pub few_threads : S.threads ≤ 4
  pub accepted : map_accepted set_cells map ≡ true
  pub few_steps : length schedule ≤ 64
  pub runs : is_run S (start first) (choices schedule) ≡ true

-- the run's steps and cells, its trace, and the map
pub record Given (S : Set) (map : List ℕ) (first : ℕ → ℕ) (schedule before after cells_before cells_after : List ℕ) (r : Decoded) : Type 0 where
  pub steps : r.steps ≡ length schedule
  pub count : r.cells ≡ number 65536 (first_cell S map first schedule)
  pub traced : after ≡ over (trace S (start first) no_write (choices schedule)) before
  pub found : cells_after ≡ over (cells_below (first_cell S map first schedule) first 65536) cells_before

module _ (S : Set) (map : List ℕ) (first : ℕ → ℕ) (schedule before after cells_before cells_after : List ℕ) (r : Option Decoded)
    (asked : Asked S map first schedule) (room : step_length * length schedule ≤ length before) (map_room : longest_map ≤ length cells_before) where
  ran : (fits S map schedule (length before) (length cells_before) && is_run S (start first) (choices schedule)) ≡ true
  ran =
      let few : length schedule ≤ length before / step_length = omega arith in
      and_true (and_true (and_true (and_true (and_true (le-leb S.threads 4 asked.few_threads) asked.accepted)
      (le-leb (length schedule) 64 asked.few_steps)) (le-leb (length schedule) (length before / step_length) few)) (le-leb longest_map (length cells_before) map_room)) asked.runs

  abbrev whole : Decoded
  whole = record { steps = length schedule; cells = number 65536 (first_cell S map first schedule) }

  -- something is found
  pub is-found : r ≡ found_by S map first schedule (length before) (length cells_before) → r ≡ Some whole
  unfolding found_by
  is-found e = e ∙ chosen _ _ ran

  pub given : (d : Decoded) → r ≡ Some d → r ≡ found_by S map first schedule (length before) (length cells_before) →
      after ≡ written_by r (trace S (start first) no_write (choices schedule)) before →
      cells_after ≡ written_by r (cells_below (first_cell S map first schedule) first 65536) cells_before →
      Given S map first schedule before after cells_before cells_after d
  given d is e t m =
      let same : Some d ≡ Some whole = sym is ∙ is-found e in
      record {
        steps = cc;
        count = cc;
        traced = t ∙ ap (λ (x : Option Decoded). written_by x (trace S (start first) no_write (choices schedule)) before) is;
        found = m ∙ ap (λ (x : Option Decoded). written_by x (cells_below (first_cell S map first schedule) first 65536) cells_before) is;
      }
