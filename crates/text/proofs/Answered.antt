-- What an answer that is not a refusal says: the records' numbers, and room for them. Assumes nothing.
use Prim.Native.Nat.{ℕ, suc, ◌*◌, ◌≤◌}
use mathlib.Core.Path.{◌≡◌, refl, subst}
use mathlib.Core.List.{List, [], ◌∷◌}
use mathlib.Core.Bool.{Bool, true, false, cond, not}
use lib.Dec.{leb, ltb}
use lib.ListN.{length}
use borrow.Author.Tests.{leb-true}
use Rattle.base.proofs.Choice.{and_left, and_right, cond_both}
use Rattle.text_lines.specs.Lines.{lines}
use Rattle.records.specs.declared.Cell.{Cell}
use Rattle.text.specs.Answers.{threads_fit, statements_fit, labels_fit, checkpoints_fit, map_fits, room_fits, refused, refused_or, refusal_in, in_lines, whole, answer, longest_text}
use Rattle.text.specs.Records.{set_bytes, statements}
use Rattle.text.specs.Sections.{Threads, threads, cells}
use Rattle.std.specs.Prelude.{Option, None, Some, Result, Ok, Err}
use Rattle.records.specs.declared.refusals.Refusal.{Refusal}
use Rattle.records.specs.declared.refusals.Refusal.TheVariants.{Room as ByRoom}
use Rattle.records.specs.declared.refusals.Refused.{Refused}
use Rattle.text.specs.declared.Counts.{Counts}

module _ (T : Threads) (cs : List Cell) (set_room map_room : ℕ) where
  abbrev pub CountsFit : Result Counts Refused → Type 0
  CountsFit (Ok counts) = (counts.statements ≡ statements T) × (counts.cells ≡ length cs) × (8 * counts.statements ≤ set_room) × (4 * counts.cells ≤ map_room)
  CountsFit (Err e) = Unit {0}

  counts_whole : CountsFit (whole T cs set_room map_room)
  unfolding whole
  counts_whole =
      cond_both CountsFit (not (threads_fit T)) tt
      (cond_both CountsFit (not (statements_fit T)) tt
      (cond_both CountsFit (not (labels_fit T)) tt
      (cond_both CountsFit (not (checkpoints_fit (set_bytes T))) tt
      (cond_both CountsFit (not (map_fits cs)) tt (last (room_fits T cs set_room map_room) refl)))))
    where
      last : (b : Bool) → room_fits T cs set_room map_room ≡ b → CountsFit (cond (not b) (refused ByRoom) (Ok (record { statements = statements T; cells = length cs })))
      last true e = (
        refl,
        refl,
        leb-true (8 * statements T) set_room (and_left (leb (8 * statements T) set_room) (leb (4 * length cs) map_room) e),
        leb-true (4 * length cs) map_room (and_right (leb (8 * statements T) set_room) (leb (4 * length cs) map_room) e),
      )
      last false e = tt

  counts-lines : (line : ℕ) (ls : List (List ℕ)) (next : Result Counts Refused) → CountsFit next → CountsFit (in_lines line ls next)
  unfolding in_lines
  counts-lines line [] next c = c
  counts-lines line (l ∷ ls) next c = go (refusal_in l ls) (counts-lines (suc line) ls next c)
    where
      go : (o : Option Refusal) → CountsFit (in_lines (suc line) ls next) → CountsFit (refused_or o line (in_lines (suc line) ls next))
      go (Some refusal) k = tt
      go None k = k

-- a text that is read
pub read-counts : (text : List ℕ) (set_room map_room : ℕ) (counts : Counts) → answer text set_room map_room ≡ Ok counts →
    (counts.statements ≡ statements (threads (lines text))) × (counts.cells ≡ length (cells (lines text))) × (8 * counts.statements ≤ set_room) × (4 * counts.cells ≤ map_room)
unfolding answer
read-counts text set_room map_room counts e =
    subst (CountsFit (threads (lines text)) (cells (lines text)) set_room map_room) e
    (cond_both (CountsFit (threads (lines text)) (cells (lines text)) set_room map_room) (ltb longest_text (length text)) tt
    (counts-lines (threads (lines text)) (cells (lines text)) set_room map_room 1 (lines text) (whole (threads (lines text)) (cells (lines text)) set_room map_room)
    (counts_whole (threads (lines text)) (cells (lines text)) set_room map_room)))
