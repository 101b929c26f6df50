-- The records of a text that is read stand at the start of the lent outputs. Assumes nothing.
use Prim.Native.Nat.{ℕ, ◌*◌}
use mathlib.Core.Path.{◌≡◌, ap, ◌∙◌, sym}
use mathlib.Core.List.{List}
use lib.ListN.{length, take, drop}
use lib.Seq.{take_at}
use Rattle.base.specs.Bytes.{over}
use Rattle.text_lines.specs.Lines.{lines}
use Rattle.text.specs.Answers.{output_by, set_output, map_output}
use Rattle.text.specs.Records.{set_bytes, statements, map_bytes}
use Rattle.text.specs.Sections.{threads, cells}
use Rattle.std.specs.Prelude.{Result, Ok}
use Rattle.records.specs.declared.refusals.Refused.{Refused}
use Rattle.text.specs.declared.Counts.{Counts}
use Rattle.text.proofs.Maps.{length-map}
use Rattle.text.proofs.Sets.{length-set}

module _ (r : Result Counts Refused) (counts : Counts) (e : r ≡ Ok counts) (text : List ℕ) where
  abbrev n : ℕ
  n = counts.statements

  abbrev m : ℕ
  m = counts.cells

  pub set-taken : (out : List ℕ) → n ≡ statements (threads (lines text)) → take (8 * n) (set_output r text out) ≡ set_bytes (threads (lines text))
  unfolding set_output over
  set-taken out k =
      let bytes = set_bytes (threads (lines text)) in
      ap (λ (a : Result Counts Refused). take (8 * n) (output_by a bytes out)) e
      ∙ take_at bytes (drop (length bytes) out) (8 * n) (length-set (threads (lines text)) ∙ ap (λ (i : ℕ). 8 * i) (sym k))

  pub map-taken : (out : List ℕ) → m ≡ length (cells (lines text)) → take (4 * m) (map_output r text out) ≡ map_bytes (cells (lines text))
  unfolding map_output over
  map-taken out k =
      let bytes = map_bytes (cells (lines text)) in
      ap (λ (a : Result Counts Refused). take (4 * m) (output_by a bytes out)) e
      ∙ take_at bytes (drop (length bytes) out) (4 * m) (length-map (cells (lines text)) ∙ ap (λ (i : ℕ). 4 * i) (sym k))
