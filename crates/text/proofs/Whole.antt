-- From what the lines leave to the answer and the outputs. Assumes nothing.
use Prim.Native.Nat.{ℕ, ◌*◌, ◌≤◌, ◌<◌}
use mathlib.Core.Path.{◌≡◌, refl, ap, sym, ◌∙◌}
use mathlib.Core.List.{List}
use mathlib.Core.Bool.{Bool, true, false, cond, not, ◌&&◌}
use lib.Dec.{leb}
use lib.ListN.{length}
use borrow.Author.Tests.{le-ltb, lt-ltb}
use Rattle.base.proofs.Choice.{chosen, passed, cond-ap}
use Rattle.text_lines.specs.Lines.{lines}
use Rattle.records.specs.declared.Cell.{Cell}
use Rattle.text.specs.Answers.{refused, threads_fit, statements_fit, labels_fit, checkpoints_fit, map_fits, whole, in_lines, answer, output_by, set_output, map_output, longest_text}
use Rattle.text.specs.Readings.{Reads, ThreadsStand, CellsStand, checked, RecordsWritten, roomed, set_part, map_part}
use Rattle.text.specs.Records.{set_bytes, statements}
use Rattle.text.specs.Sections.{Threads, threads, cells}
use Rattle.std.specs.Prelude.{Result, Ok, Err}
use Rattle.records.specs.declared.refusals.Refusal.TheVariants.{TextLength, Threads as ByThreads, Statements as ByStatements, Label as ByLabel, Checkpoints as ByCheckpoints, Map as ByMap, Room as ByRoom}
use Rattle.records.specs.declared.refusals.Refused.{Refused}
use Rattle.text.specs.declared.Counts.{Counts}
use Rattle.text.specs.declared.Reading.{Reading}
use Rattle.text.proofs.Maps.{cells-ordered, map-fits}

-- what is kept of a text stands for its threads and cells
module _ (text : List ℕ) (r : Reading) (draft keys : List ℕ) (read : Reads text r draft keys) where
  pub threads_stand : ThreadsStand r draft (threads (lines text))
  threads_stand = record { ended = read.ended; fits = read.fit; kept = read.kept; lost = read.lost }

  pub cells_stand : CellsStand r keys (cells (lines text))
  cells_stand = record { few = read.few; many = read.many; accepted = map-fits (cells (lines text)) (cells-ordered (lines text)) }

-- 11 comes last
whole-roomed : (T : Threads) (cs : List Cell) (a b : ℕ) → whole T cs a b ≡ roomed a b (checked T cs)
unfolding whole checked
whole-roomed T cs a b = sym
    (cond-ap (roomed a b) (not (threads_fit T)) _ _
    ∙ ap (cond (not (threads_fit T)) (refused ByThreads)) (cond-ap (roomed a b) (not (statements_fit T)) _ _
    ∙ ap (cond (not (statements_fit T)) (refused ByStatements)) (cond-ap (roomed a b) (not (labels_fit T)) _ _
    ∙ ap (cond (not (labels_fit T)) (refused ByLabel)) (cond-ap (roomed a b) (not (checkpoints_fit (set_bytes T))) _ _
    ∙ ap (cond (not (checkpoints_fit (set_bytes T))) (refused ByCheckpoints)) (cond-ap (roomed a b) (not (map_fits cs)) _ _
    ∙ ap (cond (not (map_fits cs)) (refused ByMap)) (last (leb (8 * statements T) a && leb (4 * length cs) b)))))))
  where
    last : (t : Bool) → cond t (Ok (record { statements = statements T; cells = length cs })) (refused ByRoom) ≡ cond (not t) (refused ByRoom) (Ok (record { statements = statements T; cells = length cs }))
    last true = refl
    last false = refl

-- a text that is not too long, whose lines are not refused
pub answer-is : (text : List ℕ) (a b : ℕ) (checks : Result Counts Refused) → length text ≤ longest_text → ((next : Result Counts Refused) → in_lines 1 (lines text) next ≡ next) →
    checks ≡ checked (threads (lines text)) (cells (lines text)) → roomed a b checks ≡ answer text a b
unfolding answer
answer-is text a b checks short lined e =
    ap (roomed a b) e ∙ sym (whole-roomed (threads (lines text)) (cells (lines text)) a b)
    ∙ sym (passed _ _ (le-ltb longest_text (length text) short) ∙ lined (whole (threads (lines text)) (cells (lines text)) a b))

-- a text that is refused by 1, or in a line
pub answer-long : (text : List ℕ) (a b : ℕ) → longest_text < length text → answer text a b ≡ refused TextLength
unfolding answer
answer-long text a b long = chosen _ _ (lt-ltb longest_text (length text) long)

pub answer-line : (text : List ℕ) (a b : ℕ) (e : Refused) → length text ≤ longest_text → ((next : Result Counts Refused) → in_lines 1 (lines text) next ≡ Err e) → answer text a b ≡ Err e
unfolding answer
answer-line text a b e short lined = passed _ _ (le-ltb longest_text (length text) short) ∙ lined (whole (threads (lines text)) (cells (lines text)) a b)

-- the outputs
pub set_output_lem : (counts : Counts) (r : Result Counts Refused) (text set map out : List ℕ) → RecordsWritten (Ok counts) (threads (lines text)) (cells (lines text)) set map →
    output_by r (set_part (Ok counts) set) out ≡ set_output r text out
unfolding set_output
set_output_lem counts r text set map out w = ap (λ (bytes : List ℕ). output_by r bytes out) w.0

pub map_output_lem : (counts : Counts) (r : Result Counts Refused) (text set map out : List ℕ) → RecordsWritten (Ok counts) (threads (lines text)) (cells (lines text)) set map →
    output_by r (map_part (Ok counts) map) out ≡ map_output r text out
unfolding map_output
map_output_lem counts r text set map out w = ap (λ (bytes : List ℕ). output_by r bytes out) w.1
