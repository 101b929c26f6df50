-- What the listing program prints for a set text (document 01, "Sample runs"). A reader of the calls believes this. Assumes nothing.
use Rattle.std.specs.Prelude.{ℕ, ◌*◌, List, Result, Ok, Err}
use Rattle.records.specs.Refusals.{number}
use Rattle.records.specs.declared.refusals.Refused.{Refused}
use Rattle.records.specs.Maps.{cell_length, set_cells}
use Rattle.records.specs.Sets.{record_length, most_records}
use Rattle.text_lines.specs.Lines.{lines}
use Rattle.text.specs.Answers.{answer}
use Rattle.text.specs.Records.{set_bytes, map_bytes}
use Rattle.text.specs.Sections.{threads, cells}
use Rattle.text.specs.declared.Counts.{Counts}
use Rattle.listing_output.specs.Listings.{listing, refused_line}

-- the listing of a text's records, or the line of its refusal
abbrev pub listing_by : Result Counts Refused → List ℕ → List ℕ
listing_by (Ok counts) text = listing (set_bytes (threads (lines text))) (map_bytes (cells (lines text)))
listing_by (Err refused) text = refused_line (number refused.refusal)

-- with room for the largest set, 128 statements, and the largest map, 128 cells
unfoldable pub listing_of : List ℕ → List ℕ
listing_of text = listing_by (answer text (record_length * most_records) (cell_length * set_cells)) text
