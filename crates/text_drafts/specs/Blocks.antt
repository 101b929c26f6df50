-- Statements in the draft of a text, in blocks of 36 bytes. This serves the code; no call's promise needs it. Assumes nothing.
use Rattle.std.specs.Prelude.{ℕ, ◌+◌, ◌*◌, ◌/◌, ◌%◌, List, [], ◌∷◌, get_or, take, drop}
use Rattle.base.specs.Bytes.{word_at, placed}
use Rattle.text_lines.specs.declared.Stated.{Stated}
use Rattle.text_lines.specs.Lines.{longest_label}

-- the bytes of a block, and of a draft, which has one for each of 128 statements
abbrev pub block_length : ℕ
block_length = 36

abbrev pub draft_length : ℕ
draft_length = 4608

-- the statement in block k, 36 bytes: instruction number, mode, argument (2), label (16), target (16)
abbrev pub block_at : List ℕ → ℕ → Stated
block_at draft k = record {
  label = take longest_label (drop (block_length * k + 4) draft);
  number = get_or draft (block_length * k) 0;
  mode = get_or draft (block_length * k + 1) 0;
  argument = word_at draft (block_length * k + 2);
  target = take longest_label (drop (block_length * k + 20) draft);
}

-- the draft with a statement in block k; a part past the draft's end is left out
unfoldable pub stored : List ℕ → ℕ → Stated → List ℕ
stored draft k x =
    placed (placed (placed draft (block_length * k) (x.number ∷ x.mode ∷ x.argument % 256 ∷ x.argument / 256 ∷ [])) (block_length * k + 4) x.label) (block_length * k + 20) x.target
