-- The definitions computed on samples of document 01. Assumes nothing.
use Prim.Native.Nat.{ℕ}
use mathlib.Core.Path.{◌≡◌, refl}
use mathlib.Core.List.{List, [], ◌∷◌}
use Rattle.base.specs.Below.{every, some, number, least}
use Rattle.base.specs.Bytes.{over}
use Rattle.records.specs.Instructions.{words, word_of}
use Rattle.records.specs.Sets.{opens_at}
use Rattle.text_lines.specs.Characters.{value_after}
use Rattle.text_lines.specs.Lines.{lines, is_dot, padded, is_label, stated, numbered, bracketed, targeted, argued, after_word, worded, labelled, statement, statement_line, cell_of, valued, addressed, cell, map_line}
use Rattle.text.specs.Sections.{dots, added, gained, closed, line_added, threads_from, threads, inserted, cell_added, cells_from, cells}
use Rattle.text.specs.Records.{joined, pc_of, argument_of, statement_bytes, thread_bytes, set_bytes, statements_before, cell_bytes, map_bytes}
use Rattle.text.specs.Answers.{refusal_in, in_lines, statements_fit, doubled_at, target_fits, thread_fits, labels_fit, checkpoints_fit, address_doubled, map_fits, whole, answer}
use Rattle.std.specs.Prelude.{Ok}

-- the listing program's example
example : List ℕ
example = 65 ∷ 68 ∷ 68 ∷ 73 ∷ 32 ∷ 49 ∷ 10 ∷ 83 ∷ 84 ∷ 79 ∷ 82 ∷ 69 ∷ 32 ∷ 48 ∷ 10 ∷ 46 ∷ 10 ∷ 76 ∷ 79 ∷ 65 ∷ 68 ∷ 32 ∷ 48 ∷ 10 ∷ 74 ∷ 90 ∷ 32 ∷ 51 ∷ 10 ∷ 69 ∷ 88 ∷ 73 ∷ 84 ∷ 32 ∷ 48 ∷ 10 ∷ 69 ∷ 88 ∷ 73 ∷ 84 ∷ 32 ∷ 55 ∷ 10 ∷ 46 ∷ 10 ∷ 48 ∷ 32 ∷ 48 ∷ 10 ∷ []

example-answer : answer example 56 4 ≡ Ok (record { statements = 7; cells = 1 })
unfolding example lines is_dot value_after padded over is_label stated numbered bracketed targeted argued after_word worded labelled statement statement_line cell_of valued addressed cell map_line least words word_of dots added gained closed line_added threads_from joined pc_of argument_of statement_bytes thread_bytes set_bytes inserted cell_added cells_from statements_before cell_bytes map_bytes refusal_in in_lines statements_fit doubled_at target_fits thread_fits labels_fit checkpoints_fit address_doubled map_fits whole answer every some number opens_at
example-answer = refl

example-set : set_bytes (threads (lines example)) ≡ 0 ∷ 4 ∷ 0 ∷ 0 ∷ 1 ∷ 0 ∷ 0 ∷ 0 ∷ 0 ∷ 1 ∷ 0 ∷ 0 ∷ 0 ∷ 0 ∷ 1 ∷ 0 ∷ 0 ∷ 17 ∷ 0 ∷ 0 ∷ 0 ∷ 0 ∷ 2 ∷ 0 ∷ 1 ∷ 0 ∷ 0 ∷ 0 ∷ 0 ∷ 0 ∷ 0 ∷ 0 ∷ 1 ∷ 10 ∷ 0 ∷ 0 ∷ 3 ∷ 0 ∷ 1 ∷ 0 ∷ 1 ∷ 18 ∷ 0 ∷ 0 ∷ 0 ∷ 0 ∷ 2 ∷ 0 ∷ 1 ∷ 18 ∷ 0 ∷ 0 ∷ 7 ∷ 0 ∷ 3 ∷ 0 ∷ []
unfolding example lines is_dot value_after padded over is_label stated numbered bracketed targeted argued after_word worded labelled statement statement_line cell_of valued addressed cell map_line least words word_of dots added gained closed line_added threads_from joined pc_of argument_of statement_bytes thread_bytes set_bytes
example-set = refl

example-map : map_bytes (cells (lines example)) ≡ 0 ∷ 0 ∷ 0 ∷ 0 ∷ []
unfolding example lines is_dot value_after padded over is_label stated numbered bracketed targeted argued after_word worded labelled statement statement_line cell_of valued addressed cell map_line least words word_of dots inserted cell_added cells_from joined cell_bytes map_bytes
example-map = refl
