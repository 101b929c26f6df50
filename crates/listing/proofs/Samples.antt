-- Document 01's listing, and one refused text, computed by the definitions from the text to what is printed. Assumes nothing.
use mathlib.Core.List.{◌++◌}
use mathlib.Core.Path.{◌≡◌, refl}
use Rattle.base.specs.Below.{every, some, number, least}
use Rattle.base.specs.Bytes.{over}
use Rattle.records.specs.Instructions.{words, word_of}
use Rattle.records.specs.Maps.{ascends_at, map_accepted}
use Rattle.records.specs.Sets.{threads_of, count_of, start_of, follows, argument_fits, record_fits, opens_at, set_accepted}
use Rattle.machine.specs.Machine.{address, word_taken, cells_read, row, jumps, next_pc, executed, cas_matches, contains, opened, waiting, permitted, acted, leaves_mark, cleared, written, step, reads}
use Rattle.machine.specs.Maps.{begin, outcome, advanced}
use Rattle.machine.specs.Runs.{some_permitted, end_of}
use Rattle.machine.specs.Traces.{shown}
use Rattle.text_lines.specs.Characters.{value_after}
use Rattle.text_lines.specs.Lines.{lines, is_dot, padded, is_label, stated, numbered, bracketed, targeted, argued, after_word, worded, labelled, statement, statement_line, cell_of, valued, addressed, map_line, cell as cell_line}
use Rattle.text.specs.Answers.{refusal_in, in_lines, statements_fit, doubled_at, target_fits, thread_fits, labels_fit, checkpoints_fit, address_doubled, map_fits, whole, answer}
use Rattle.text.specs.Records.{joined, pc_of, argument_of, statement_bytes, thread_bytes, set_bytes, statements_before, cell_bytes, map_bytes}
use Rattle.text.specs.Sections.{dots, added, gained, closed, line_added, threads_from, inserted, cell_added, cells_from}
use Rattle.listing_output.specs.Listings.{text, places, decimal, name, argument, cell, line_of, line, last_line, refused_line, lowest, listing_from, listing}
use Rattle.listing.specs.Texts.{listing_of}

example :
    listing_of (text "ADDI 1\nSTORE 0\n.\nLOAD 0\nJZ 3\nEXIT 0\nEXIT 7\n.\n0 0\n")
    ≡ text "0 0 ADDI 1 0 0 0 0 0 {}\n"
    ++ text "0 1 STORE 0 1 0 0 0 0 {}\n"
    ++ text "1 0 LOAD 0 0 0 0 0 0 {}\n"
    ++ text "1 1 JZ 3 0 0 0 0 0 {}\n"
    ++ text "1 3 EXIT 7 0 0 0 0 0 {}\n"
    ++ text "end 7\n"
unfolding listing_of lines is_dot value_after padded over is_label stated numbered bracketed targeted argued after_word worded labelled statement statement_line cell_of valued addressed cell_line map_line least words word_of dots added gained closed line_added threads_from joined pc_of argument_of statement_bytes thread_bytes set_bytes inserted cell_added cells_from statements_before cell_bytes map_bytes refusal_in in_lines statements_fit doubled_at target_fits thread_fits labels_fit checkpoints_fit address_doubled map_fits whole answer every some number opens_at listing listing_from lowest refused_line last_line line line_of cell argument name decimal places begin outcome advanced end_of some_permitted shown step reads written cleared leaves_mark acted permitted waiting opened contains cas_matches executed next_pc jumps row cells_read word_taken address ascends_at map_accepted set_accepted record_fits argument_fits follows start_of count_of threads_of
example = refl

-- no dot: all of it is map, and its first line no cell
refused : listing_of (text "EXIT 1\n") ≡ text "refused 2\n"
unfolding listing_of lines is_dot value_after cell_of valued addressed cell_line map_line dots refusal_in in_lines whole answer refused_line decimal places
refused = refl
