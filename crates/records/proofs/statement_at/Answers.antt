-- `records::statement_at` meets its contract. Assumes nothing.
use Rattle.records.proofs.statement_at.Goals as goal

pub returns-then-at-set : goal.returns-then-at-set
returns-then-at-set c = rw c.word.ensures

pub returns : goal.returns
returns c = rw (c.byte_at.ensures, c.byte_at-2.ensures, c.word_at.ensures)
