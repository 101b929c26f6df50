-- What a table's values are of: kinds of values, each for the numbers a and b, and where they lie at the start. The claims say what this means; a
-- reader need not believe it. Assumes nothing.
use Rattle.std.specs.Prelude.{ℕ, Bool, cond, ◌&&◌, ◌||◌, List, [], ◌∷◌, eqb, get_or}
use Rattle.table.specs.Formulas.{bit_sort, word_sort, memory_sort}
use Rattle.table.specs.Programs.{Tree}

-- ---- kinds, in the order in which a step sets them

pub data Kind : Type 0 where
  -- the choice bits; statement i of thread t executes; checkpoint p is open, is not
  choice active opening shut : Kind
  -- thread t executes what needs an empty buffer; is marked at a checkpoint that is not open; has halted or waits; may execute
  barred held waits may_execute : Kind
  -- no choice before choice j is taken; choice j is permitted and none before it is taken; exactly one choice, and it permitted
  none permitted_first one_permitted : Kind
  -- of a statement: its address, the word loaded, a CAS that executes and matches, what accu becomes, a jump's test, not its test
  address loaded swaps result test not_test : Kind
  -- the cell written: its address after the flushes, after the CASs of the threads before t; its value likewise
  flush_to write_to flush_value write_value : Kind
  -- thread t's mark at checkpoint p before open ones are cleared; ended, and the code, after the EXITs of the threads before t
  raised exits codes : Kind
  -- the state: memory, thread t's registers, one flag for each statement, its marks
  shared_memory val adr mem accu full halted flag mark : Kind
  -- all threads have halted; the machine has ended, and its code
  halts ended code : Kind
  -- constants: bits 0 and 1, words 0 and 1, a statement's argument
  bit_zero bit_one word_zero word_one argument : Kind

-- the kinds by number: first those that a step sets
unfoldable pub kinds : List Kind
kinds =
    choice ∷ active ∷ opening ∷ shut ∷ barred ∷ held ∷ waits ∷ may_execute ∷ none ∷ permitted_first ∷ one_permitted
    ∷ address ∷ loaded ∷ swaps ∷ result ∷ test ∷ not_test
    ∷ flush_to ∷ write_to ∷ flush_value ∷ write_value ∷ raised ∷ exits ∷ codes
    ∷ shared_memory ∷ val ∷ adr ∷ mem ∷ accu ∷ full ∷ halted ∷ flag ∷ mark ∷ halts ∷ ended ∷ code
    ∷ bit_zero ∷ bit_one ∷ word_zero ∷ word_one ∷ argument ∷ []

-- how many there are
abbrev pub kind_count : ℕ
kind_count = 41

abbrev pub kind_at : ℕ → Kind
kind_at n = get_or kinds n choice

abbrev pub kind_number : Kind → ℕ
kind_number choice = 0
kind_number active = 1
kind_number opening = 2
kind_number shut = 3
kind_number barred = 4
kind_number held = 5
kind_number waits = 6
kind_number may_execute = 7
kind_number none = 8
kind_number permitted_first = 9
kind_number one_permitted = 10
kind_number address = 11
kind_number loaded = 12
kind_number swaps = 13
kind_number result = 14
kind_number test = 15
kind_number not_test = 16
kind_number flush_to = 17
kind_number write_to = 18
kind_number flush_value = 19
kind_number write_value = 20
kind_number raised = 21
kind_number exits = 22
kind_number codes = 23
kind_number shared_memory = 24
kind_number val = 25
kind_number adr = 26
kind_number mem = 27
kind_number accu = 28
kind_number full = 29
kind_number halted = 30
kind_number flag = 31
kind_number mark = 32
kind_number halts = 33
kind_number ended = 34
kind_number code = 35
kind_number bit_zero = 36
kind_number bit_one = 37
kind_number word_zero = 38
kind_number word_one = 39
kind_number argument = 40

abbrev pub kind_sort : Kind → ℕ
kind_sort choice = bit_sort
kind_sort active = bit_sort
kind_sort opening = bit_sort
kind_sort shut = bit_sort
kind_sort barred = bit_sort
kind_sort held = bit_sort
kind_sort waits = bit_sort
kind_sort may_execute = bit_sort
kind_sort none = bit_sort
kind_sort permitted_first = bit_sort
kind_sort one_permitted = bit_sort
kind_sort address = word_sort
kind_sort loaded = word_sort
kind_sort swaps = bit_sort
kind_sort result = word_sort
kind_sort test = bit_sort
kind_sort not_test = bit_sort
kind_sort flush_to = word_sort
kind_sort write_to = word_sort
kind_sort flush_value = word_sort
kind_sort write_value = word_sort
kind_sort raised = bit_sort
kind_sort exits = bit_sort
kind_sort codes = word_sort
kind_sort shared_memory = memory_sort
kind_sort val = word_sort
kind_sort adr = word_sort
kind_sort mem = word_sort
kind_sort accu = word_sort
kind_sort full = bit_sort
kind_sort halted = bit_sort
kind_sort flag = bit_sort
kind_sort mark = bit_sort
kind_sort halts = bit_sort
kind_sort ended = bit_sort
kind_sort code = word_sort
kind_sort bit_zero = bit_sort
kind_sort bit_one = bit_sort
kind_sort word_zero = word_sort
kind_sort word_one = word_sort
kind_sort argument = word_sort

-- ---- slots

pub data Slot : Type 0 where
  slot : Kind → (a b : ℕ) → Slot

abbrev pub same : Slot → Slot → Bool
same (slot k a b) (slot l c d) = eqb (kind_number k) (kind_number l) && (eqb a c && eqb b d)

abbrev pub Term : Type 0
Term = Tree Slot

-- ---- where they lie at the start: records 0 and 1 are the bits, 2 is the word 0, 3 is the first memory

abbrev pub sort_place : ℕ → ℕ
sort_place sort = cond (eqb sort memory_sort) 3 (cond (eqb sort word_sort) 2 0)

-- Statement 0 of each thread is the next one.
abbrev pub start_place : Slot → ℕ
start_place (slot k a b) =
    cond (eqb (kind_number k) (kind_number bit_one) || eqb (kind_number k) (kind_number flag) && eqb b 0) 1 (sort_place (kind_sort k))
