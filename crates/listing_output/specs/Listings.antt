-- What the listing program prints (document 01, "Sample runs"): a line for each step, then the last line. A reader of the calls believes this.
-- Assumes nothing.
use Prim.Native.Char.{code}
use Rattle.std.specs.Prelude.{ℕ, zero, suc, ◌+◌, ◌*◌, ◌/◌, ◌%◌, Bool, cond, ◌&&◌, ◌||◌, List, [], ◌∷◌, ◌++◌, eqb, ltb, Option, Some, None}
use Prim.Native.String.{String, [] as end, ◌∷◌ as ◌then◌}
use Rattle.base.specs.Below.{least}
use Rattle.records.specs.Instructions.{instructions, is_bare, word_of}
use Rattle.records.specs.Maps.{map_accepted, run_cells}
use Rattle.records.specs.Sets.{Set, set_of, set_accepted}
use Rattle.records.specs.declared.Statement.{Statement}
use Rattle.machine.specs.Machine.{State, permitted, actor, written, no_write}
use Rattle.machine.specs.Maps.{Held, begin, outcome, advanced}
use Rattle.machine.specs.Runs.{end_of, most_steps}
use Rattle.machine.specs.Traces.{bit, shown}
use Rattle.machine.specs.declared.Choice.{Choice}
use Rattle.machine.specs.declared.Choice.TheVariants.{Execute, Flush}
use Rattle.machine.specs.declared.End.{End}
use Rattle.machine.specs.declared.End.TheVariants.{Code, Stuck, Open}
use Rattle.machine.specs.declared.Outcome.{Outcome}
use Rattle.machine.specs.declared.Outcome.TheVariants.{Taken, NotPermitted, Lacking}
use Rattle.machine.specs.declared.Thread.{Thread}
use Rattle.records.specs.declared.Cell.{Cell}

-- ---- texts and numbers

-- the bytes of a text
abbrev pub text : String → List ℕ
text end = []
text (c then more) = code c ∷ text more

-- the last k decimal digits of n, the most significant first
abbrev pub digits : ℕ → ℕ → List ℕ
digits zero n = []
digits (suc k) n = digits k (n / 10) ++ ((48 + n % 10) ∷ [])

-- how many digits a word has
unfoldable pub places : ℕ → ℕ
places n = cond (ltb n 10) 1 (cond (ltb n 100) 2 (cond (ltb n 1000) 3 (cond (ltb n 10000) 4 5)))

-- a word in decimal, without leading zeros
unfoldable pub decimal : ℕ → List ℕ
decimal n = digits (places n) n

-- ---- the line of a step

-- an item, and the space after it
abbrev pub item : List ℕ → List ℕ
item bytes = bytes ++ text " "

-- the word of instruction n; a flush, whose number is 20, has its own
unfoldable pub name : ℕ → List ℕ
name n = cond (eqb n instructions) (text "FLUSH") (word_of n)

-- A flush, FENCE and HALT have no argument.
abbrev pub has_none : ℕ → Bool
has_none n = is_bare n || eqb n instructions

-- an argument (- for none); an indirect one prints in brackets
unfoldable pub argument : Statement → List ℕ
argument i =
    cond (has_none i.number) (text "-")
    (cond (eqb i.mode 1) (text "[" ++ decimal i.argument ++ text "]") (decimal i.argument))

-- a written cell
abbrev pub pair : (a v : ℕ) → List ℕ
pair a v = text "{(" ++ decimal a ++ text "," ++ decimal v ++ text ")}"

-- what a step wrote, {} if nothing
unfoldable pub cell : Option Cell → List ℕ
cell None = text "{}"
cell (Some w) = pair w.address w.value

-- A line: thread, pc, word, argument, accu, mem, adr, val, full, and the cell that the previous step wrote.
unfoldable pub line_of : ℕ → Statement → Thread → Option Cell → List ℕ
line_of t i x w =
    (item (decimal t) ++ item (decimal x.pc) ++ item (name i.number) ++ item (argument i))
    ++ (item (decimal x.accu) ++ item (decimal x.mem) ++ item (decimal x.adr) ++ item (decimal x.val) ++ item (decimal (bit x.full)))
    ++ cell w ++ text "\n"

-- the line of a choice; w is what the previous step wrote
unfoldable pub line : Set → State → Option Cell → Choice → List ℕ
line S s w c = line_of (actor c) (shown S s c) (s.threads (actor c)) w

-- ---- the last line

unfoldable pub last_line : End → List ℕ
last_line (Code code) = text "end " ++ decimal code ++ text "\n"
last_line Stuck = text "stuck\n"
last_line Open = text "open\n"

unfoldable pub refused_line : ℕ → List ℕ
refused_line number = text "refused " ++ decimal number ++ text "\n"

-- ---- the listing

-- The lowest thread that can execute does so, else the lowest that can flush. Where none can, this is a choice of no thread of the set.
unfoldable pub lowest : Set → State → Choice
lowest S s =
    let t = least S.threads (λ t. permitted S s (Execute t)) in
    cond (ltb t S.threads) (Execute t) (Flush (least S.threads (λ t. permitted S s (Flush t))))

-- what is printed by how the lowest choice comes out: 14 comes after the lines of the steps before it
abbrev pub on_lowest : Outcome → (more last : List ℕ) → List ℕ
on_lowest Taken more last = more
on_lowest NotPermitted more last = last
on_lowest Lacking more last = refused_line 14

-- what is printed from a state on, with n steps left; w is what the previous step wrote
unfoldable pub listing_from : Set → Held → Option Cell → ℕ → List ℕ
listing_from S h w zero = last_line (end_of S h.state)
listing_from S h w (suc n) =
    let c = lowest S h.state in
    on_lowest (outcome S h c)
    (line S h.state w c ++ listing_from S (advanced S h c) (written S h.state c) n)
    (last_line (end_of S h.state))

-- room for every listing: a line of at most 64 bytes for each step, and the last line
abbrev pub longest_listing : ℕ
longest_listing = 64 * most_steps + 16

-- what is printed for statement and map records; 9 where they are not accepted
unfoldable pub listing : (set map : List ℕ) → List ℕ
listing set map =
    cond (set_accepted set && map_accepted run_cells map) (listing_from (set_of set) (begin map) no_write most_steps) (refused_line 9)
