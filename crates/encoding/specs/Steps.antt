-- One step of a table: of each kind of value its trees (docs/TABLE.md). A tree is a base and a chain of links over it. The claims say what this
-- means; a reader need not believe it. Assumes nothing.
use Rattle.std.specs.Prelude.{ℕ, zero, suc, ◌+◌, ◌-◌, Bool, true, cond, not, ◌&&◌, ◌||◌, List, [], ◌∷◌, ◌++◌, eqb, ltb, get_or, length}
use Rattle.records.specs.Instructions.{LOAD, STORE, ADD, ADDI, SUB, SUBI, MUL, MULI, JMP, JZ, JNZ, JS, JNS, JNZNS, MEM, CAS, HALT, EXIT, CHECK, is_jump}
use Rattle.records.specs.Sets.{Set}
use Rattle.machine.specs.Machine.{contains, needs_empty}
use Rattle.table.specs.Formulas.{bit_sort, word_sort}
use Rattle.table.specs.Programs.{ref, leaf, unary, binary, ternary, choice_bit, constant_word, not1, top1, and2, or2, equal2, plus2, minus2, times2, read2, if3, write3, Command, sets, needs, upto}
use Rattle.encoding.specs.Slots.{Kind, choice, active, opening, shut, barred, held, waits, may_execute, none, permitted_first, one_permitted, address, loaded, swaps, result, test, not_test, flush_to, write_to, flush_value, write_value, raised, exits, codes, shared_memory, val, adr, mem, accu, full, halted, flag, mark, halts, ended, code, bit_zero, bit_one, word_zero, word_one, argument, Slot, slot, Term, kind_at}

-- ---- chains

-- one link over what stands so far: nothing, if the test holds then the effect, and, or
pub data Link : Type 0 where
  skip : Link
  if_then : (sort : ℕ) (test effect : Slot) → Link
  and_with or_with : Slot → Link

abbrev pub linked : Link → Term → Term
linked skip v = v
linked (if_then sort x y) v = ternary (if3 sort) (ref x) (ref y) v
linked (and_with s) v = binary and2 (ref s) v
linked (or_with s) v = binary or2 (ref s) v

-- the first n links over a base
unfoldable pub chain : (ℕ → Link) → ℕ → Term → Term
chain link zero base = base
chain link (suc n) base = linked (link n) (chain link n base)

-- ---- single values

abbrev pub only : Kind → Slot
only k = slot k 0 0

abbrev pub word0 : Slot
word0 = only word_zero

-- ---- the statements' classes

-- words that load: LOAD, ADD, SUB, MUL, MEM
abbrev pub loads : ℕ → Bool
loads n = eqb n LOAD || eqb n ADD || eqb n SUB || eqb n MUL || eqb n MEM

-- words that change accu
abbrev pub sets_accu : ℕ → Bool
sets_accu n = loads n || eqb n ADDI || eqb n SUBI || eqb n MULI || eqb n CAS

-- conditional jumps: JZ, JNZ, JS, JNS, JNZNS
abbrev pub is_conditional : ℕ → Bool
is_conditional n = is_jump n && not (eqb n JMP)

-- jumps that are taken where their test holds; the others where it does not
abbrev pub is_plain : ℕ → Bool
is_plain n = eqb n JZ || eqb n JS

-- a statement that leads to its target alone: JMP, and a conditional jump to the next statement
abbrev pub is_one_way : (n target i : ℕ) → Bool
is_one_way n target i = eqb n JMP || is_conditional n && eqb target (suc i)

-- HALT and EXIT, whose pc stays
abbrev pub rests : ℕ → Bool
rests n = eqb n HALT || eqb n EXIT

-- ---- what there is of a kind

-- for each choice; each thread; each statement; each checkpoint; each mark; before each thread, before each choice and at the end; one
pub data Shape : Type 0 where
  per_choice per_thread per_statement per_checkpoint per_mark before_thread before_choice single : Shape

abbrev pub shape : Kind → Shape
shape choice = per_choice
shape active = per_statement
shape opening = per_checkpoint
shape shut = per_checkpoint
shape barred = per_thread
shape held = per_mark
shape waits = per_thread
shape may_execute = per_thread
shape none = before_choice
shape permitted_first = per_choice
shape one_permitted = single
shape address = per_statement
shape loaded = per_statement
shape swaps = per_statement
shape result = per_statement
shape test = per_statement
shape not_test = per_statement
shape flush_to = single
shape write_to = before_thread
shape flush_value = single
shape write_value = before_thread
shape raised = per_mark
shape exits = before_thread
shape codes = before_thread
shape shared_memory = single
shape val = per_thread
shape adr = per_thread
shape mem = per_thread
shape accu = per_thread
shape full = per_thread
shape halted = per_thread
shape flag = per_statement
shape mark = per_mark
shape halts = single
shape ended = single
shape code = single
shape bit_zero = single
shape bit_one = single
shape word_zero = single
shape word_one = single
shape argument = per_statement

-- ---- the trees

-- S is the set, cs its checkpoints, k the step
module _ (S : Set) (cs : List ℕ) (k : ℕ) where
  abbrev pub T : ℕ
  T = S.threads

  abbrev pub number_of : ℕ → ℕ → ℕ
  number_of t i = (S.statement t i).number

  abbrev pub argument_of : ℕ → ℕ → ℕ
  argument_of t i = (S.statement t i).argument

  abbrev pub checkpoint : ℕ → ℕ
  checkpoint p = get_or cs p 0

  -- thread t contains checkpoint p
  abbrev pub has : ℕ → ℕ → Bool
  has t p = contains S t (checkpoint p)

  -- the bits by which thread t executes, and flushes
  abbrev pub executes : ℕ → Slot
  executes t = slot choice 0 t

  abbrev pub flushes : ℕ → Slot
  flushes t = slot choice 0 (T + t)

  -- what permits choice j: executes by thread, then flushes by thread
  abbrev pub permits : ℕ → Slot
  permits j = cond (ltb j T) (slot may_execute j 0) (slot full (j - T) 0)

  -- if full and adr = a then val else read memory at a
  abbrev pub load_tree : ℕ → Slot → Term
  load_tree t a =
      ternary (if3 word_sort) (binary and2 (ref (slot full t 0)) (binary equal2 (ref (slot adr t 0)) (ref a)))
      (ref (slot val t 0)) (binary read2 (ref (only shared_memory)) (ref a))

  -- the address of an indirect word: the load of its argument, forwarding included
  abbrev pub indirect_tree : (t i : ℕ) → Term
  indirect_tree t i = load_tree t (slot argument t i)

  -- what accu becomes by instruction n, statement i of thread t
  abbrev pub result_tree : (n t i : ℕ) → Term
  result_tree n t i =
      cond (eqb n ADD) (binary plus2 (ref (slot accu t 0)) (ref (slot loaded t i)))
      (cond (eqb n ADDI) (binary plus2 (ref (slot accu t 0)) (ref (slot argument t i)))
      (cond (eqb n SUB) (binary minus2 (ref (slot accu t 0)) (ref (slot loaded t i)))
      (cond (eqb n SUBI) (binary minus2 (ref (slot accu t 0)) (ref (slot argument t i)))
      (cond (eqb n MUL) (binary times2 (ref (slot accu t 0)) (ref (slot loaded t i)))
      (cond (eqb n MULI) (binary times2 (ref (slot accu t 0)) (ref (slot argument t i)))
      (cond (eqb n CAS) (ternary (if3 word_sort) (ref (slot swaps t i)) (ref (only word_one)) (ref word0))
      (ref (slot loaded t i))))))))

  -- a conditional jump's test: accu is 0; its top bit; one of both
  abbrev pub test_tree : (n t : ℕ) → Term
  test_tree n t =
      cond (eqb n JZ || eqb n JNZ) (binary equal2 (ref (slot accu t 0)) (ref word0))
      (cond (eqb n JS || eqb n JNS) (unary top1 (ref (slot accu t 0)))
      (cond (eqb n JNZNS) (binary or2 (unary top1 (ref (slot accu t 0))) (binary equal2 (ref (slot accu t 0)) (ref word0)))
      (ref (only bit_zero))))

  -- no choice before choice j is taken, j not 0
  abbrev pub none_tree : ℕ → Term
  none_tree j = ternary (if3 bit_sort) (ref (slot choice 0 (j - 1))) (ref (only bit_zero)) (ref (slot none 0 (j - 1)))

  -- a thread that executes leaves its statement
  abbrev pub leaving_tree : (t j : ℕ) → Term
  leaving_tree t j = ternary (if3 bit_sort) (ref (executes t)) (ref (only bit_zero)) (ref (slot flag t j))

  -- ---- bases

  abbrev pub base : Kind → (a b : ℕ) → Term
  base choice a j = leaf (cond (ltb j T) (choice_bit k 0 j) (choice_bit k 1 (j - T)))
  base active t i = binary and2 (ref (slot flag t i)) (ref (executes t))
  base opening a p = ref (only bit_one)
  base shut a p = unary not1 (ref (slot opening 0 p))
  base barred t b = ref (only bit_zero)
  base held t p = binary and2 (ref (slot mark t p)) (ref (slot shut 0 p))
  base waits t b = ref (slot halted t 0)
  base may_execute t b = unary not1 (binary or2 (binary and2 (ref (slot full t 0)) (ref (slot barred t 0))) (ref (slot waits t 0)))
  base none a j = cond (eqb j 0) (ref (only bit_one)) (none_tree j)
  base permitted_first a j = binary and2 (ref (permits j)) (ref (slot none 0 j))
  base one_permitted a b = ref (only bit_zero)
  base address t i = cond (eqb (S.statement t i).mode 1) (indirect_tree t i) (ref (slot argument t i))
  base loaded t i = cond (loads (number_of t i)) (load_tree t (slot address t i)) (ref word0)
  base swaps t i =
      cond (eqb (number_of t i) CAS)
      (binary and2 (ref (slot active t i)) (binary equal2 (binary read2 (ref (only shared_memory)) (ref (slot address t i))) (ref (slot mem t 0))))
      (ref (only bit_zero))
  base result t i = result_tree (number_of t i) t i
  base test t i = test_tree (number_of t i) t
  base not_test t i = cond (is_conditional (number_of t i)) (unary not1 (ref (slot test t i))) (ref (only bit_zero))
  base flush_to a b = ref word0
  base write_to a t = ref (cond (eqb t 0) (only flush_to) (slot write_to 0 (t - 1)))
  base flush_value a b = binary read2 (ref (only shared_memory)) (ref (slot write_to 0 T))
  base write_value a t = ref (cond (eqb t 0) (only flush_value) (slot write_value 0 (t - 1)))
  base raised t p = ref (only bit_zero)
  base exits a t = ref (cond (eqb t 0) (only ended) (slot exits 0 (t - 1)))
  base codes a t = ref (cond (eqb t 0) (only code) (slot codes 0 (t - 1)))
  base shared_memory a b = ternary write3 (ref (only shared_memory)) (ref (slot write_to 0 T)) (ref (slot write_value 0 T))
  base val t b = ref (slot val t 0)
  base adr t b = ref (slot adr t 0)
  base mem t b = ref (slot mem t 0)
  base accu t b = ref (slot accu t 0)
  base full t b = ternary (if3 bit_sort) (ref (flushes t)) (ref (only bit_zero)) (ref (slot full t 0))
  base halted t b = ref (slot halted t 0)
  -- the pc of HALT and EXIT stays
  base flag t j = cond (rests (number_of t j)) (ref (slot flag t j)) (leaving_tree t j)
  -- a mark at a checkpoint that is not open stays; a CHECK's own is set after the clearing
  base mark t p = binary or2 (ref (slot held t p)) (ref (slot raised t p))
  base halts a b = ref (only bit_one)
  base ended a b = binary or2 (ref (only halts)) (ref (slot exits 0 T))
  base code a b = ref (slot codes 0 T)
  base bit_zero a b = ref (only bit_zero)
  base bit_one a b = ref (only bit_one)
  base word_zero a b = ref word0
  base word_one a b = leaf (constant_word 1)
  base argument t i = leaf (constant_word (argument_of t i))

  -- ---- links

  -- statement i of thread t is one of these: if it executes then the effect
  abbrev pub if_active : Bool → ℕ → (t i : ℕ) (effect : Slot) → Link
  if_active counts sort t i effect = cond counts (if_then sort (slot active t i) effect) skip

  -- statement i of thread t leads to j, always or as its test comes out; a jump to the next statement leads there either way
  abbrev pub leads : (t j i : ℕ) → Link
  leads t j i =
      let n = number_of t i in
      let target = argument_of t i in
      let taken = slot (cond (is_plain n) test not_test) t i in
      let missed = slot (cond (is_plain n) not_test test) t i in
      cond (rests n) skip
      (cond (is_one_way n target i) (cond (eqb target j) (if_then bit_sort (slot active t i) (only bit_one)) skip)
      (cond (is_conditional n)
      (cond (eqb target j) (if_then bit_sort (slot active t i) taken)
      (cond (eqb (suc i) j) (if_then bit_sort (slot active t i) missed) skip))
      (cond (eqb (suc i) j) (if_then bit_sort (slot active t i) (only bit_one)) skip)))

  -- how many links
  abbrev pub links : Kind → (a b : ℕ) → ℕ
  links choice a b = 0
  links active t i = 0
  links opening a p = T
  links shut a p = 0
  links barred t b = S.count t
  links held t p = 0
  links waits t b = length cs
  links may_execute t b = 0
  links none a j = 0
  links permitted_first a j = 0
  links one_permitted a b = T + T
  links address t i = 0
  links loaded t i = 0
  links swaps t i = 0
  links result t i = 0
  links test t i = 0
  links not_test t i = 0
  links flush_to a b = T
  links write_to a t = cond (eqb t 0) 0 (S.count (t - 1))
  links flush_value a b = T
  links write_value a t = cond (eqb t 0) 0 (S.count (t - 1))
  links raised t p = S.count t
  links exits a t = cond (eqb t 0) 0 (S.count (t - 1))
  links codes a t = cond (eqb t 0) 0 (S.count (t - 1))
  links shared_memory a b = 0
  links val t b = S.count t
  links adr t b = S.count t
  links mem t b = S.count t
  links accu t b = S.count t
  links full t b = S.count t
  links halted t b = S.count t
  links flag t j = S.count t
  links mark t p = 0
  links halts a b = T
  links ended a b = 0
  links code a b = 0
  links bit_zero a b = 0
  links bit_one a b = 0
  links word_zero a b = 0
  links word_one a b = 0
  links argument t i = 0

  -- link i
  abbrev pub link : Kind → (a b i : ℕ) → Link
  link choice a b i = skip
  link active a b i = skip
  link opening a p t = cond (has t p) (and_with (slot mark t p)) skip
  link shut a b i = skip
  link barred t b i = if_active (needs_empty (number_of t i)) bit_sort t i (only bit_one)
  link held a b i = skip
  link waits t b p = cond (has t p) (or_with (slot held t p)) skip
  link may_execute a b i = skip
  link none a b i = skip
  link permitted_first a b i = skip
  link one_permitted a b j = if_then bit_sort (slot choice 0 j) (slot permitted_first 0 j)
  link address a b i = skip
  link loaded a b i = skip
  link swaps a b i = skip
  link result a b i = skip
  link test a b i = skip
  link not_test a b i = skip
  link flush_to a b t = if_then word_sort (flushes t) (slot adr t 0)
  link write_to a t i = cond (eqb (number_of (t - 1) i) CAS) (if_then word_sort (slot swaps (t - 1) i) (slot address (t - 1) i)) skip
  link flush_value a b t = if_then word_sort (flushes t) (slot val t 0)
  link write_value a t i = cond (eqb (number_of (t - 1) i) CAS) (if_then word_sort (slot swaps (t - 1) i) (slot accu (t - 1) 0)) skip
  link raised t p i = if_active (eqb (number_of t i) CHECK && eqb (argument_of t i) (checkpoint p)) bit_sort t i (only bit_one)
  link exits a t i = if_active (eqb (number_of (t - 1) i) EXIT) bit_sort (t - 1) i (only bit_one)
  link codes a t i = if_active (eqb (number_of (t - 1) i) EXIT) word_sort (t - 1) i (slot argument (t - 1) i)
  link shared_memory a b i = skip
  link val t b i = if_active (eqb (number_of t i) STORE) word_sort t i (slot accu t 0)
  link adr t b i = if_active (eqb (number_of t i) STORE) word_sort t i (slot address t i)
  link mem t b i = if_active (eqb (number_of t i) MEM) word_sort t i (slot loaded t i)
  link accu t b i = if_active (sets_accu (number_of t i)) word_sort t i (slot result t i)
  link full t b i = if_active (eqb (number_of t i) STORE) bit_sort t i (only bit_one)
  link halted t b i = if_active (eqb (number_of t i) HALT) bit_sort t i (only bit_one)
  link flag t j i = leads t j i
  link mark a b i = skip
  link halts a b t = and_with (slot halted t 0)
  link ended a b i = skip
  link code a b i = skip
  link bit_zero a b i = skip
  link bit_one a b i = skip
  link word_zero a b i = skip
  link word_one a b i = skip
  link argument a b i = skip

  abbrev pub tree : Kind → (a b : ℕ) → Term
  tree kind a b = chain (link kind a b) (links kind a b) (base kind a b)

  -- ---- blocks: what there is of a kind

  abbrev pub rows : Shape → ℕ
  rows per_choice = 1
  rows per_thread = T
  rows per_statement = T
  rows per_checkpoint = 1
  rows per_mark = T
  rows before_thread = 1
  rows before_choice = 1
  rows single = 1

  abbrev pub columns : Shape → ℕ → ℕ
  columns per_choice a = T + T
  columns per_thread t = 1
  columns per_statement t = S.count t
  columns per_checkpoint a = length cs
  columns per_mark t = length cs
  columns before_thread a = suc T
  columns before_choice a = suc (T + T)
  columns single a = 1

  -- a thread has marks at the checkpoints that it contains
  abbrev pub kept : Shape → (a b : ℕ) → Bool
  kept per_choice a b = true
  kept per_thread a b = true
  kept per_statement a b = true
  kept per_checkpoint a b = true
  kept per_mark t p = has t p
  kept before_thread a b = true
  kept before_choice a b = true
  kept single a b = true

  abbrev pub entry : Kind → (a b : ℕ) → List (Command Slot)
  entry kind a b = cond (kept (shape kind) a b) (sets (slot kind a b) (tree kind a b) ∷ []) []

  abbrev pub line : Kind → ℕ → List (Command Slot)
  line kind a = upto (entry kind a) (columns (shape kind) a)

  abbrev pub block : Kind → List (Command Slot)
  block kind = upto (line kind) (rows (shape kind))

  -- none of all choices is taken; exactly one, and it permitted
  abbrev pub idle : Slot
  idle = slot none 0 (T + T)

  abbrev pub acting : Slot
  acting = only one_permitted

  -- Before the end exactly one choice, and it permitted; none after.
  abbrev pub ruled : Term
  ruled = ternary (if3 bit_sort) (ref (only ended)) (ref idle) (ref acting)

  -- the n kinds from number j on
  abbrev pub blocks : (j n : ℕ) → List (Command Slot)
  blocks j n = upto (λ i. block (kind_at (j + i))) n

  -- a step: the choices and what permits them, the constraint, the next values
  unfoldable pub step : List (Command Slot)
  step = blocks 0 11 ++ (needs ruled ∷ blocks 11 25)
