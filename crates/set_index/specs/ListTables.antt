-- The table of a set's lists: of each thread the CHECKs by checkpoint and the jumps by the statement that they name. For each list there is its first
-- statement, for each statement the next one of its list; `no_statement` where there is none. This serves the code; no call's promise needs it.
-- Assumes nothing.
use Rattle.std.specs.Prelude.{ℕ, ◌+◌, ◌*◌, ◌≤◌, ◌<◌, ◌≡◌, Bool, cond, ◌&&◌, List, [], eqb, ltb, length, set, get_or}
use Rattle.records.specs.Sets.{Set, most_threads, most_statements, most_checkpoints}
use Rattle.set_index.specs.Members.{in_class, check_class, jump_class}
use Rattle.set_index.specs.Lists.{Lists}

-- no statement
abbrev pub no_statement : ℕ
no_statement = 32

-- the length of the table
abbrev pub lists_length : ℕ
lists_length = 416

-- where the numbers of thread t begin: of the first CHECKs by checkpoint, the CHECKs after each CHECK, the first jumps by statement, the jumps after each jump
abbrev pub first_checks : (t : ℕ) → ℕ
first_checks t = 8 * t

abbrev pub next_checks : (t : ℕ) → ℕ
next_checks t = 32 + 32 * t

abbrev pub first_jumps : (t : ℕ) → ℕ
first_jumps t = 160 + 32 * t

abbrev pub next_jumps : (t : ℕ) → ℕ
next_jumps t = 288 + 32 * t

-- how many lists class c has, and the argument of the statements in list p: for CHECKs the checkpoints' numbers, for jumps the statements of a thread
abbrev pub many : List ℕ → (c : ℕ) → ℕ
many cs c = cond (eqb c check_class) (length cs) 32

abbrev pub name : List ℕ → (c p : ℕ) → ℕ
name cs c p = cond (eqb c check_class) (get_or cs p 0) p

-- statement x of thread t is of list p of class c
abbrev pub in_list : Set → List ℕ → (c t p x : ℕ) → Bool
in_list S cs c t p x = in_class c (S.statement t x).number && eqb (S.statement t x).argument (name cs c p)

-- the lists of class c of thread t's statements that are In: the first ones stand from `heads` on, the next ones from `nexts` on
abbrev pub ListsAt : Set → List ℕ → (c t : ℕ) → (ℕ → Type 0) → (heads nexts : ℕ) → List ℕ → Type 0
ListsAt S cs c t In heads nexts table = Lists (in_list S cs c t) (many cs c) In (λ p. get_or table (heads + p) 0) (λ x. get_or table (nexts + x) 0)

-- all statements of thread t
abbrev pub all_of : Set → (t x : ℕ) → Type 0
all_of S t x = x < S.count t

-- where the lists of thread t's CHECKs stand
abbrev pub ChecksOf : Set → List ℕ → (t : ℕ) → List ℕ → Type 0
ChecksOf S cs t = ListsAt S cs check_class t (all_of S t) (first_checks t) (next_checks t)

-- where those of the jumps among its first `count` statements stand
abbrev pub JumpsOf : Set → (t count : ℕ) → List ℕ → Type 0
JumpsOf S t count = ListsAt S [] jump_class t (λ x. x < count) (first_jumps t) (next_jumps t)

-- the bytes are the table of a set of at most four threads of 32 statements, with at most eight checkpoints
pub record ListTable (S : Set) (cs : List ℕ) (table : List ℕ) : Type 0 where
  pub whole : length table ≡ lists_length
  pub four_threads : S.threads ≤ most_threads
  pub eight_points : length cs ≤ most_checkpoints
  pub few_statements : (t : ℕ) → t < S.threads → S.count t ≤ most_statements
  pub checks : (t : ℕ) → t < S.threads → ChecksOf S cs t table
  pub jumps : (t : ℕ) → t < S.threads → JumpsOf S t (S.count t) table

-- the next statement by number `it`: one that does not come after i counts as none
abbrev pub onward : (i it : ℕ) → ℕ
onward i it = cond (ltb i it) it no_statement

-- ---- the table while it is made

-- no number stands in two places
abbrev pub Distinct : List ℕ → Type 0
Distinct cs = (p q : ℕ) → p < length cs → q < length cs → get_or cs p 0 ≡ get_or cs q 0 → p ≡ q

-- the table with statement i before those of the list whose first one stands at `head`; its next one stands at `after`
abbrev pub put : List ℕ → (head after i : ℕ) → List ℕ
put table head after i = set (set table after (get_or table head 0)) head i

-- the lists of class c of thread t's statements that are In stand in the table; numbers elsewhere are as they were
pub record Listing (S : Set) (cs : List ℕ) (c t : ℕ) (In : ℕ → Type 0) (heads nexts : ℕ) (before table : List ℕ) : Type 0 where
  pub lists : ListsAt S cs c t In heads nexts table
  pub others : (k : ℕ) → (heads ≤ k → k < heads + many cs c → ⊥) → (nexts ≤ k → k < nexts + 32 → ⊥) → get_or table k 0 ≡ get_or before k 0

-- the lists of the threads before t are there, those of the others are empty
pub record Made (S : Set) (cs : List ℕ) (t : ℕ) (table : List ℕ) : Type 0 where
  pub whole : length table ≡ lists_length
  pub checks : (u : ℕ) → u < t → u < most_threads → ChecksOf S cs u table
  pub jumps : (u : ℕ) → u < t → u < most_threads → JumpsOf S u (S.count u) table
  pub no_checks : (u p : ℕ) → t ≤ u → u < most_threads → p < most_checkpoints → get_or table (first_checks u + p) 0 ≡ no_statement
  pub no_jumps : (u j : ℕ) → t ≤ u → u < most_threads → j < most_statements → get_or table (first_jumps u + j) 0 ≡ no_statement
