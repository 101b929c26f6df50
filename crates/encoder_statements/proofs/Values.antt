-- Kinds that have one value for each statement: their trees, their number, and rows of them written. Assumes nothing.
use Prim.Native.Nat.{ℕ, ◌+◌, ◌<◌}
use mathlib.Core.Path.{◌≡◌, refl, ap, ap₂, sym, ◌∙◌, subst}
use mathlib.Core.Bool.{Bool, true, false, not, ◌&&◌, ◌||◌, true≢false}
use mathlib.Core.List.{List, [], ◌∷◌}
use lib.Dec.{eqb}
use lib.ListN.{get_or}
use borrow.Author.Tests.{eqb-true, ne_eqb}
use Rattle.base.specs.Below.{every}
use Rattle.base.proofs.Below.{every-at}
use Rattle.base.proofs.Choice.{and_left, and_right, or_false, chosen}
use Rattle.records.specs.declared.Layout.{Layout}
use Rattle.records.specs.declared.Statement.{Statement}
use Rattle.records.specs.Sets.{Set, set_by, statement_at}
use Rattle.table.specs.Programs.{upto}
use Rattle.encoding.specs.Slots.{Kind, kind_number, Slot, slot, Term, kinds, kind_at, active, address, argument, loaded, not_test, result, swaps, test, kind_count}
use Rattle.encoding.specs.Steps.{Shape, per_choice, per_thread, per_statement, per_checkpoint, per_mark, before_thread, before_choice, single, shape, chain, link, links, base, columns, kept, entry, line}
use Rattle.encoder_slots.specs.Places.{wide, width, place_of}
use Rattle.encoder_slots.specs.Pieces.{Writes, WritesTree, Ready}
use Rattle.encoder_slots.proofs.Pieces.{below-after, writes-row, writes_more}
use Rattle.encoder_slots.proofs.Entries.{tree_of, line_at, row-others}
use Rattle.encoder_slots.specs.Places.{of_statement}
use Rattle.encoder_slots.proofs.Matches.{Apart}
use Rattle.records.specs.StatementRecords.{Stands}
use Rattle.records.proofs.StatementRecords.{stands_by}
use Rattle.encoder_statements.specs.StatementValues.{Line}

-- a statement read, by the numbers that its place is the sum of
pub read_as : (set : List ℕ) {first i x y : ℕ} {s : Statement} → s ≡ statement_at set (x + y) → x ≡ first → y ≡ i → s ≡ statement_at set (first + i)
read_as set e f g = e ∙ ap₂ (λ (x y : ℕ). statement_at set (x + y)) f g

-- ---- kinds of statements

wide-tabled : every kind_count (λ n. not (of_statement n) || wide n) ≡ true
unfolding every
wide-tabled = refl

-- their rows have room for every statement of a thread
pub statement-width : (kind : ℕ) → kind < kind_count → of_statement kind ≡ true → width kind ≡ 32
statement-width kind h of = chosen 32 9 (sym (ap (λ (t : Bool). not t || wide kind) of) ∙ every-at (λ n. not (of_statement n) || wide n) kind_count kind wide-tabled h)

module _ (S : Set) (cs : List ℕ) (a b : ℕ) where
  -- no links, and a value for each statement
  plain : ℕ → Bool
  plain n = eqb (links S cs 0 (kind_at n) a b) 0 && kept S cs 0 (shape (kind_at n)) a b

  plain-tabled : every kind_count (λ n. not (of_statement n) || plain n) ≡ true
  unfolding every kinds plain
  plain-tabled = refl

  module _ (kind : ℕ) (h : kind < kind_count) (of : of_statement kind ≡ true) where
    plain_at : plain kind ≡ true
    plain_at = sym (ap (λ (t : Bool). not t || plain kind) of) ∙ every-at (λ n. not (of_statement n) || plain n) kind_count kind plain-tabled h

    pub statement-kept : kept S cs 0 (shape (kind_at kind)) a b ≡ true
    unfolding plain
    statement-kept = and_right (eqb (links S cs 0 (kind_at kind) a b) 0) (kept S cs 0 (shape (kind_at kind)) a b) plain_at

    statement-tree : (k : ℕ) → base S cs k (kind_at kind) a b ≡ tree_of S cs k (kind_at kind) a b
    unfolding plain chain
    statement-tree k =
        sym (ap (λ (m : ℕ). chain (link S cs 0 (kind_at kind) a b) m (base S cs k (kind_at kind) a b))
        (eqb-true (links S cs 0 (kind_at kind) a b) 0 (and_left (eqb (links S cs 0 (kind_at kind) a b) 0) (kept S cs 0 (shape (kind_at kind)) a b) plain_at)))

    -- a base written is the whole tree
    pub statement-written : (k : ℕ) (places : Slot → ℕ) (out : List ℕ) (n : ℕ) (after : List ℕ) (m at : ℕ) →
        WritesTree places (base S cs k (kind_at kind) a b) out n after m at → WritesTree places (tree_of S cs k (kind_at kind) a b) out n after m at
    statement-written k places out n after m at w = subst (λ (t : Term). WritesTree places t out n after m at) (statement-tree k) w

each_statement : Shape → Bool
each_statement per_choice = false
each_statement per_thread = false
each_statement per_statement = true
each_statement per_checkpoint = false
each_statement per_mark = false
each_statement before_thread = false
each_statement before_choice = false
each_statement single = false

each-tabled : every kind_count (λ n. not (of_statement n) || each_statement (shape (kind_at n))) ≡ true
unfolding every kinds each_statement
each-tabled = refl

each-shape : (s : Shape) → each_statement s ≡ true → s ≡ per_statement
unfolding each_statement
each-shape per_choice e = absurd (true≢false (sym e))
each-shape per_thread e = absurd (true≢false (sym e))
each-shape per_statement e = refl
each-shape per_checkpoint e = absurd (true≢false (sym e))
each-shape per_mark e = absurd (true≢false (sym e))
each-shape before_thread e = absurd (true≢false (sym e))
each-shape before_choice e = absurd (true≢false (sym e))
each-shape single e = absurd (true≢false (sym e))

-- a row for each thread, and in it a value for each statement
pub statement-shape : (kind : ℕ) → kind < kind_count → of_statement kind ≡ true → shape (kind_at kind) ≡ per_statement
statement-shape kind h of =
    each-shape (shape (kind_at kind))
    (sym (ap (λ (t : Bool). not t || each_statement (shape (kind_at kind))) of) ∙ every-at (λ n. not (of_statement n) || each_statement (shape (kind_at n))) kind_count kind each-tabled h)

module _ (S : Set) (cs : List ℕ) (a k : ℕ) where
  -- as many values as the thread has statements
  pub statement-columns : (kind : ℕ) → kind < kind_count → of_statement kind ≡ true → S.count a ≡ columns S cs k (shape (kind_at kind)) a
  statement-columns kind h of = sym (ap (λ (s : Shape). columns S cs k s a) (statement-shape kind h of))

-- ---- values of other kinds

-- those of any kind but one lie where they lay
abbrev pub Others : (kind : ℕ) (slots slots_after : List ℕ) → Type 0
Others kind slots slots_after =
    (other : Kind) (a b : ℕ) → eqb (kind_number other) (kind_number (kind_at kind)) ≡ false → place_of slots (slot other a b) ≡ place_of slots_after (slot other a b)

-- ---- rows

-- the values of the first i statements are written
abbrev pub Row : (kind : ℕ) (set : List ℕ) (first count t i : ℕ) (out slots : List ℕ) (n : ℕ) (out_after slots_after : List ℕ) (after : ℕ) → Type 0
Row kind set first count t i out slots n out_after slots_after after =
    (S : Set) (cs : List ℕ) (k : ℕ) → Stands S set first count t → ((s : Slot) → place_of slots s < n) →
    Writes (upto (entry S cs k (kind_at kind) t) i) out slots n out_after slots_after after

module _ (kind : ℕ) (set : List ℕ) (first count t : ℕ) (out slots : List ℕ) (n : ℕ) where
  pub row-none : Row kind set first count t 0 out slots n out slots n
  row-none S cs k stands below = writes-row (entry S cs k (kind_at kind) t) out slots n

  pub row_more : (i : ℕ) (out1 slots1 : List ℕ) (n1 : ℕ) (out2 slots2 : List ℕ) (n2 : ℕ) →
      Row kind set first count t i out slots n out1 slots1 n1 →
      ((S : Set) (cs : List ℕ) (k : ℕ) → Stands S set first count t → ((s : Slot) → place_of slots1 s < n1) → Others kind slots slots1 →
      Writes (entry S cs k (kind_at kind) t i) out1 slots1 n1 out2 slots2 n2) →
      Row kind set first count t (i + 1) out slots n out2 slots2 n2
  row_more i out1 slots1 n1 out2 slots2 n2 row one S cs k stands below =
      let f = entry S cs k (kind_at kind) t in
      let w = row S cs k stands below in
      writes_more f i out slots n out1 slots1 n1 out2 slots2 n2 w
      (one S cs k stands (below-after (upto f i) out slots n out1 slots1 n1 w below)
      (λ other a b apart. sym (row-others S cs k (kind_at kind) t other a b apart i out slots n out1 slots1 n1 w)))

  -- those of all statements are the line
  pub row_line : kind < kind_count → of_statement kind ≡ true → (i : ℕ) → i ≡ count → (out1 slots1 : List ℕ) (n1 : ℕ) →
      Row kind set first count t i out slots n out1 slots1 n1 → Line (kind_at kind) set first count t out slots n out1 slots1 n1
  row_line h of i all out1 slots1 n1 row S cs members lists k stands ready =
      subst (λ (j : ℕ). Writes (upto (entry S cs k (kind_at kind) t) j) out slots n out1 slots1 n1)
      (all ∙ (sym stands.count_is ∙ statement-columns S cs t k kind h of)) (row S cs k stands ready.below)

-- ---- a thread of a set

-- the line of a kind by number, from what its loop ensures
pub line-by : (set : List ℕ) (layout : Layout) (cs members lists : List ℕ) (k kind m t : ℕ) (out slots : List ℕ) (n : ℕ) (after slots_after : List ℕ) (r : ℕ) → kind ≡ m →
    Line (kind_at m) set (get_or layout.starts t 0) (get_or layout.counts t 0) t out slots n after slots_after r → Ready (set_by set layout) cs members lists slots n →
    Writes (line (set_by set layout) cs k (kind_at kind) t) out slots n after slots_after r
line-by set layout cs members lists k kind m t out slots n after slots_after r e written ready =
    line_at (set_by set layout) cs k kind m t e out slots n after slots_after r (written (set_by set layout) cs members lists k (stands_by set layout t (get_or layout.starts t 0) refl) ready)

-- the kinds of statements that `match` does not name: none
pub statement-other : (kind : ℕ) → Apart kind (kind_number argument ∷ kind_number not_test ∷ kind_number test ∷ kind_number result ∷ kind_number swaps ∷ kind_number loaded ∷ kind_number address ∷ kind_number active ∷ []) → of_statement kind ≡ false
statement-other kind ((((((((x, p), q), r), s), u), v), w), y) =
    or_false (or_false (or_false (or_false (or_false (or_false (or_false (ne_eqb kind (kind_number active) p) (ne_eqb kind (kind_number address) q)) (ne_eqb kind (kind_number loaded) r)) (ne_eqb kind (kind_number swaps) s))
    (ne_eqb kind (kind_number result) u)) (ne_eqb kind (kind_number test) v)) (ne_eqb kind (kind_number not_test) w)) (ne_eqb kind (kind_number argument) y)
