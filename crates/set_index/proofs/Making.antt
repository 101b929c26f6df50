-- The table of lists: how it is made, and what it says. Assumes nothing.
use Prim.Native.Nat.{ℕ, ◌+◌, ◌*◌, ◌≤◌, ◌<◌}
use mathlib.Core.Path.{◌≡◌, refl, ap, sym, ◌∙◌, subst}
use mathlib.Core.Bool.{true}
use mathlib.Core.List.{List}
use Rattle.std.proofs.Common.{Option, Some, None, MatchOption}
use native.Mathlib.Omega.{arith}
use native.Mathlib.Decide.{ℕ_discrete, dec_lt}
use lib.Dec.{eqb, ltb}
use lib.ListN.{length, get_or, replicate, length-replicate, get_or-replicate}
use borrow.Author.Tests.{eq-eqb, ne_eqb, eqb-true, lt-ltb, le-ltb}
use Rattle.base.proofs.Choice.{and_true, and_left, and_right, refuted, chosen, passed}
use Rattle.records.specs.Sets.{Set}
use Rattle.machine.specs.Machine.{is_check, contains}
use Rattle.set_index.specs.Members.{in_class, members_of}
use Rattle.set_index.proofs.Listed.{members-below, members-belong}
use Rattle.set_index.specs.ListTables.{ListTable, Distinct, ListsAt, ChecksOf, JumpsOf, Listing, Made, all_of, in_list, many, name, onward, put, lists_length, no_statement}
use Rattle.set_index.proofs.Contains.{contains-at, contains-none}
use Rattle.set_index.proofs.Growing.{lists_as, put_head, put_next, put-others, From, from-none, from_all, from-same, from_more}

-- ---- the next statement

pub onward-after : (i it : ℕ) → i < 32 → i < onward i it
onward-after i it small = elim (dec_lt i it) [
  | yes h ↦ subst (λ (x : ℕ). i < x) (sym (chosen it 32 (lt-ltb i it h))) h
  | no h ↦ subst (λ (x : ℕ). i < x) (sym (passed it 32 (le-ltb i it (omega arith)))) small
]

pub onward-is : (i it : ℕ) → i < it → onward i it ≡ it
onward-is i it h = chosen it 32 (lt-ltb i it h)

-- ---- the statements of a class, listed from the last to the first

-- two lists of a class have different arguments
names_differ : (cs : List ℕ) → Distinct cs → (c p q : ℕ) → p < many cs c → q < many cs c → name cs c p ≡ name cs c q → p ≡ q
names_differ cs distinct c p q = elim (ℕ_discrete c 7) [
  | yes e ↦ λ h k same. let t = eq-eqb c 7 e in
      distinct p q (subst (λ (n : ℕ). p < n) (chosen (length cs) 32 t) h) (subst (λ (n : ℕ). q < n) (chosen (length cs) 32 t) k)
      (sym (chosen (get_or cs p 0) p t) ∙ (same ∙ chosen (get_or cs q 0) q t))
  | no e ↦ λ h k same. let t = ne_eqb c 7 e in sym (passed (get_or cs p 0) p t) ∙ (same ∙ passed (get_or cs q 0) q t)
]

module _ (S : Set) (cs : List ℕ) (c t heads nexts : ℕ) (apart : heads + many cs c ≤ nexts) where
  belong : (p x : ℕ) → in_list S cs c t p x ≡ true → in_class c (S.statement t x).number ≡ true
  belong p x = and_left (in_class c (S.statement t x).number) (eqb (S.statement t x).argument (name cs c p))

  -- no statement comes after all of them
  pub listing_none : (j : ℕ) → j ≡ length (members_of S c t) → (table : List ℕ) → ((p : ℕ) → p < many cs c → get_or table (heads + p) 0 ≡ 32) →
      Listing S cs c t (From S c t j) heads nexts table table
  listing_none j e table empty = record {
    lists = from-none S c t (in_list S cs c t) (many cs c) belong j e _ _ empty;
    others = λ k f g. refl;
  }

  -- those from 0 on are all
  pub listing-all : (j : ℕ) → j ≡ 0 → (before table : List ℕ) → Listing S cs c t (From S c t j) heads nexts before table → Listing S cs c t (all_of S t) heads nexts before table
  listing-all j e before table old = record {
    lists = from_all S c t (in_list S cs c t) (many cs c) belong j e _ _ old.lists;
    others = old.others;
  }

  -- the statement before
  module _ (j r : ℕ) (next : r ≡ j + 1) (inside : j < length (members_of S c t)) (few : S.count t ≤ 32) (before table : List ℕ)
      (old : Listing S cs c t (From S c t r) heads nexts before table) where
    abbrev one : ℕ
    one = get_or (members_of S c t) j 0

    small : one < 32
    small = let b = members-below S c t (S.count t) j inside in omega arith

    -- the argument of the list that it is of
    named : (p : ℕ) → in_list S cs c t p one ≡ true → name cs c p ≡ (S.statement t one).argument
    named p is = sym (eqb-true (S.statement t one).argument (name cs c p) (and_right (in_class c (S.statement t one).number) (eqb (S.statement t one).argument (name cs c p)) is))

    -- it is put before the others of its list
    listing-more : Distinct cs → nexts + 32 ≤ length table → (q : ℕ) → q < many cs c → name cs c q ≡ (S.statement t one).argument →
        Listing S cs c t (From S c t j) heads nexts before (put table (heads + q) (nexts + one) one)
    listing-more distinct room q listed is = let s = small in record {
      lists =
          from_more S c t (in_list S cs c t) (many cs c) belong j r next inside _ _ _ _ old.lists
          (λ (y : ℕ) (l : one < y). put-others table (nexts + one) (heads + q) one (nexts + y) (λ (e : nexts + y ≡ heads + q). omega arith) (λ (e : nexts + y ≡ nexts + one). omega arith))
          q small listed (and_true (members-belong S c t (S.count t) j inside) (eq-eqb (S.statement t one).argument (name cs c q) (sym is)))
          (λ (p : ℕ) k e. names_differ cs distinct c p q k listed (named p e ∙ sym is))
          (put_head table (nexts + one) (heads + q) one (omega arith))
          (λ (p : ℕ) (k : p < many cs c) other. put-others table (nexts + one) (heads + q) one (heads + p) (λ (e : heads + p ≡ heads + q). other (omega arith)) (λ (e : heads + p ≡ nexts + one). omega arith))
          (put_next table (nexts + one) (heads + q) one (omega arith) (λ (e : nexts + one ≡ heads + q). omega arith));
      others = λ (k : ℕ) f g.
          put-others table (nexts + one) (heads + q) one k (λ (e : k ≡ heads + q). f (omega arith) (omega arith)) (λ (e : k ≡ nexts + one). g (omega arith) (omega arith))
          ∙ old.others k f g;
    }

    -- it is of none
    listing-same : ((p : ℕ) → p < many cs c → name cs c p ≡ (S.statement t one).argument → ⊥) → Listing S cs c t (From S c t j) heads nexts before table
    listing-same none = record {
      lists =
          from-same S c t (in_list S cs c t) (many cs c) belong j r next inside _ _ _ _ old.lists (λ y l. refl)
          (λ (p : ℕ) h is. none p h (named p is)) (λ p k. refl);
      others = old.others;
    }

    -- it is put before the others of the list that it is of, if it is of one
    pub listing-put : Distinct cs → nexts + 32 ≤ length table → (list : Option ℕ) (i argument : ℕ) (after : List ℕ) → i ≡ one → argument ≡ (S.statement t one).argument →
        MatchOption list ((p : ℕ) → p < many cs c → name cs c p ≡ argument → ⊥) (λ q. (q < no_statement) × (q < many cs c) × (name cs c q ≡ argument)) →
        MatchOption list (after ≡ table) (λ q. i < 32 → heads + q < length table → nexts + i < length table → after ≡ put table (heads + q) (nexts + i) i) →
        Listing S cs c t (From S c t j) heads nexts before after
    listing-put distinct room None i argument after i-is argument-is none same =
        subst (Listing S cs c t (From S c t j) heads nexts before) (sym same) (listing-same (λ (p : ℕ) h e. none p h (e ∙ sym argument-is)))
    listing-put distinct room (Some q) i argument after i-is argument-is (near, within, called) placed =
        let s = small in
        subst (Listing S cs c t (From S c t j) heads nexts before)
        (sym (placed (omega arith) (omega arith) (omega arith) ∙ ap (λ (k : ℕ). put table (heads + q) (nexts + k) k) i-is))
        (listing-more distinct room q within (called ∙ argument-is))

-- ---- the lists of all threads

-- lists whose numbers are as they were
kept : (S : Set) (cs : List ℕ) (c t : ℕ) → S.count t ≤ 32 → (heads nexts : ℕ) (before table : List ℕ) →
    ((p : ℕ) → p < many cs c → get_or table (heads + p) 0 ≡ get_or before (heads + p) 0) → ((x : ℕ) → x < 32 → get_or table (nexts + x) 0 ≡ get_or before (nexts + x) 0) →
    ListsAt S cs c t (all_of S t) heads nexts before → ListsAt S cs c t (all_of S t) heads nexts table
kept S cs c t few heads nexts before table first next old =
    lists_as (in_list S cs c t) (many cs c) (all_of S t) (all_of S t) (λ (y : ℕ) i. i) _ _ _ _ old (λ (p y : ℕ) k i e. i) first
    (λ (p x : ℕ) k (i : x < S.count t) e. next x (omega arith))

module _ (S : Set) (cs : List ℕ) (most : length cs ≤ 8) (few : (t : ℕ) → t < 4 → S.count t ≤ 32) where
  -- no list is made
  pub made_none : (table : List ℕ) → table ≡ replicate lists_length no_statement → Made S cs 0 table
  made_none table e = record {
    whole = ap length e ∙ length-replicate {A = ℕ} lists_length no_statement;
    checks = λ (u : ℕ) (l : u < 0) h. absurd (omega arith);
    jumps = λ (u : ℕ) (l : u < 0) h. absurd (omega arith);
    no_checks = λ (u p : ℕ) l (h : u < 4) (k : p < 8). empty (8 * u + p) (omega arith);
    no_jumps = λ (u j : ℕ) l (h : u < 4) (k : j < 32). empty (160 + 32 * u + j) (omega arith);
  }
    where
      empty : (k : ℕ) → k < lists_length → get_or table k 0 ≡ no_statement
      empty k h = ap (λ (xs : List ℕ). get_or xs k 0) e ∙ get_or-replicate lists_length k no_statement 0 h

  -- all are
  pub made_all : (t : ℕ) → t ≡ S.threads → t ≤ 4 → (table : List ℕ) → Made S cs t table → ListTable S cs table
  made_all t all four table m = record {
    whole = m.whole;
    four_threads = omega arith;
    eight_points = most;
    few_statements = λ (u : ℕ) (h : u < S.threads). few u (omega arith);
    checks = λ (u : ℕ) (h : u < S.threads). m.checks u (omega arith) (omega arith);
    jumps = λ (u : ℕ) (h : u < S.threads). m.jumps u (omega arith) (omega arith);
  }

  -- those of thread t are made, first of its CHECKs, then of its jumps
  module _ (t : ℕ) (row : t < 4) (before between table : List ℕ) (old : Made S cs t before) (same : length table ≡ length before)
      (first : Listing S cs 7 t (all_of S t) (8 * t) (32 + 32 * t) before between) (then : Listing S cs 8 t (all_of S t) (160 + 32 * t) (288 + 32 * t) between table) where
    -- a number that is none of thread t's
    elsewhere : (k : ℕ) → (8 * t ≤ k → k < 8 * t + length cs → ⊥) → (32 + 32 * t ≤ k → k < 32 + 32 * t + 32 → ⊥) →
        (160 + 32 * t ≤ k → k < 160 + 32 * t + 32 → ⊥) → (288 + 32 * t ≤ k → k < 288 + 32 * t + 32 → ⊥) → get_or table k 0 ≡ get_or before k 0
    elsewhere k a b c d = then.others k c d ∙ first.others k a b

    pub made_more : Made S cs (t + 1) table
    made_more = record {
      whole = same ∙ old.whole;
      checks = λ (u : ℕ) (l : u < t + 1) (h : u < 4). elim (ℕ_discrete u t) [
        | yes e ↦
            subst (λ (v : ℕ). ChecksOf S cs v table) (sym e)
            (kept S cs 7 t (few t row) (8 * t) (32 + 32 * t) between table
            (λ (p : ℕ) (k : p < length cs). then.others (8 * t + p) (λ (i : 160 + 32 * t ≤ 8 * t + p) j. omega arith) (λ (i : 288 + 32 * t ≤ 8 * t + p) j. omega arith))
            (λ (x : ℕ) (k : x < 32). then.others (32 + 32 * t + x) (λ (i : 160 + 32 * t ≤ 32 + 32 * t + x) j. omega arith) (λ (i : 288 + 32 * t ≤ 32 + 32 * t + x) j. omega arith))
            first.lists)
        | no e ↦
            kept S cs 7 u (few u h) (8 * u) (32 + 32 * u) before table
            (λ (p : ℕ) (k : p < length cs). elsewhere (8 * u + p)
            (λ (i : 8 * t ≤ 8 * u + p) j. omega arith) (λ (i : 32 + 32 * t ≤ 8 * u + p) j. omega arith)
            (λ (i : 160 + 32 * t ≤ 8 * u + p) j. omega arith) (λ (i : 288 + 32 * t ≤ 8 * u + p) j. omega arith))
            (λ (x : ℕ) (k : x < 32). elsewhere (32 + 32 * u + x)
            (λ i (j : 32 + 32 * u + x < 8 * t + length cs). omega arith) (λ (i : 32 + 32 * t ≤ 32 + 32 * u + x) j. omega arith)
            (λ (i : 160 + 32 * t ≤ 32 + 32 * u + x) j. omega arith) (λ (i : 288 + 32 * t ≤ 32 + 32 * u + x) j. omega arith))
            (old.checks u (omega arith) h)
      ];
      jumps = λ (u : ℕ) (l : u < t + 1) (h : u < 4). elim (ℕ_discrete u t) [
        | yes e ↦ subst (λ (v : ℕ). JumpsOf S v (S.count v) table) (sym e) then.lists
        | no e ↦
            kept S cs 8 u (few u h) (160 + 32 * u) (288 + 32 * u) before table
            (λ (p : ℕ) (k : p < 32). elsewhere (160 + 32 * u + p)
            (λ i (j : 160 + 32 * u + p < 8 * t + length cs). omega arith) (λ i (j : 160 + 32 * u + p < 32 + 32 * t + 32). omega arith)
            (λ (i : 160 + 32 * t ≤ 160 + 32 * u + p) j. omega arith) (λ (i : 288 + 32 * t ≤ 160 + 32 * u + p) j. omega arith))
            (λ (x : ℕ) (k : x < 32). elsewhere (288 + 32 * u + x)
            (λ i (j : 288 + 32 * u + x < 8 * t + length cs). omega arith) (λ i (j : 288 + 32 * u + x < 32 + 32 * t + 32). omega arith)
            (λ i (j : 288 + 32 * u + x < 160 + 32 * t + 32). omega arith) (λ (i : 288 + 32 * t ≤ 288 + 32 * u + x) j. omega arith))
            (old.jumps u (omega arith) h)
      ];
      no_checks = λ (u p : ℕ) (l : t + 1 ≤ u) (h : u < 4) (k : p < 8).
          elsewhere (8 * u + p) (λ i (j : 8 * u + p < 8 * t + length cs). omega arith) (λ (i : 32 + 32 * t ≤ 8 * u + p) j. omega arith)
          (λ (i : 160 + 32 * t ≤ 8 * u + p) j. omega arith) (λ (i : 288 + 32 * t ≤ 8 * u + p) j. omega arith)
          ∙ old.no_checks u p (omega arith) h k;
      no_jumps = λ (u j : ℕ) (l : t + 1 ≤ u) (h : u < 4) (k : j < 32).
          elsewhere (160 + 32 * u + j) (λ a (b : 160 + 32 * u + j < 8 * t + length cs). omega arith) (λ a (b : 160 + 32 * u + j < 32 + 32 * t + 32). omega arith)
          (λ a (b : 160 + 32 * u + j < 160 + 32 * t + 32). omega arith) (λ (a : 288 + 32 * t ≤ 160 + 32 * u + j) b. omega arith)
          ∙ old.no_jumps u j (omega arith) h k;
    }

-- ---- what the table says

module _ (S : Set) (cs table : List ℕ) (k : ListTable S cs table) (t p : ℕ) (row : t < S.threads) (column : p < length cs) where
  -- a checkpoint is contained where its list has a first CHECK
  pub says : ltb (get_or table (8 * t + p) 0) 32 ≡ contains S t (get_or cs p 0)
  says = let lists = k.checks t row in elim (dec_lt (get_or table (8 * t + p) 0) 32) [
    | yes h ↦
        let b = (lists.heads p column).belongs h in
        lt-ltb (get_or table (8 * t + p) 0) 32 h ∙ sym (contains-at S t (get_or cs p 0) (get_or table (8 * t + p) 0) b.0 b.1)
    | no h ↦
        le-ltb (get_or table (8 * t + p) 0) 32 (omega arith)
        ∙ sym (contains-none S t (get_or cs p 0)
        (λ (x : ℕ) (i : x < S.count t). refuted (is_check S t (get_or cs p 0) x)
        (λ e. let few = k.few_statements t row in let l = (lists.heads p column).soonest x i (omega arith) e in omega arith)))
  ]
