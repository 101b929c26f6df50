-- The look-ups of the model check go back over the memories behind a read, each at most once. Assumes nothing.
use Prim.Native.Nat.{ℕ, zero, suc, ◌-◌, ◌≤◌, ◌<◌}
use mathlib.Core.Path.{◌≡◌, refl, ap, sym, subst, ◌∙◌}
use mathlib.Core.Bool.{Bool, true, false, cond, ◌&&◌, ◌||◌}
use mathlib.Core.List.{List, [], ◌∷◌}
use mathlib.Core.Logic.{inl, inr}
use native.Mathlib.Decide.{ℕ_discrete}
use native.Mathlib.Omega.{arith}
use borrow.Author.Tests.{eq-eqb, ne_eqb}
use lib.Dec.{eqb}
use lib.ListN.{length, get_or}
use Rattle.base.specs.Below.{number}
use Rattle.base.proofs.Below.{number-grows}
use Rattle.base.proofs.Choice.{chosen, passed, and_true, and_false, and_right_false}
use Rattle.table.specs.Formulas.{no_sort, memory_sort, FIRST, IF, READ, WRITE}
use Rattle.table.specs.Tables.{all_formed}
use Rattle.table.specs.Values.{Assignment, as_word, as_memory, values_of}
use Rattle.table.specs.declared.Formula.{Formula}
use Rattle.table.proofs.Passing.{passing-before, in_first-part}
use Rattle.encoding.specs.Encodings.{table_of}
use Rattle.encoding.proofs.Memories.{is_memory, is_read as is_read_record, Parted, parted}
use Rattle.evaluation.specs.Evaluations.{no_formula, record_at, memory_behind, cell_back, memories_back, AtTurn}
use Rattle.evaluation.proofs.Backwards.{back-hit, back-first, back_on, visits_hit, visits_first, visits_on}
use Rattle.evaluation.proofs.Tables.{sort_at, views, agree, cells}
use Rattle.evaluation.proofs.Views.{Operand, View, is_choice, is_first, is_bit, is_word, is_not, is_and, is_or, is_equal, is_if, is_plus, is_minus, is_times, is_read, is_write, is_top, is_constraint, is_goal, on-memory}
use Rattle.evaluation.proofs.Words.{read-value}
use Rattle.claims.specs.Lookups.{Passes, Ends, LooksBack, cell as cell_read, ReadsBack, LooksBackOnce}
use Rattle.claims.proofs.Formed.{tables_are_well_formed}

-- ---- one look-up, memory by memory

module _ (first : ℕ → ℕ) (formulas : ℕ → Formula) (values : ℕ → ℕ) (x : ℕ) where
  -- it ends at once
  ends-here : (m cell : ℕ) → Ends first formulas values x m cell → LooksBack first formulas values x m cell (m ∷ [])
  ends-here m cell end = record {
    some = omega arith;
    starts = refl;
    passes = λ k (h : suc k < 1). absurd (omega arith);
    ends = last;
    falls = λ j k (h : j < k) (l : k < 1). absurd (omega arith);
    once = λ j k (h : j < 1) (l : k < 1) e. omega arith;
  }
    where
      last : (k : ℕ) → suc k ≡ 1 → Ends first formulas values x (get_or (m ∷ []) k 0) cell
      last zero h = end
      last (suc k) h = absurd (omega arith)

  -- it goes on from the memory behind
  goes_on_lem : (m next cell : ℕ) (visited : List ℕ) → Passes first formulas values x m next → next < m →
      LooksBack first formulas values x next cell visited → LooksBack first formulas values x m cell (m ∷ visited)
  goes_on_lem m next cell visited pass back rest = record {
    some = omega arith;
    starts = refl;
    passes = passing;
    ends = last;
    falls = falling;
    once = apart;
  }
    where
      passing : (k : ℕ) → suc k < suc (length visited) → Passes first formulas values x (get_or (m ∷ visited) k 0) (get_or visited k 0)
      passing zero h = subst (Passes first formulas values x m) (sym rest.starts) pass
      passing (suc k) h = rest.passes k (omega arith)

      last : (k : ℕ) → suc k ≡ suc (length visited) → Ends first formulas values x (get_or (m ∷ visited) k 0) cell
      last zero h = absurd (omega (arith, rest.some))
      last (suc k) h = rest.ends k (omega arith)

      lower : (k : ℕ) → k < length visited → get_or visited k 0 < m
      lower zero h = omega (arith, back, rest.starts)
      lower (suc k) h = omega (arith, back, rest.starts, rest.falls 0 (suc k) (omega arith) h)

      falling : (j k : ℕ) → j < k → k < suc (length visited) → get_or (m ∷ visited) k 0 < get_or (m ∷ visited) j 0
      falling j zero h l = absurd (omega arith)
      falling zero (suc k) h l = lower k (omega arith)
      falling (suc j) (suc k) h l = rest.falls j k (omega arith) (omega arith)

      apart : (j k : ℕ) → j < suc (length visited) → k < suc (length visited) → get_or (m ∷ visited) j 0 ≡ get_or (m ∷ visited) k 0 → j ≡ k
      apart zero zero h l e = refl
      apart zero (suc k) h l e = absurd (omega (arith, lower k (omega arith), e))
      apart (suc j) zero h l e = absurd (omega (arith, lower j (omega arith), e))
      apart (suc j) (suc k) h l e = ap suc (rest.once j k (omega arith) (omega arith) e)

  -- ---- the loop's, over records of these sorts

  module _ (sorts : ℕ → ℕ) where
    abbrev memory_at : ℕ → Bool
    memory_at j = eqb (sorts j) memory_sort

    -- from memory m on, where `left` memories may be looked at; the visited ones are among the memories up to m
    pub record Goes (left m : ℕ) : Type 0 where
      pub looks_back : LooksBack first formulas values x m (cell_back first formulas values left m x) (memories_back formulas values left m x)
      pub few : length (memories_back formulas values left m x) ≤ number (suc m) memory_at

    goes_as : (left m cell : ℕ) (visited : List ℕ) → cell_back first formulas values left m x ≡ cell → memories_back formulas values left m x ≡ visited →
        LooksBack first formulas values x m cell visited → length visited ≤ number (suc m) memory_at → Goes left m
    goes_as left m cell visited p q h l = record {
      looks_back =
          subst (λ (c : ℕ). LooksBack first formulas values x m c (memories_back formulas values left m x)) (sym p)
          (subst (LooksBack first formulas values x m cell) (sym q) h);
      few = subst (λ (visited : List ℕ). length visited ≤ number (suc m) memory_at) (sym q) l;
    }

    module _ (left m : ℕ) (s : sorts m ≡ memory_sort) where
      -- one memory more
      counted : (k n : ℕ) → k ≤ m → n ≤ number k memory_at → suc n ≤ number (suc m) memory_at
      unfolding number
      counted k n h l = omega (arith, chosen {A = ℕ} 1 0 (eq-eqb (sorts m) memory_sort s), number-grows memory_at k m h)

      -- a write at this address
      at_write : (formulas m).operation ≡ WRITE → x ≡ values (formulas m).b → Goes (suc left) m
      at_write e d =
          let hit = and_true (eq-eqb (formulas m).operation WRITE e) (eq-eqb x (values (formulas m).b) d) in
          goes_as (suc left) m (values (formulas m).c) (m ∷ [])
          (back-hit first formulas values m x (formulas m) refl (suc left) (values (formulas m).b) (omega arith) refl hit)
          (visits_hit first formulas values m x (formulas m) refl (suc left) (values (formulas m).b) (omega arith) refl hit)
          (ends-here m (values (formulas m).c) (inl (e, (sym d, refl)))) (counted 0 0 (omega arith) (omega arith))

      at_first : (formulas m).operation ≡ FIRST → Goes (suc left) m
      at_first e =
          let miss = and_false (eqb x (values (formulas m).b)) (ne_eqb (formulas m).operation WRITE (λ (d : (formulas m).operation ≡ 13). omega arith)) in
          let stop = ap (λ (o : ℕ). eqb o WRITE || eqb o IF) e in
          goes_as (suc left) m (first x) (m ∷ [])
          (back-first first formulas values m x (formulas m) refl (suc left) (values (formulas m).b) (omega arith) refl miss stop)
          (visits_first first formulas values m x (formulas m) refl (suc left) (values (formulas m).b) (omega arith) refl miss stop)
          (ends-here m (first x) (inr (e, refl))) (counted 0 0 (omega arith) (omega arith))

      -- a memory that is passed
      past : (next : ℕ) → (eqb (formulas m).operation WRITE && eqb x (values (formulas m).b)) ≡ false →
          (eqb (formulas m).operation WRITE || eqb (formulas m).operation IF) ≡ true →
          memory_behind values (formulas m).operation (formulas m).a (formulas m).b (formulas m).c ≡ next →
          Passes first formulas values x m next → next < m → Goes left next → Goes (suc left) m
      past next miss on behind pass back rest =
          goes_as (suc left) m (cell_back first formulas values left next x) (m ∷ memories_back formulas values left next x)
          (back_on first formulas values m x (formulas m) refl (suc left) (values (formulas m).b) (omega arith) refl miss on
          ∙ (λ z. cell_back first formulas values (less z) (behind z) x))
          (visits_on first formulas values m x (formulas m) refl (suc left) (values (formulas m).b) (omega arith) refl miss on
          ∙ (λ z. m ∷ memories_back formulas values (less z) (behind z) x))
          (goes_on_lem m next (cell_back first formulas values left next x) (memories_back formulas values left next x) pass back rest.looks_back)
          (counted (suc next) (length (memories_back formulas values left next x)) (omega arith) rest.few)
        where
          less : suc left - 1 ≡ left
          less = omega arith

      past_write : (formulas m).operation ≡ WRITE → (x ≡ values (formulas m).b → ⊥) → (formulas m).a < m → Goes left (formulas m).a → Goes (suc left) m
      past_write e d =
          past (formulas m).a (and_right_false (eqb (formulas m).operation WRITE) (ne_eqb x (values (formulas m).b) d))
          (ap (λ (o : ℕ). eqb o WRITE || eqb o IF) e) (chosen _ _ (eq-eqb (formulas m).operation WRITE e)) (inl (e, (λ h. d (sym h), refl)))

      past_if : (formulas m).operation ≡ IF → (formulas m).b < m → (formulas m).c < m → Goes left (formulas m).b → Goes left (formulas m).c → Goes (suc left) m
      past_if e b c one other = go (eqb (values (formulas m).a) 1) refl
        where
          differs : eqb (formulas m).operation WRITE ≡ false
          differs = ne_eqb (formulas m).operation WRITE (λ (d : (formulas m).operation ≡ 13). omega arith)

          by : (test : Bool) → eqb (values (formulas m).a) 1 ≡ test → cond test (formulas m).b (formulas m).c < m →
              Goes left (cond test (formulas m).b (formulas m).c) → Goes (suc left) m
          by test t =
              let chooses = ap (λ (d : Bool). cond d (formulas m).b (formulas m).c) (sym t) in
              past (cond test (formulas m).b (formulas m).c) (and_false _ differs) (ap (λ (o : ℕ). eqb o WRITE || eqb o IF) e)
              (passed _ _ differs ∙ sym chooses) (inr (e, chooses))

          go : (test : Bool) → eqb (values (formulas m).a) 1 ≡ test → Goes (suc left) m
          go true t = by true t b one
          go false t = by false t c other

    -- a memory among records that are formed
    module _ (size : ℕ) (view : (j : ℕ) → j < size → View sorts j (formulas j)) (sorted : (j : ℕ) → j < size → sorts j ≡ (formulas j).sort) where
      goes_back : (left m : ℕ) → m < left → m < size → sorts m ≡ memory_sort → Goes left m
      goes_back zero m h l s = absurd (omega arith)
      goes_back (suc left) m h l s =
          let back : (k : ℕ) → k < m → sorts k ≡ memory_sort → Goes left k = λ k (q : k < m) t. goes_back left k (omega arith) (omega arith) t in
          on-memory sorts m (formulas m) (sym (sorted m l) ∙ s) (view m l)
          (at_first left m s)
          (λ e a b c. elim (ℕ_discrete x (values (formulas m).b)) [
            | yes d ↦ at_write left m s e d
            | no d ↦ past_write left m s e d a.0 (back (formulas m).a a.0 a.1)
          ])
          (λ e a b c. past_if left m s e b.0 c.0 (back (formulas m).b b.0 b.1) (back (formulas m).c c.0 c.1))

-- ---- a read record

-- its memory and its address are earlier records
operands : (sorts : ℕ → ℕ) (n : ℕ) (f : Formula) → f.operation ≡ READ → View sorts n f → Operand sorts n memory_sort f.a × (f.b < n)
operands sorts n f r (is_read e t a b) = (a, b)
operands sorts n f r (is_choice e t) = absurd (omega arith)
operands sorts n f r (is_first e t) = absurd (omega arith)
operands sorts n f r (is_bit e t k) = absurd (omega arith)
operands sorts n f r (is_word e t) = absurd (omega arith)
operands sorts n f r (is_not e t a) = absurd (omega arith)
operands sorts n f r (is_and e t a b) = absurd (omega arith)
operands sorts n f r (is_or e t a b) = absurd (omega arith)
operands sorts n f r (is_equal e t a b) = absurd (omega arith)
operands sorts n f r (is_if e a b c) = absurd (omega arith)
operands sorts n f r (is_plus e t a b) = absurd (omega arith)
operands sorts n f r (is_minus e t a b) = absurd (omega arith)
operands sorts n f r (is_times e t a b) = absurd (omega arith)
operands sorts n f r (is_write e t a b c) = absurd (omega arith)
operands sorts n f r (is_top e t a) = absurd (omega arith)
operands sorts n f r (is_constraint e t a) = absurd (omega arith)
operands sorts n f r (is_goal e t a) = absurd (omega arith)

-- past the last record there is none
pub inside : (table : List Formula) (i : ℕ) → (record_at table i).operation ≡ READ → i < length table
inside [] i e = absurd (omega arith)
inside (f ∷ table) zero e = omega arith
inside (f ∷ table) (suc i) e = omega (arith, inside table i e)

module _ (g : Assignment) (table : List Formula) (formed : all_formed (λ i. no_sort) 0 table ≡ true) (i : ℕ) (formulas : ℕ → Formula) (values : ℕ → ℕ)
    (reads : (record_at table i).operation ≡ READ) (turn : AtTurn g table i formulas values) where
  abbrev f : Formula
  f = record_at table i

  view : (j : ℕ) → j < length table → View (sort_at table) j (record_at table j)
  view j l = (views table formed j l).0

  its_operands : Operand (sort_at table) i memory_sort f.a × (f.b < i)
  its_operands = operands (sort_at table) i f reads (view i (inside table i reads))

  goes : Goes g.first formulas values (values f.b) (sort_at table) (length table) f.a
  goes =
      let h = inside table i reads in
      let m : f.a < i = its_operands.0.0 in
      goes_back g.first formulas values (values f.b) (sort_at table) (length table)
      (λ j l. subst (View (sort_at table) j) (sym (turn.records j l)) (view j l))
      (λ j l. ap (λ (f : Formula). f.sort) (sym (turn.records j l)))
      (length table) f.a (omega arith) (omega arith) its_operands.0.1

  its_value : as_word (values_of g table i) ≡ cell_read g table i formulas values
  its_value =
      let h = inside table i reads in
      let m : f.a < i = its_operands.0.0 in
      ap as_word (agree g table view i h ∙ read-value g (values_of g table) f reads)
      ∙ (ap (as_memory (values_of g table f.a)) (sym (turn.words f.b its_operands.1))
      ∙ sym (cells g (length table) (record_at table) (values_of g table) view (agree g table view) i (omega arith) formulas turn.records values turn.words
      (length table) f.a (values f.b) (omega arith) m its_operands.0.1))

  -- up to the memory that is read there are no more memories than the bound has steps
  its_memories : (bound : ℕ) → Parted bound table → number (suc f.a) (λ j. is_memory (record_at table j)) ≤ bound
  its_memories bound parts =
      let m : f.a < i = its_operands.0.0 in
      let there = subst (λ (t : List Formula). eqb (record_at t i).operation READ ≡ true) parts.joined (eq-eqb f.operation READ reads) in
      let in_part = in_first-part is_read_record parts.early parts.late no_formula refl parts.reads_early i there in
      let counted = passing-before is_memory parts.early parts.late no_formula in
      let all = ap (λ (t : List Formula). number (length parts.early) (λ j. is_memory (record_at t j))) parts.joined in
      omega (
        arith,
        in_part,
        counted,
        all,
        parts.memories_early,
        number-grows (λ j. is_memory (record_at table j)) (suc f.a) (length parts.early) (omega arith),
      )

  reads-back : (bound : ℕ) → Parted bound table → ReadsBack g table i formulas values bound
  reads-back bound parts = record {
    looks_back = goes.looks_back;
    few = omega (arith, goes.few, its_memories bound parts);
    value = its_value;
  }

-- ---- the claim

pub looks_back_once : LooksBackOnce
looks_back_once set map bound a b one few h k g i formulas values reads turn =
    reads-back g (table_of set map bound) (tables_are_well_formed set map bound a b one few h k).records i formulas values reads turn bound (parted set map bound one)
