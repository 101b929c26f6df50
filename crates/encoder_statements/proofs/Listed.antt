-- Rows of values written for the statements of a class alone: to set those of the other statements changes nothing. Assumes nothing.
use Prim.Native.Nat.{ℕ, zero, suc, ◌+◌, ◌≤◌, ◌<◌}
use mathlib.Core.Path.{◌≡◌, refl, ap, sym, ◌∙◌, subst}
use mathlib.Core.Bool.{Bool, true, false}
use mathlib.Core.List.{List}
use native.Mathlib.Omega.{arith}
use native.Mathlib.Numerals.{add-one}
use lib.ListN.{length, get_or}
use Rattle.records.specs.declared.Layout.{Layout}
use Rattle.records.specs.Sets.{Set, set_by}
use Rattle.table.specs.Programs.{upto}
use Rattle.encoding.specs.Slots.{Slot, slot, kinds, kind_at, kind_number, loaded, swaps, result, test, not_test, kind_count}
use Rattle.encoding.specs.Steps.{entry, line}
use Rattle.encoder_slots.specs.Places.{place_of}
use Rattle.encoder_slots.specs.Pieces.{Writes, Ready}
use Rattle.encoder_slots.specs.Idle.{Idle}
use Rattle.encoder_slots.proofs.Ready.{ready-entry}
use Rattle.encoder_slots.proofs.Pieces.{writes-row, writes_more}
use Rattle.encoder_slots.proofs.Entries.{line_at, entry-apart}
use Rattle.encoder_slots.proofs.Idle.{no-load, no_swap_lem, no_result_lem, no_test_lem, no-not-test}
use Rattle.encoder_slots.specs.Places.{of_statement}
use Rattle.set_index.specs.Members.{members, members_of, Members, load_class, cas_class, accu_class, conditional_class}
use Rattle.set_index.proofs.Listed.{members-below, members-belong}
use Rattle.records.specs.StatementRecords.{Stands}
use Rattle.records.proofs.StatementRecords.{stands_by}
use Rattle.encoder_statements.specs.StatementValues.{Listed}
use Rattle.encoder_statements.proofs.Values.{Others, statement-columns}
use Rattle.encoder_statements.proofs.Members.{belongs, members-none, members_in, members-out, member-at}

-- ---- classes whose other statements have no such value

abbrev pub Rests : (kind c : ℕ) → Type 0
Rests kind c =
    (S : Set) (cs : List ℕ) (k t i : ℕ) (out slots : List ℕ) (n : ℕ) → Idle S (place_of slots) → belongs S c t i ≡ false →
    Writes (entry S cs k (kind_at kind) t i) out slots n out slots n

pub rests-load : Rests (kind_number loaded) load_class
unfolding kinds
rests-load S cs k t i out slots n idle e = no-load S cs k t i out slots n idle e

pub rests_swap : Rests (kind_number swaps) cas_class
unfolding kinds
rests_swap S cs k t i out slots n idle e = no_swap_lem S cs k t i out slots n idle e

pub rests_result : Rests (kind_number result) accu_class
unfolding kinds
rests_result S cs k t i out slots n idle e = no_result_lem S cs k t i out slots n idle e

pub rests-test : Rests (kind_number test) conditional_class
unfolding kinds
rests-test S cs k t i out slots n idle e = no_test_lem S cs k t i out slots n idle e

pub rests-not-test : Rests (kind_number not_test) conditional_class
unfolding kinds
rests-not-test S cs k t i out slots n idle e = no-not-test S cs k t i out slots n idle e

-- ---- the values of the first members

module _ (S : Set) (cs bytes lists : List ℕ) (k kind c t : ℕ) where
  -- those of the first j members are written, and so those of the first i statements, if j of them are members
  pub record Reached (j : ℕ) (out slots : List ℕ) (n : ℕ) (out_after slots_after : List ℕ) (after : ℕ) : Type 0 where
    pub ready : Ready S cs bytes lists slots_after after
    pub others : Others kind slots slots_after
    pub reached : (i : ℕ) → i ≤ S.count t → length (members S c t i) ≡ j → Writes (upto (entry S cs k (kind_at kind) t) i) out slots n out_after slots_after after

  module _ (rests : Rests kind c) (out slots : List ℕ) (n : ℕ) where
    -- one statement more that has no such value
    pass : (i : ℕ) (out1 slots1 : List ℕ) (n1 : ℕ) → Idle S (place_of slots1) → belongs S c t i ≡ false →
        Writes (upto (entry S cs k (kind_at kind) t) i) out slots n out1 slots1 n1 → Writes (upto (entry S cs k (kind_at kind) t) (suc i)) out slots n out1 slots1 n1
    pass i out1 slots1 n1 idle e w =
        subst (λ (m : ℕ). Writes (upto (entry S cs k (kind_at kind) t) m) out slots n out1 slots1 n1) (add-one i)
        (writes_more (entry S cs k (kind_at kind) t) i out slots n out1 slots1 n1 out1 slots1 n1 w (rests S cs k t i out1 slots1 n1 idle e))

    reached-none : Ready S cs bytes lists slots n → Reached 0 out slots n out slots n
    reached-none ready = record { ready = ready; others = λ other a b apart. refl; reached = λ i h e. at i e }
      where
        at : (i : ℕ) → length (members S c t i) ≡ 0 → Writes (upto (entry S cs k (kind_at kind) t) i) out slots n out slots n
        at zero e = writes-row (entry S cs k (kind_at kind) t) out slots n
        at (suc i) e = go (belongs S c t i) refl (at i)
          where
            go : (b : Bool) → belongs S c t i ≡ b → (length (members S c t i) ≡ 0 → Writes (upto (entry S cs k (kind_at kind) t) i) out slots n out slots n)
                → Writes (upto (entry S cs k (kind_at kind) t) (suc i)) out slots n out slots n
            go true q before = let m = members_in S c t i q in absurd (omega arith)
            go false q before = pass i out slots n ready.idle q (before (let m = members-out S c t i q in omega arith))

    reached-more : (j i : ℕ) (out1 slots1 : List ℕ) (n1 : ℕ) (out2 slots2 : List ℕ) (n2 : ℕ) → i ≡ get_or (members_of S c t) j 0 →
        Reached j out slots n out1 slots1 n1 → Writes (entry S cs k (kind_at kind) t i) out1 slots1 n1 out2 slots2 n2 → Reached (j + 1) out slots n out2 slots2 n2
    reached-more j i out1 slots1 n1 out2 slots2 n2 is r w =
        record {
          ready = after;
          others = λ other a b apart. r.others other a b apart ∙ sym (ap (λ (g : Slot → ℕ). g (slot other a b)) w.places ∙ entry-apart S cs k (kind_at kind) t other a b apart i (place_of slots1) n1);
          reached = at;
        }
      where
        after : Ready S cs bytes lists slots2 n2
        after = ready-entry k (kind_at kind) t i w r.ready

        at : (m : ℕ) → m ≤ S.count t → length (members S c t m) ≡ j + 1 → Writes (upto (entry S cs k (kind_at kind) t) m) out slots n out2 slots2 n2
        at zero h e = let z = members-none S c t in absurd (omega arith)
        at (suc m) h e = go (belongs S c t m) refl (at m)
          where
            go : (b : Bool) → belongs S c t m ≡ b → (m ≤ S.count t → length (members S c t m) ≡ j + 1 → Writes (upto (entry S cs k (kind_at kind) t) m) out slots n out2 slots2 n2)
                → Writes (upto (entry S cs k (kind_at kind) t) (suc m)) out slots n out2 slots2 n2
            go true q earlier =
                let f = entry S cs k (kind_at kind) t in
                let before : length (members S c t m) ≡ j = let z = members_in S c t m q in omega arith in
                let here : i ≡ m = is ∙ (ap (λ (x : ℕ). get_or (members_of S c t) x 0) (sym before) ∙ member-at S c t (S.count t) m (omega arith) q) in
                subst (λ (x : ℕ). Writes (upto f x) out slots n out2 slots2 n2) (add-one m)
                (writes_more f m out slots n out1 slots1 n1 out2 slots2 n2 (r.reached m (omega arith) before)
                (subst (λ (x : ℕ). Writes (f x) out1 slots1 n1 out2 slots2 n2) here w))
            go false q earlier = pass m out2 slots2 n2 after.idle q (earlier (omega arith) (let z = members-out S c t m q in omega arith))

-- ---- in any set

abbrev pub Some : (kind c : ℕ) (set members : List ℕ) (first t j : ℕ) (out slots : List ℕ) (n : ℕ) (out_after slots_after : List ℕ) (after : ℕ) → Type 0
Some kind c set members first t j out slots n out_after slots_after after =
    (S : Set) (cs lists : List ℕ) (k count : ℕ) → Stands S set first count t → Ready S cs members lists slots n →
    Reached S cs members lists k kind c t j out slots n out_after slots_after after

module _ (kind c : ℕ) (rests : Rests kind c) (set members : List ℕ) (first t : ℕ) (row : t < 4) (out slots : List ℕ) (n : ℕ) where
  pub some-none : Some kind c set members first t 0 out slots n out slots n
  some-none S cs lists k count stands ready = reached-none S cs members lists k kind c t rests out slots n ready

  -- member j is statement i, and of the class
  pub some_more : (j i : ℕ) (out1 slots1 : List ℕ) (n1 : ℕ) (out2 slots2 : List ℕ) (n2 : ℕ) →
      ((S : Set) → Members S members → j < length (members_of S c t)) → ((S : Set) → Members S members → i ≡ get_or (members_of S c t) j 0) →
      Some kind c set members first t j out slots n out1 slots1 n1 →
      ((S : Set) (cs : List ℕ) (k count : ℕ) → Stands S set first count t → i < count → i < 32 → belongs S c t i ≡ true → ((s : Slot) → place_of slots1 s < n1) → Others kind slots slots1 →
      Writes (entry S cs k (kind_at kind) t i) out1 slots1 n1 out2 slots2 n2) →
      Some kind c set members first t (j + 1) out slots n out2 slots2 n2
  some_more j i out1 slots1 n1 out2 slots2 n2 inside is some one S cs lists k count stands ready =
      let listed = ready.by_class in
      let r = some S cs lists k count stands ready in
      let less : i < S.count t = let a = members-below S c t (S.count t) j (inside S listed) in let b = is S listed in omega arith in
      let least : i < count = let d = stands.count_is in omega arith in
      let small : i < 32 = let d = listed.few t row in omega arith in
      let mine : belongs S c t i ≡ true = ap (belongs S c t) (is S listed) ∙ members-belong S c t (S.count t) j (inside S listed) in
      reached-more S cs members lists k kind c t rests out slots n j i out1 slots1 n1 out2 slots2 n2 (is S listed) r (one S cs k count stands least small mine r.ready.below r.others)

  -- those of all members are the line
  pub some-line : kind < kind_count → of_statement kind ≡ true → (j : ℕ) → ((S : Set) → Members S members → j ≡ length (members_of S c t)) → (out1 slots1 : List ℕ) (n1 : ℕ) →
      Some kind c set members first t j out slots n out1 slots1 n1 → Listed (kind_at kind) set members first t out slots n out1 slots1 n1
  some-line h of j all out1 slots1 n1 some S cs lists k count stands ready =
      subst (λ (m : ℕ). Writes (upto (entry S cs k (kind_at kind) t) m) out slots n out1 slots1 n1) (statement-columns S cs t k kind h of)
      ((some S cs lists k count stands ready).reached (S.count t) (omega arith) (sym (all S ready.by_class)))

-- ---- a thread of a set

-- the line of a kind by number, from what its loop ensures
pub listed_by : (set : List ℕ) (layout : Layout) (members cs lists : List ℕ) (k kind m t : ℕ) (out slots : List ℕ) (n : ℕ) (after slots_after : List ℕ) (r : ℕ) → kind ≡ m →
    Listed (kind_at m) set members (get_or layout.starts t 0) t out slots n after slots_after r → Ready (set_by set layout) cs members lists slots n →
    Writes (line (set_by set layout) cs k (kind_at kind) t) out slots n after slots_after r
listed_by set layout members cs lists k kind m t out slots n after slots_after r e written ready =
    line_at (set_by set layout) cs k kind m t e out slots n after slots_after r
    (written (set_by set layout) cs lists k (get_or layout.counts t 0) (stands_by set layout t (get_or layout.starts t 0) refl) ready)
