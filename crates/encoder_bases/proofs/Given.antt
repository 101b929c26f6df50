-- What trees of few records are, from the indexes of their operands. Assumes nothing.
use Prim.Native.Nat.{ℕ, suc, ◌+◌, ◌≤◌, ◌<◌}
use mathlib.Core.Path.{◌≡◌, refl, ap, sym, subst, ◌∙◌}
use mathlib.Core.Bool.{false}
use mathlib.Core.List.{List, [], ◌∷◌}
use native.Mathlib.Omega.{arith}
use native.Mathlib.Numerals.{add-one}
use lib.Dec.{eqb}
use lib.ListN.{take, get_or-eq_default}
use borrow.Author.Tests.{ne_eqb}
use Rattle.base.proofs.Choice.{passed}
use Rattle.records.specs.Numbers.{number}
use Rattle.records.specs.declared.instructions.Instruction.{Instruction}
use Rattle.records.specs.declared.instructions.Instruction.TheVariants.{Load, Store, Fence, Add, Addi, Sub, Subi, Mul, Muli, Jmp, Jz, Jnz, Js, Jns, Jnzns, Mem, Cas, Halt, Exit, Check}
use Rattle.records.specs.Sets.{Set}
use Rattle.records.specs.declared.Statement.{Statement}
use Rattle.table.specs.declared.Formula.{Formula}
use Rattle.table.specs.Formulas.{written_at}
use Rattle.table.specs.Programs.{Leaf, Unary, Binary, Ternary, ref, leaf, unary, binary, ternary, if3, and2, or2, equal2, read2, not1, top1, binary_number, binary_sort, leaf_formula, unary_formula, ternary_formula, next, root, records}
use Rattle.encoding.specs.Slots.{Kind, Slot, slot, Term, kinds, kind_at, kind_count, choice, loaded, result, test}
use Rattle.encoding.specs.Steps.{base as base_of, result_tree, test_tree}
use Rattle.encoder_slots.specs.Pieces.{WritesTree}
use Rattle.encoder_bases.specs.declared.written.WrittenTree.{WrittenTree}
use Rattle.encoder_bases.specs.SmallTrees.{SmallTree, Gives, formulas, Puts, plain, One, Three, one_record, three_records}
use Rattle.encoder_bases.proofs.Records.{record_at, written_1, written_3, written_4}

-- ---- numbers of records

module _ (at : Slot → ℕ) (n : ℕ) (t : Term) (few : SmallTree) where
  pub gives_one : (first : Formula) → One few n first → records at n t [] ≡ first ∷ [] → root at n t ≡ n → next n t ≡ suc n → Gives few at n t
  gives_one first (count, (index, same)) list own after = record {
    formulas_are = (λ z. take (count z) (same z ∷ few.second ∷ few.third ∷ few.fourth ∷ [])) ∙ sym list;
    root_is = index ∙ sym own;
    count_is = ap (λ (k : ℕ). n + k) count ∙ add-one n ∙ sym after;
    few = rw count (omega arith);
  }

  pub gives_three : (first second third : Formula) → Three few n first second third →
      records at n t [] ≡ first ∷ second ∷ third ∷ [] → root at n t ≡ n + 2 → next n t ≡ n + 3 → Gives few at n t
  gives_three first second third (count, (index, (one, (two, last)))) list own after = record {
    formulas_are = (λ z. take (count z) (one z ∷ two z ∷ last z ∷ few.fourth ∷ [])) ∙ sym list;
    root_is = index ∙ sym own;
    count_is = ap (λ (k : ℕ). n + k) count ∙ sym after;
    few = rw count (omega arith);
  }

-- ---- trees of one record

module _ (at : Slot → ℕ) (n : ℕ) (few : SmallTree) where
  pub gives_leaf : (x y : Leaf) → y ≡ x → One few n (leaf_formula x) → Gives few at n (leaf y)
  unfolding next root records
  gives_leaf x y e one = gives_one at n (leaf y) few (leaf_formula x) one (λ z. leaf_formula (e z) ∷ []) refl refl

  pub gives_unary : (o : Unary) (s : Slot) {a : ℕ} → One few n (unary_formula o a) → a ≡ at s → Gives few at n (unary o (ref s))
  unfolding next root records
  gives_unary o s {a} one p =
      gives_one at n (unary o (ref s)) few (unary_formula o a) one (λ z. unary_formula o (sym p z) ∷ []) refl refl

  pub gives_binary : (o : Binary) (s t : Slot) {operation sort a b : ℕ} → One few n (plain operation sort a b 0) →
      operation ≡ binary_number o → sort ≡ binary_sort o → a ≡ at s → b ≡ at t → Gives few at n (binary o (ref s) (ref t))
  unfolding next root records
  gives_binary o s t {operation} {sort} {a} {b} one e f p q =
      gives_one at n (binary o (ref s) (ref t)) few (plain operation sort a b 0) one
      (λ z. plain (sym e z) (sym f z) (sym p z) (sym q z) 0 ∷ []) refl refl

  pub gives_ternary : (o : Ternary) (s t u : Slot) {a b c : ℕ} → One few n (ternary_formula o a b c) → a ≡ at s → b ≡ at t → c ≡ at u →
      Gives few at n (ternary o (ref s) (ref t) (ref u))
  unfolding next root records
  gives_ternary o s t u {a} {b} {c} one p q r =
      gives_one at n (ternary o (ref s) (ref t) (ref u)) few (ternary_formula o a b c) one (λ z. ternary_formula o (sym p z) (sym q z) (sym r z) ∷ []) refl refl

  -- ---- trees of three

  -- and(s, equal(read(t, u), v))
  pub gives_swaps : (s t u v : Slot) {a b c d first second third : _} → Three few n first second third →
      first ≡ plain 12 2 b c 0 → second ≡ plain 7 1 n d 0 → third ≡ plain 5 1 a (n + 1) 0 →
      a ≡ at s → b ≡ at t → c ≡ at u → d ≡ at v →
      Gives few at n (binary and2 (ref s) (binary equal2 (binary read2 (ref t) (ref u)) (ref v)))
  unfolding next root records
  gives_swaps s t u v {a} {b} {c} {d} {first} {second} {third} all e f g p q r w =
      gives_three at n (binary and2 (ref s) (binary equal2 (binary read2 (ref t) (ref u)) (ref v))) few first second third all
      (sym ((λ z. e z ∷ f z ∷ g z ∷ []) ∙ (λ z. plain 12 2 (q z) (r z) 0 ∷ plain 7 1 n (w z) 0 ∷ plain 5 1 (p z) (add-one n z) 0 ∷ [])))
      (omega arith) (omega arith)

  -- not(or(and(s, t), u))
  pub gives_may : (s t u : Slot) {a b c first second third : _} → Three few n first second third →
      first ≡ plain 5 1 a b 0 → second ≡ plain 6 1 n c 0 → third ≡ plain 4 1 (n + 1) 0 0 →
      a ≡ at s → b ≡ at t → c ≡ at u →
      Gives few at n (unary not1 (binary or2 (binary and2 (ref s) (ref t)) (ref u)))
  unfolding next root records
  gives_may s t u {a} {b} {c} {first} {second} {third} all e f g p q r =
      gives_three at n (unary not1 (binary or2 (binary and2 (ref s) (ref t)) (ref u))) few first second third all
      (sym ((λ z. e z ∷ f z ∷ g z ∷ []) ∙ (λ z. plain 5 1 (p z) (q z) 0 ∷ plain 6 1 n (r z) 0 ∷ plain 4 1 (add-one n z) 0 0 ∷ [])))
      (omega arith) (omega arith)

  -- or(top(s), equal(s, t))
  pub gives_either : (s t : Slot) {a b first second third : _} → Three few n first second third →
      first ≡ plain 14 1 a 0 0 → second ≡ plain 7 1 a b 0 → third ≡ plain 6 1 n (n + 1) 0 →
      a ≡ at s → b ≡ at t →
      Gives few at n (binary or2 (unary top1 (ref s)) (binary equal2 (ref s) (ref t)))
  unfolding next root records
  gives_either s t {a} {b} {first} {second} {third} all e f g p q =
      gives_three at n (binary or2 (unary top1 (ref s)) (binary equal2 (ref s) (ref t))) few first second third all
      (sym ((λ z. e z ∷ f z ∷ g z ∷ []) ∙ (λ z. plain 14 1 (p z) 0 0 ∷ plain 7 1 (p z) (q z) 0 ∷ plain 6 1 n (add-one n z) 0 ∷ [])))
      (omega arith) (omega arith)

-- ---- a load

-- if(and(s, equal(t, u)), v, read(w, u))
pub gives_load : (at : Slot → ℕ) (n : ℕ) (s t u v w : Slot) {a b c d e : ℕ} {first second third fourth : Formula} →
    first ≡ plain 7 1 b c 0 → second ≡ plain 5 1 a n 0 → third ≡ plain 12 2 e c 0 → fourth ≡ plain 8 2 (n + 1) d (n + 2) →
    a ≡ at s → b ≡ at t → c ≡ at u → d ≡ at v → e ≡ at w →
    Gives (record { count = 4; root = n + 3; first = first; second = second; third = third; fourth = fourth }) at n
    (ternary (if3 2) (binary and2 (ref s) (binary equal2 (ref t) (ref u))) (ref v) (binary read2 (ref w) (ref u)))
unfolding next root records
gives_load at n s t u v w f g h k p q r o m = record {
  formulas_are =
      (λ z. f z ∷ g z ∷ h z ∷ k z ∷ [])
      ∙ (λ z. plain 7 1 (q z) (r z) 0 ∷ plain 5 1 (p z) n 0 ∷ plain 12 2 (m z) (r z) 0 ∷ plain 8 2 (add-one n z) (o z) (two z) ∷ []);
  root_is = omega arith;
  count_is = omega arith;
  few = omega arith;
}
  where
    two : n + 2 ≡ suc (suc n)
    two = omega arith

-- ---- trees written

module _ (at : Slot → ℕ) (n : ℕ) (t : Term) (out after : List ℕ) where
  puts_few : (few : SmallTree) → Gives few at n t → after ≡ written_at out n (formulas few) → Puts (record { count = few.count; root = few.root }) at n t out after
  puts_few few g e = record { written = e ∙ ap (written_at out n) g.formulas_are; root_put = g.root_is; count_put = g.count_is; few_put = g.few }

  pub puts_one : (f : Formula) → Gives (one_record n f) at n t → after ≡ record_at n f out → Puts (record { count = 1; root = n }) at n t out after
  puts_one f g e = puts_few (one_record n f) g (e ∙ written_1 out n f)

  pub puts_three : (f g h : Formula) → Gives (three_records n f g h) at n t → after ≡ record_at (n + 2) h (record_at (n + 1) g (record_at n f out)) →
      Puts (record { count = 3; root = n + 2 }) at n t out after
  puts_three f g h gives e = puts_few (three_records n f g h) gives (e ∙ written_3 out n f g h)

  pub puts_four : (f g h k : Formula) → Gives (record { count = 4; root = n + 3; first = f; second = g; third = h; fourth = k }) at n t →
      after ≡ record_at (n + 3) k (record_at (n + 2) h (record_at (n + 1) g (record_at n f out))) → Puts (record { count = 4; root = n + 3 }) at n t out after
  puts_four f g h k gives e =
      puts_few (record { count = 4; root = n + 3; first = f; second = g; third = h; fourth = k }) gives (e ∙ written_4 out n f g h k)

-- no record
pub puts_ref : (at : Slot → ℕ) (n : ℕ) (s : Slot) (out : List ℕ) {x : ℕ} → x ≡ at s → Puts (record { count = 0; root = x }) at n (ref s) out out
unfolding next root records written_at
puts_ref at n s out e = record { written = refl; root_put = e; count_put = omega arith; few_put = omega arith }

-- the same records are of a tree that is the same
pub puts_as : {r : WrittenTree} {at : Slot → ℕ} {n : ℕ} {t u : Term} {out after : List ℕ} → u ≡ t → Puts r at n t out after → Puts r at n u out after
puts_as {r} {at} {n} {t} {u} {out} {after} e p = subst (λ (x : Term). Puts r at n x out after) (sym e) p

-- ---- by number

-- the base of the kind that a number names
puts_kind : {r : WrittenTree} {at : Slot → ℕ} {n : ℕ} {out after : List ℕ} (S : Set) (cs : List ℕ) (k a b kind m : ℕ) → kind ≡ m →
    Puts r at n (base_of S cs k (kind_at m) a b) out after → Puts r at n (base_of S cs k (kind_at kind) a b) out after
puts_kind S cs k a b kind m e p = puts_as (ap (λ (x : ℕ). base_of S cs k (kind_at x) a b) e) p

-- the same where the code knows of the set only how many threads it has
abbrev pub with_threads : Set → ℕ → Set
with_threads S threads = record { threads = threads; count = S.count; statement = S.statement }

pub puts_base : {r : WrittenTree} {at : Slot → ℕ} {n : ℕ} {out after : List ℕ} (S : Set) (cs : List ℕ) (threads k a b kind m : ℕ) → S.threads ≡ threads → kind ≡ m →
    Puts r at n (base_of (with_threads S threads) cs k (kind_at m) a b) out after → Puts r at n (base_of S cs k (kind_at kind) a b) out after
puts_base S cs threads k a b kind m same e p =
    puts_kind S cs k a b kind m e (puts_as (λ z. base_of (with_threads S (same z)) cs k (kind_at m) a b) p)

-- past the last kind
pub kind_past : (kind : ℕ) → kind_count ≤ kind → kind_at kind ≡ choice
unfolding kinds
kind_past kind h = get_or-eq_default kinds choice h

pub puts_past : {r : WrittenTree} {at : Slot → ℕ} {n : ℕ} {out after : List ℕ} (S : Set) (cs : List ℕ) (threads k a b kind : ℕ) → S.threads ≡ threads → kind_count ≤ kind →
    Puts r at n (base_of (with_threads S threads) cs k choice a b) out after → Puts r at n (base_of S cs k (kind_at kind) a b) out after
puts_past S cs threads k a b kind same past p =
    puts_as (ap (λ (x : Kind). base_of S cs k x a b) (kind_past kind past) ∙ (λ z. base_of (with_threads S (same z)) cs k choice a b)) p

-- the test of a statement
pub puts_test : {r : WrittenTree} {at : Slot → ℕ} {n : ℕ} {out after : List ℕ} (S : Set) (cs : List ℕ) (k t i : ℕ) (s : Statement) → S.statement t i ≡ s →
    Puts r at n (test_tree S cs k s.number t) out after → Puts r at n (base_of S cs k test t i) out after
puts_test S cs k t i s e p = puts_as (ap (λ (x : Statement). test_tree S cs k x.number t) e) p

-- what accu becomes by the instruction of a statement
pub puts_result : {r : WrittenTree} {at : Slot → ℕ} {n : ℕ} {out after : List ℕ} (S : Set) (cs : List ℕ) (k t i : ℕ) (s : Statement) (m : ℕ) → S.statement t i ≡ s → s.number ≡ m →
    Puts r at n (result_tree S cs k m t i) out after → Puts r at n (base_of S cs k result t i) out after
puts_result S cs k t i s m e f p = puts_as (ap (λ (x : Statement). result_tree S cs k x.number t i) e ∙ ap (λ (x : ℕ). result_tree S cs k x t i) f) p

-- by one that only loads, or by none
pub result_loads : (S : Set) (cs : List ℕ) (k t i : ℕ) (x : Instruction) → (x ≡ Add → ⊥) → (x ≡ Addi → ⊥) → (x ≡ Sub → ⊥) → (x ≡ Subi → ⊥) → (x ≡ Mul → ⊥) → (x ≡ Muli → ⊥) → (x ≡ Cas → ⊥) →
    result_tree S cs k (number x) t i ≡ ref (slot loaded t i)
result_loads S cs k t i Load _ _ _ _ _ _ _ = refl
result_loads S cs k t i Store _ _ _ _ _ _ _ = refl
result_loads S cs k t i Fence _ _ _ _ _ _ _ = refl
result_loads S cs k t i Add p0 p1 p2 p3 p4 p5 p6 = absurd (p0 refl)
result_loads S cs k t i Addi p0 p1 p2 p3 p4 p5 p6 = absurd (p1 refl)
result_loads S cs k t i Sub p0 p1 p2 p3 p4 p5 p6 = absurd (p2 refl)
result_loads S cs k t i Subi p0 p1 p2 p3 p4 p5 p6 = absurd (p3 refl)
result_loads S cs k t i Mul p0 p1 p2 p3 p4 p5 p6 = absurd (p4 refl)
result_loads S cs k t i Muli p0 p1 p2 p3 p4 p5 p6 = absurd (p5 refl)
result_loads S cs k t i Jmp _ _ _ _ _ _ _ = refl
result_loads S cs k t i Jz _ _ _ _ _ _ _ = refl
result_loads S cs k t i Jnz _ _ _ _ _ _ _ = refl
result_loads S cs k t i Js _ _ _ _ _ _ _ = refl
result_loads S cs k t i Jns _ _ _ _ _ _ _ = refl
result_loads S cs k t i Jnzns _ _ _ _ _ _ _ = refl
result_loads S cs k t i Mem _ _ _ _ _ _ _ = refl
result_loads S cs k t i Cas p0 p1 p2 p3 p4 p5 p6 = absurd (p6 refl)
result_loads S cs k t i Halt _ _ _ _ _ _ _ = refl
result_loads S cs k t i Exit _ _ _ _ _ _ _ = refl
result_loads S cs k t i Check _ _ _ _ _ _ _ = refl

pub result-past : (S : Set) (cs : List ℕ) (k n t i : ℕ) → 20 ≤ n → result_tree S cs k n t i ≡ ref (slot loaded t i)
result-past S cs k n t i h =
    let past : (m : ℕ) → m < 20 → eqb n m ≡ false = λ m q. ne_eqb n m (λ e. omega arith) in
    passed _ _ (past 3 (omega arith)) ∙ passed _ _ (past 4 (omega arith)) ∙ passed _ _ (past 5 (omega arith)) ∙ passed _ _ (past 6 (omega arith))
    ∙ passed _ _ (past 7 (omega arith)) ∙ passed _ _ (past 8 (omega arith)) ∙ passed _ _ (past 16 (omega arith))

-- a base that was written is a tree written
pub put_written : (r : WrittenTree) (places : Slot → ℕ) (n : ℕ) (t : Term) (out after : List ℕ) → Puts r places n t out after → WritesTree places t out n after (n + r.count) r.root
put_written r places n t out after p = record { tree_written = p.written; tree_next = p.count_put; tree_root = p.root_put }
