-- The word that evaluation gives a record is that of its value, where it is so of the records before it. Assumes nothing.
use Prim.Native.Nat.{ℕ, zero, suc, ◌<◌}
use mathlib.Core.Path.{◌≡◌, refl, ap, ap₂, sym, ◌∙◌}
use mathlib.Core.Bool.{Bool, true, false, not, cond, ◌&&◌, ◌||◌}
use native.Mathlib.Omega.{arith}
use borrow.Author.Tests.{eq-eqb, ne_eqb}
use lib.Dec.{eqb, leb}
use Rattle.base.proofs.Choice.{chosen, passed, cond-ap, cond_both}
use Rattle.base.specs.Words.{plus, minus, times, top_bit}
use Rattle.table.specs.Formulas.{bit_sort, memory_sort, CHOICE, FIRST, CONSTANT, NOT, AND, OR, EQUAL, IF, PLUS, MINUS, TIMES, READ, WRITE, TOP, CONSTRAINT, GOAL}
use Rattle.table.specs.Values.{Assignment, Value, nil, bit, word, memory, as_bit, as_word, as_memory, memory_with, value_of, is_demand}
use Rattle.table.specs.declared.Formula.{Formula}
use Rattle.evaluation.specs.Evaluations.{is_false, word_of}
use Rattle.evaluation.proofs.Views.{Operand, View, is_choice, is_first, is_bit, is_word, is_not, is_and, is_or, is_equal, is_if, is_plus, is_minus, is_times, is_read, is_write, is_top, is_constraint, is_goal}

-- ---- the value of a record by its operation

module _ (g : Assignment) (values : ℕ → Value) (f : Formula) where
  at : (k : ℕ) → f.operation ≡ k →
      value_of g values f ≡ value_of g values (record { operation = k; sort = f.sort; constant = f.constant; a = f.a; b = f.b; c = f.c })
  at k e = ap (λ (o : ℕ). value_of g values (record { operation = o; sort = f.sort; constant = f.constant; a = f.a; b = f.b; c = f.c })) e

  choice-value : f.operation ≡ CHOICE → value_of g values f ≡ bit (g.choice f.a f.b f.c)
  unfolding value_of
  choice-value e = at 1 e

  pub first-value : f.operation ≡ FIRST → value_of g values f ≡ memory g.first
  unfolding value_of
  first-value e = at 2 e

  bit-value : f.operation ≡ CONSTANT → f.sort ≡ bit_sort → value_of g values f ≡ bit (eqb f.constant 1)
  unfolding value_of
  bit-value e s = at 3 e ∙ chosen _ _ (eq-eqb _ _ s)

  word_value : f.operation ≡ CONSTANT → (f.sort ≡ bit_sort → ⊥) → value_of g values f ≡ word f.constant
  unfolding value_of
  word_value e s = at 3 e ∙ passed _ _ (ne_eqb _ _ s)

  not-value : f.operation ≡ NOT → value_of g values f ≡ bit (not (as_bit (values f.a)))
  unfolding value_of
  not-value e = at 4 e

  and_value : f.operation ≡ AND → value_of g values f ≡ bit (as_bit (values f.a) && as_bit (values f.b))
  unfolding value_of
  and_value e = at 5 e

  or_value : f.operation ≡ OR → value_of g values f ≡ bit (as_bit (values f.a) || as_bit (values f.b))
  unfolding value_of
  or_value e = at 6 e

  equal_value : f.operation ≡ EQUAL → value_of g values f ≡ bit (eqb (as_word (values f.a)) (as_word (values f.b)))
  unfolding value_of
  equal_value e = at 7 e

  pub if_value : f.operation ≡ IF → value_of g values f ≡ cond (as_bit (values f.a)) (values f.b) (values f.c)
  unfolding value_of
  if_value e = at 8 e

  plus-value : f.operation ≡ PLUS → value_of g values f ≡ word (plus (as_word (values f.a)) (as_word (values f.b)))
  unfolding value_of
  plus-value e = at 9 e

  minus-value : f.operation ≡ MINUS → value_of g values f ≡ word (minus (as_word (values f.a)) (as_word (values f.b)))
  unfolding value_of
  minus-value e = at 10 e

  times-value : f.operation ≡ TIMES → value_of g values f ≡ word (times (as_word (values f.a)) (as_word (values f.b)))
  unfolding value_of
  times-value e = at 11 e

  pub read-value : f.operation ≡ READ → value_of g values f ≡ word (as_memory (values f.a) (as_word (values f.b)))
  unfolding value_of
  read-value e = at 12 e

  pub write_value : f.operation ≡ WRITE →
      value_of g values f ≡ memory (memory_with (as_memory (values f.a)) (as_word (values f.b)) (as_word (values f.c)))
  unfolding value_of
  write_value e = at 13 e

  top_value : f.operation ≡ TOP → value_of g values f ≡ bit (top_bit (as_word (values f.a)))
  unfolding value_of
  top_value e = at 14 e

  constraint-value : f.operation ≡ CONSTRAINT → value_of g values f ≡ nil
  unfolding value_of
  constraint-value e = at 15 e

  goal-value : f.operation ≡ GOAL → value_of g values f ≡ nil
  unfolding value_of
  goal-value e = at 16 e

-- ---- it depends only on the records before it

module _ (g : Assignment) (sorts : ℕ → ℕ) (n : ℕ) (f : Formula) (values others : ℕ → Value) (same : (i : ℕ) → i < n → values i ≡ others i) where
  pub local : View sorts n f → value_of g values f ≡ value_of g others f
  local (is_choice e s) = choice-value g values f e ∙ sym (choice-value g others f e)
  local (is_first e s) = first-value g values f e ∙ sym (first-value g others f e)
  local (is_bit e s k) = bit-value g values f e s ∙ sym (bit-value g others f e s)
  local (is_word e s) =
      let no : f.sort ≡ bit_sort → ⊥ = λ (t : f.sort ≡ 1). omega arith in
      word_value g values f e no ∙ sym (word_value g others f e no)
  local (is_not e s a) = not-value g values f e ∙ (ap (λ (v : Value). bit (not (as_bit v))) (same f.a a.0) ∙ sym (not-value g others f e))
  local (is_and e s a b) =
      and_value g values f e ∙ (ap₂ (λ (v w : Value). bit (as_bit v && as_bit w)) (same f.a a.0) (same f.b b.0) ∙ sym (and_value g others f e))
  local (is_or e s a b) =
      or_value g values f e ∙ (ap₂ (λ (v w : Value). bit (as_bit v || as_bit w)) (same f.a a.0) (same f.b b.0) ∙ sym (or_value g others f e))
  local (is_equal e s a b) =
      equal_value g values f e ∙ (ap₂ (λ (v w : Value). bit (eqb (as_word v) (as_word w))) (same f.a a) (same f.b b) ∙ sym (equal_value g others f e))
  local (is_if e a b c) =
      if_value g values f e
      ∙ ((λ z. cond (as_bit (same f.a a.0 z)) (same f.b b.0 z) (same f.c c.0 z)) ∙ sym (if_value g others f e))
  local (is_plus e s a b) =
      plus-value g values f e ∙ (ap₂ (λ (v w : Value). word (plus (as_word v) (as_word w))) (same f.a a) (same f.b b) ∙ sym (plus-value g others f e))
  local (is_minus e s a b) =
      minus-value g values f e ∙ (ap₂ (λ (v w : Value). word (minus (as_word v) (as_word w))) (same f.a a) (same f.b b) ∙ sym (minus-value g others f e))
  local (is_times e s a b) =
      times-value g values f e ∙ (ap₂ (λ (v w : Value). word (times (as_word v) (as_word w))) (same f.a a) (same f.b b) ∙ sym (times-value g others f e))
  local (is_read e s a b) =
      read-value g values f e ∙ (ap₂ (λ (v w : Value). word (as_memory v (as_word w))) (same f.a a.0) (same f.b b) ∙ sym (read-value g others f e))
  local (is_write e s a b c) =
      write_value g values f e
      ∙ ((λ z. memory (memory_with (as_memory (same f.a a.0 z)) (as_word (same f.b b z)) (as_word (same f.c c z)))) ∙ sym (write_value g others f e))
  local (is_top e s a) = top_value g values f e ∙ (ap (λ (v : Value). bit (top_bit (as_word v))) (same f.a a) ∙ sym (top_value g others f e))
  local (is_constraint e s a) = constraint-value g values f e ∙ sym (constraint-value g others f e)
  local (is_goal e s a) = goal-value g values f e ∙ sym (goal-value g others f e)

-- ---- bits

-- a value whose word is that of its bit
abbrev pub IsBit : Value → Type 0
IsBit v = as_word v ≡ cond (as_bit v) 1 0

pub bit-one : (v : Value) → IsBit v → eqb (as_word v) 1 ≡ as_bit v
bit-one v e = ap (λ (w : ℕ). eqb w 1) e ∙ go (as_bit v)
  where
    go : (b : Bool) → eqb (cond b 1 0) 1 ≡ b
    go true = refl
    go false = refl

bit-zero : (v : Value) → IsBit v → eqb (as_word v) 0 ≡ not (as_bit v)
bit-zero v e = ap (λ (w : ℕ). eqb w 0) e ∙ go (as_bit v)
  where
    go : (b : Bool) → eqb (cond b 1 0) 0 ≡ not b
    go true = refl
    go false = refl

abbrev flag : Bool → ℕ
flag b = cond b 1 0

below_two : (k : ℕ) → k < 2 → k ≡ flag (eqb k 1)
below_two zero h = refl
below_two (suc zero) h = refl
below_two (suc (suc k)) h = absurd (omega arith)

module _ (g : Assignment) (sorts : ℕ → ℕ) (n : ℕ) (f : Formula) (values : ℕ → Value) (bits : (i : ℕ) → i < n → sorts i ≡ bit_sort → IsBit (values i)) where
  -- a record of that sort has a bit
  pub bit-sorted : f.sort ≡ bit_sort → View sorts n f → IsBit (value_of g values f)
  bit-sorted t (is_choice e s) = rw (choice-value g values f e) refl
  bit-sorted t (is_first e s) = rw (first-value g values f e) refl
  bit-sorted t (is_bit e s k) = rw (bit-value g values f e s) refl
  bit-sorted t (is_word e s) = absurd (omega arith)
  bit-sorted t (is_not e s a) = rw (not-value g values f e) refl
  bit-sorted t (is_and e s a b) = rw (and_value g values f e) refl
  bit-sorted t (is_or e s a b) = rw (or_value g values f e) refl
  bit-sorted t (is_equal e s a b) = rw (equal_value g values f e) refl
  bit-sorted t (is_if e a b c) =
      rw (if_value g values f e)
      (cond_both IsBit (as_bit (values f.a)) {x = values f.b} {y = values f.c} (bits f.b b.0 (b.1 ∙ t)) (bits f.c c.0 (c.1 ∙ t)))
  bit-sorted t (is_plus e s a b) = absurd (omega arith)
  bit-sorted t (is_minus e s a b) = absurd (omega arith)
  bit-sorted t (is_times e s a b) = absurd (omega arith)
  bit-sorted t (is_read e s a b) = absurd (omega arith)
  bit-sorted t (is_write e s a b c) = absurd (omega arith)
  bit-sorted t (is_top e s a) = rw (top_value g values f e) refl
  bit-sorted t (is_constraint e s a) = absurd (omega arith)
  bit-sorted t (is_goal e s a) = absurd (omega arith)

  -- ---- words

  module _ (words : ℕ → ℕ) (agree : (i : ℕ) → i < n → words i ≡ as_word (values i)) where
    one-there : (i : ℕ) → Operand sorts n bit_sort i → eqb (words i) 1 ≡ as_bit (values i)
    one-there i o = ap (λ (w : ℕ). eqb w 1) (agree i o.0) ∙ bit-one (values i) (bits i o.0 o.1)

    -- a constraint or goal that is 0
    pub false-agrees : View sorts n f → is_false words f.operation f.a ≡ (is_demand f.operation && not (as_bit (values f.a)))
    false-agrees view = go view
      where
        no : (k : ℕ) → is_demand k ≡ false → f.operation ≡ k → is_false words f.operation f.a ≡ (is_demand f.operation && not (as_bit (values f.a)))
        no k d e =
            let p : is_demand f.operation ≡ false = ap is_demand e ∙ d in
            ap (λ (b : Bool). b && not (eqb (words f.a) 1)) p ∙ sym (ap (λ (b : Bool). b && not (as_bit (values f.a))) p)

        go : View sorts n f → is_false words f.operation f.a ≡ (is_demand f.operation && not (as_bit (values f.a)))
        go (is_choice e s) = no 1 refl e
        go (is_first e s) = no 2 refl e
        go (is_bit e s k) = no 3 refl e
        go (is_word e s) = no 3 refl e
        go (is_not e s a) = no 4 refl e
        go (is_and e s a b) = no 5 refl e
        go (is_or e s a b) = no 6 refl e
        go (is_equal e s a b) = no 7 refl e
        go (is_if e a b c) = no 8 refl e
        go (is_plus e s a b) = no 9 refl e
        go (is_minus e s a b) = no 10 refl e
        go (is_times e s a b) = no 11 refl e
        go (is_read e s a b) = no 12 refl e
        go (is_write e s a b c) = no 13 refl e
        go (is_top e s a) = no 14 refl e
        go (is_constraint e s a) = ap (λ (b : Bool). is_demand f.operation && not b) (one-there f.a a)
        go (is_goal e s a) = ap (λ (b : Bool). is_demand f.operation && not b) (one-there f.a a)

    module _ (read : ℕ → ℕ → ℕ) (reads : (m x : ℕ) → m < n → sorts m ≡ memory_sort → read m x ≡ as_memory (values m) x) where
      abbrev word_by : ℕ → ℕ
      word_by o = word_of g words read o f.constant f.a f.b f.c

      pub word-agrees : View sorts n f → word_of g words read f.operation f.constant f.a f.b f.c ≡ as_word (value_of g values f)
      unfolding word_of
      word-agrees (is_choice e s) = ap word_by e ∙ sym (ap as_word (choice-value g values f e))
      word-agrees (is_first e s) = ap word_by e ∙ sym (ap as_word (first-value g values f e))
      word-agrees (is_bit e s k) = ap word_by e ∙ (below_two f.constant k ∙ sym (ap as_word (bit-value g values f e s)))
      word-agrees (is_word e s) =
          let no : f.sort ≡ bit_sort → ⊥ = λ (t : f.sort ≡ 1). omega arith in
          ap word_by e ∙ sym (ap as_word (word_value g values f e no))
      word-agrees (is_not e s a) =
          ap word_by e ∙ (ap flag (ap (λ (w : ℕ). eqb w 0) (agree f.a a.0) ∙ bit-zero (values f.a) (bits f.a a.0 a.1))
          ∙ sym (ap as_word (not-value g values f e)))
      word-agrees (is_and e s a b) =
          ap word_by e ∙ (ap₂ (λ (x y : Bool). flag (x && y)) (one-there f.a a) (one-there f.b b) ∙ sym (ap as_word (and_value g values f e)))
      word-agrees (is_or e s a b) =
          ap word_by e ∙ (ap₂ (λ (x y : Bool). flag (x || y)) (one-there f.a a) (one-there f.b b) ∙ sym (ap as_word (or_value g values f e)))
      word-agrees (is_equal e s a b) =
          ap word_by e ∙ (ap₂ (λ (x y : ℕ). flag (eqb x y)) (agree f.a a) (agree f.b b) ∙ sym (ap as_word (equal_value g values f e)))
      word-agrees (is_if e a b c) =
          ap word_by e
          ∙ ((λ z. cond (one-there f.a a z) (agree f.b b.0 z) (agree f.c c.0 z))
          ∙ (sym (cond-ap as_word (as_bit (values f.a)) (values f.b) (values f.c)) ∙ sym (ap as_word (if_value g values f e))))
      word-agrees (is_plus e s a b) = ap word_by e ∙ (ap₂ plus (agree f.a a) (agree f.b b) ∙ sym (ap as_word (plus-value g values f e)))
      word-agrees (is_minus e s a b) = ap word_by e ∙ (ap₂ minus (agree f.a a) (agree f.b b) ∙ sym (ap as_word (minus-value g values f e)))
      word-agrees (is_times e s a b) = ap word_by e ∙ (ap₂ times (agree f.a a) (agree f.b b) ∙ sym (ap as_word (times-value g values f e)))
      word-agrees (is_read e s a b) =
          ap word_by e
          ∙ (ap (read f.a) (agree f.b b) ∙ (reads f.a (as_word (values f.b)) a.0 a.1 ∙ sym (ap as_word (read-value g values f e))))
      word-agrees (is_write e s a b c) = ap word_by e ∙ sym (ap as_word (write_value g values f e))
      word-agrees (is_top e s a) = ap word_by e ∙ (ap (λ (x : ℕ). flag (leb 32768 x)) (agree f.a a) ∙ sym (ap as_word (top_value g values f e)))
      word-agrees (is_constraint e s a) = ap word_by e ∙ sym (ap as_word (constraint-value g values f e))
      word-agrees (is_goal e s a) = ap word_by e ∙ sym (ap as_word (goal-value g values f e))
