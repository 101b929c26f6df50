-- A formed table's records by index: their views, their values among the others, bits, and the cells of memories. Assumes nothing.
use Prim.Native.Nat.{ℕ, zero, suc, ◌+◌, ◌-◌, ◌≤◌, ◌<◌}
use mathlib.Core.Path.{◌≡◌, refl, ap, sym, ◌∙◌, subst}
use mathlib.Core.Bool.{Bool, true, false, cond, ◌||◌}
use mathlib.Core.List.{List, [], ◌∷◌}
use native.Mathlib.Decide.{ℕ_discrete}
use native.Mathlib.Omega.{arith}
use borrow.Author.Tests.{eq-eqb, ne_eqb}
use lib.Dec.{eqb}
use lib.ListN.{length}
use Rattle.base.proofs.Choice.{chosen, passed, and_true, and_false, and_right_false, and_left, and_right}
use Rattle.table.specs.Formulas.{bit_sort, memory_sort, WRITE, IF}
use Rattle.table.specs.Tables.{formed, all_formed}
use Rattle.table.specs.Values.{Assignment, Value, as_bit, as_word, as_memory, changed, value_of, values_from, values_of, nil}
use Rattle.table.specs.declared.Formula.{Formula}
use Rattle.table.proofs.Meaning.{stays}
use Rattle.evaluation.specs.Evaluations.{record_at, cell_back}
use Rattle.evaluation.proofs.Backwards.{back-hit, back-first, back_on}
use Rattle.evaluation.proofs.Views.{Operand, View, is_choice, is_first, is_bit, is_word, is_not, is_and, is_or, is_equal, is_if, is_plus, is_minus, is_times, is_read, is_write, is_top, is_constraint, is_goal, SmallChoice, Seen, view_of, on-memory}
use Rattle.evaluation.proofs.Words.{local, IsBit, bit-one, bit-sorted, first-value, if_value, write_value}

-- ---- views

-- sorts that agree on the records before it
view_moves : (sorts others : ℕ → ℕ) (n : ℕ) (f : Formula) → ((i : ℕ) → i < n → others i ≡ sorts i) → View sorts n f → View others n f
view_moves sorts others n f h view = go view
  where
    moved : (sort i : ℕ) → Operand sorts n sort i → Operand others n sort i
    moved sort i o = (o.0, h i o.0 ∙ o.1)

    go : View sorts n f → View others n f
    go (is_choice e s) = is_choice e s
    go (is_first e s) = is_first e s
    go (is_bit e s k) = is_bit e s k
    go (is_word e s) = is_word e s
    go (is_not e s a) = is_not e s (moved bit_sort f.a a)
    go (is_and e s a b) = is_and e s (moved bit_sort f.a a) (moved bit_sort f.b b)
    go (is_or e s a b) = is_or e s (moved bit_sort f.a a) (moved bit_sort f.b b)
    go (is_equal e s a b) = is_equal e s a b
    go (is_if e a b c) = is_if e (moved bit_sort f.a a) (moved f.sort f.b b) (moved f.sort f.c c)
    go (is_plus e s a b) = is_plus e s a b
    go (is_minus e s a b) = is_minus e s a b
    go (is_times e s a b) = is_times e s a b
    go (is_read e s a b) = is_read e s (moved memory_sort f.a a) b
    go (is_write e s a b c) = is_write e s (moved memory_sort f.a a) b c
    go (is_top e s a) = is_top e s a
    go (is_constraint e s a) = is_constraint e s (moved bit_sort f.a a)
    go (is_goal e s a) = is_goal e s (moved bit_sort f.a a)

-- every choice bit's step and thread fit their bytes
abbrev pub SmallChoices : List Formula → Type 0
SmallChoices table = (j : ℕ) → j < length table → SmallChoice (record_at table j)

module _ (final : ℕ → ℕ) where
  views-from : (table : List Formula) (n : ℕ) (sorts : ℕ → ℕ) → all_formed sorts n table ≡ true → ((i : ℕ) → i < n → final i ≡ sorts i) →
      ((j : ℕ) → j < length table → final (n + j) ≡ (record_at table j).sort) →
      (j : ℕ) → j < length table → Seen final (n + j) (record_at table j)
  unfolding all_formed
  views-from [] n sorts h same there j l = absurd (omega arith)
  views-from (f ∷ table) n sorts h same there zero l =
      let p = view_of sorts n f (and_left (formed sorts n f) (all_formed (changed sorts n f.sort) (suc n) table) h) in
      let e : n ≡ n + 0 = omega arith in
      subst (λ (m : ℕ). Seen final m f) e (view_moves sorts final n f same p.0, p.1)
  views-from (f ∷ table) n sorts h same there (suc j) l =
      let e : suc n + j ≡ n + suc j = omega arith in
      subst (λ (m : ℕ). Seen final m (record_at table j)) e
      (views-from table (suc n) (changed sorts n f.sort)
      (and_right (formed sorts n f) (all_formed (changed sorts n f.sort) (suc n) table) h)
      (sorted_so_far (there 0 (omega arith)))
      (λ i (k : i < length table). let d : suc n + i ≡ n + suc i = omega arith in ap final d ∙ there (suc i) (omega arith))
      j (omega arith))
    where
      sorted_so_far : final (n + 0) ≡ f.sort → (i : ℕ) → i < suc n → final i ≡ changed sorts n f.sort i
      sorted_so_far d i k = elim (ℕ_discrete i n) [
        | yes e ↦ (let q : i ≡ n + 0 = omega arith in ap final q) ∙ (d ∙ sym (chosen _ _ (eq-eqb i n e)))
        | no r ↦ same i (omega arith) ∙ sym (passed _ _ (ne_eqb i n r))
      ]

-- the sorts of a table's records
abbrev pub sort_at : List Formula → ℕ → ℕ
sort_at table j = (record_at table j).sort

pub views : (table : List Formula) → all_formed (λ i. 0) 0 table ≡ true → (j : ℕ) → j < length table → Seen (sort_at table) j (record_at table j)
views table h j l =
    let e : 0 + j ≡ j = omega arith in
    subst (λ (m : ℕ). Seen (sort_at table) m (record_at table j)) e
    (views-from (sort_at table) table 0 (λ i. 0) h (λ i (k : i < 0). absurd (omega arith))
    (λ i k. let d : 0 + i ≡ i = omega arith in ap (sort_at table) d) j l)

-- ---- values

module _ (g : Assignment) where
  agree-from : (sorts : ℕ → ℕ) (table : List Formula) (n : ℕ) (values : ℕ → Value) →
      ((j : ℕ) → j < length table → View sorts (n + j) (record_at table j)) →
      (j : ℕ) → j < length table → values_from g n values table (n + j) ≡ value_of g (values_from g n values table) (record_at table j)
  unfolding values_from
  agree-from sorts [] n values view j l = absurd (omega arith)
  agree-from sorts (f ∷ table) n values view zero l =
      let e : n + 0 ≡ n = omega arith in
      let rest = values_from g (suc n) (changed values n (value_of g values f)) table in
      ap rest e ∙ (stays g table (suc n) _ n (omega arith) ∙ (chosen _ _ (eq-eqb n n refl)
      ∙ local g sorts n f values rest
      (λ i (h : i < n). sym (stays g table (suc n) _ i (omega arith) ∙ passed _ _ (ne_eqb i n (omega arith))))
      (subst (λ (m : ℕ). View sorts m f) e (view 0 (omega arith)))))
  agree-from sorts (f ∷ table) n values view (suc j) l =
      let e : n + suc j ≡ suc n + j = omega arith in
      let rest = values_from g (suc n) (changed values n (value_of g values f)) table in
      ap rest e
      ∙ agree-from sorts table (suc n) (changed values n (value_of g values f))
      (λ i (h : i < length table). let d : n + suc i ≡ suc n + i = omega arith in subst (λ (m : ℕ). View sorts m (record_at table i)) d (view (suc i) (omega arith)))
      j (omega arith)

  -- each record of a whole table has its value by the others'
  pub agree : (table : List Formula) → ((j : ℕ) → j < length table → View (sort_at table) j (record_at table j)) →
      (j : ℕ) → j < length table → values_of g table j ≡ value_of g (values_of g table) (record_at table j)
  agree table view j h =
      let e : j ≡ 0 + j = omega arith in
      ap (values_of g table) e
      ∙ agree-from (sort_at table) table 0 (λ i. nil)
      (λ k (l : k < length table). let d : k ≡ 0 + k = omega arith in subst (λ (m : ℕ). View (sort_at table) m (record_at table k)) d (view k l)) j h

-- ---- a table whose records are viewed, with values that agree

module _ (g : Assignment) (size : ℕ) (records : ℕ → Formula) (values : ℕ → Value)
    (view : (j : ℕ) → j < size → View (λ i. (records i).sort) j (records j))
    (agree : (j : ℕ) → j < size → values j ≡ value_of g values (records j)) where
  bits_below : (k j : ℕ) → j < k → j < size → (records j).sort ≡ bit_sort → IsBit (values j)
  bits_below zero j h l s = absurd (omega arith)
  bits_below (suc k) j h l s =
      subst IsBit (sym (agree j l))
      (bit-sorted g (λ i. (records i).sort) j (records j) values (λ i (q : i < j) t. bits_below k i (omega arith) (omega arith) t) s (view j l))

  pub bits : (j : ℕ) → j < size → (records j).sort ≡ bit_sort → IsBit (values j)
  bits j l s = bits_below (suc j) j (omega arith) l s

  -- the words of the records below n are there
  module _ (n : ℕ) (few : n ≤ size) (formulas : ℕ → Formula) (shown : (j : ℕ) → j < size → formulas j ≡ records j)
      (words : ℕ → ℕ) (known : (j : ℕ) → j < n → words j ≡ as_word (values j)) where
    less : (left : ℕ) → suc left - 1 ≡ left
    less left = omega arith

    -- the cell of the memory behind is known
    write_cell : (left m x : ℕ) (p : m < size) → m < n → (records m).operation ≡ WRITE → (records m).b < m → (records m).c < m →
        cell_back g.first formulas words left (records m).a x ≡ as_memory (values (records m).a) x →
        cell_back g.first formulas words (suc left) m x ≡ as_memory (values m) x
    write_cell left m x p l e b c back =
        go (eqb x (words (records m).b)) refl ∙ sym (ap (λ (v : Value). as_memory v x) (agree m p ∙ write_value g values (records m) e))
      where
        same : eqb x (words (records m).b) ≡ eqb x (as_word (values (records m).b))
        same = ap (eqb x) (known (records m).b (omega arith))

        go : (d : Bool) → eqb x (words (records m).b) ≡ d → cell_back g.first formulas words (suc left) m x
            ≡ cond (eqb x (as_word (values (records m).b))) (as_word (values (records m).c)) (as_memory (values (records m).a) x)
        go true q =
            back-hit g.first formulas words m x (records m) (sym (shown m p)) (suc left) (words (records m).b) (omega arith) refl
            (and_true (eq-eqb _ _ e) q)
            ∙ (known (records m).c (omega arith) ∙ sym (chosen _ _ (sym same ∙ q)))
        go false q =
            back_on g.first formulas words m x (records m) (sym (shown m p)) (suc left) (words (records m).b) (omega arith) refl
            (and_right_false (eqb (records m).operation WRITE) q)
            (ap (λ (o : ℕ). eqb o WRITE || eqb o IF) e)
            ∙ ((λ z. cell_back g.first formulas words (less left z)
            (chosen (records m).a (cond (eqb (words (records m).a) 1) (records m).b (records m).c) (eq-eqb (records m).operation WRITE e) z) x)
            ∙ (back ∙ sym (passed _ _ (sym same ∙ q))))

    if_cell : (left m x : ℕ) (p : m < size) → m < n → (records m).operation ≡ IF → (records m).a < m → (records (records m).a).sort ≡ bit_sort →
        cell_back g.first formulas words left (records m).b x ≡ as_memory (values (records m).b) x →
        cell_back g.first formulas words left (records m).c x ≡ as_memory (values (records m).c) x →
        cell_back g.first formulas words (suc left) m x ≡ as_memory (values m) x
    if_cell left m x p l e a s one other =
        back_on g.first formulas words m x (records m) (sym (shown m p)) (suc left) (words (records m).b) (omega arith) refl
        (and_false _ (ne_eqb _ _ (λ (d : (records m).operation ≡ 13). omega arith)))
        (ap (λ (o : ℕ). eqb o WRITE || eqb o IF) e)
        ∙ ((λ z. cell_back g.first formulas words (less left z)
        ((passed (records m).a (cond (eqb (words (records m).a) 1) (records m).b (records m).c)
        (ne_eqb (records m).operation WRITE (λ (d : (records m).operation ≡ 13). omega arith))
        ∙ ap (λ (d : Bool). cond d (records m).b (records m).c) test) z) x)
        ∙ (either-cell (as_bit (values (records m).a))
        ∙ sym (ap (λ (v : Value). as_memory v x) (agree m p ∙ if_value g values (records m) e))))
      where
        test : eqb (words (records m).a) 1 ≡ as_bit (values (records m).a)
        test = ap (λ (w : ℕ). eqb w 1) (known (records m).a (omega arith)) ∙ bit-one (values (records m).a) (bits (records m).a (omega arith) s)

        either-cell : (d : Bool) → cell_back g.first formulas words left (cond d (records m).b (records m).c) x
            ≡ as_memory (cond d (values (records m).b) (values (records m).c)) x
        either-cell true = one
        either-cell false = other

    pub cells : (left m x : ℕ) → m < left → m < n → (records m).sort ≡ memory_sort → cell_back g.first formulas words left m x ≡ as_memory (values m) x
    cells zero m x h l s = absurd (omega arith)
    cells (suc left) m x h l s =
        let p : m < size = omega arith in
        let back : (k : ℕ) → k < m → (records k).sort ≡ memory_sort → cell_back g.first formulas words left k x ≡ as_memory (values k) x =
        λ k (q : k < m) t. cells left k x (omega arith) (omega arith) t in
        on-memory (λ i. (records i).sort) m (records m) s (view m p)
        (λ e.
        back-first g.first formulas words m x (records m) (sym (shown m p)) (suc left) (words (records m).b) (omega arith) refl
        (and_false _ (ne_eqb _ _ (λ (d : (records m).operation ≡ 13). omega arith)))
        (ap (λ (o : ℕ). eqb o WRITE || eqb o IF) e)
        ∙ sym (ap (λ (v : Value). as_memory v x) (agree m p ∙ first-value g values (records m) e)))
        (λ e a b c. write_cell left m x p l e b c (back (records m).a a.0 a.1))
        (λ e a b c. if_cell left m x p l e a.0 a.1 (back (records m).b b.0 b.1) (back (records m).c c.0 c.1))
