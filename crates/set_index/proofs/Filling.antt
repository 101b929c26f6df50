-- Laws of the table of members while it is made: a statement is added to a row, and the other rows stay. Assumes nothing.
use Prim.Native.Nat.{ℕ, ◌+◌, ◌≤◌, ◌<◌}
use mathlib.Core.Path.{◌≡◌, refl, ap, sym, ◌∙◌, subst}
use mathlib.Core.Bool.{true, false}
use mathlib.Core.List.{List, [], ◌∷◌, ◌++◌}
use native.Mathlib.Omega.{arith}
use native.Mathlib.Decide.{dec_lt, ℕ_discrete}
use lib.ListN.{length, get_or, set, replicate, length-set, length-replicate, get_or-replicate, get_or-append, get_or-eq_default}
use lib.Seq.{get_or-set_same, get_or-set_other}
use Rattle.records.specs.Sets.{Set}
use Rattle.set_index.specs.Members.{in_class, members, members_of, row_index, Row, Members, Filled, members_length, class_count}
use Rattle.set_index.proofs.Listed.{added-length, added-last, members-few, members-more, members-none}

-- ---- rows

-- a table of zeros
pub zero-at : (n i : ℕ) → ◌≡◌ {A = ℕ} (get_or (replicate n 0) i 0) 0
zero-at n i = elim (dec_lt i n) [
  | yes h ↦ get_or-replicate n i 0 0 h
  | no h ↦
      let e : length (replicate {A = ℕ} n 0) ≡ n = length-replicate n 0 in
      get_or-eq_default (replicate n 0) 0 (omega (arith, h))
]

row-none : (n c t : ℕ) → Row (replicate n 0) c t []
row-none n c t = record { many = zero-at n (row_index c t); each = λ (j : ℕ) (h : j < 0). absurd (omega arith) }

-- the table with v added to a row that has n members
abbrev pub put : List ℕ → (row n v : ℕ) → List ℕ
put bytes row n v = set (set bytes (row + 1 + n) v) row (n + 1)

pub put-length : (bytes : List ℕ) (row n v : ℕ) → length (put bytes row n v) ≡ length bytes
put-length bytes row n v = length-set (set bytes (row + 1 + n) v) row (n + 1) ∙ length-set bytes (row + 1 + n) v

module _ (bytes : List ℕ) (d u n v : ℕ) (thread : u < 4) (room : n < 32) where
  other : (k : ℕ) → (k ≡ row_index d u → ⊥) → (k ≡ row_index d u + 1 + n → ⊥) → get_or (put bytes (row_index d u) n v) k 0 ≡ get_or bytes k 0
  other k f g = get_or-set_other (set bytes (row_index d u + 1 + n) v) (row_index d u) k (n + 1) 0 f ∙ get_or-set_other bytes (row_index d u + 1 + n) k v 0 g

  pub row_kept : (c t : ℕ) (ms : List ℕ) → t < 4 → length ms ≤ 32 → (c ≡ d → t ≡ u → ⊥) → Row bytes c t ms → Row (put bytes (row_index d u) n v) c t ms
  row_kept c t ms p few apart r = record {
    many = other (row_index c t) (λ e. away 0 0 (omega arith) (omega arith) (omega arith)) (λ e. away 0 (1 + n) (omega arith) (omega arith) (omega arith)) ∙ r.many;
    each = λ (j : ℕ) (h : j < length ms).
        other (row_index c t + 1 + j) (λ e. away (1 + j) 0 (omega arith) (omega arith) (omega arith)) (λ e. away (1 + j) (1 + n) (omega arith) (omega arith) (omega arith))
        ∙ r.each j h;
  }
    where
      away : (x y : ℕ) → x < 33 → y < 33 → row_index c t + x ≡ row_index d u + y → ⊥
      away x y a b e =
          let class-is : c ≡ d = omega arith in
          let thread-is : t ≡ u = omega arith in
          apart class-is thread-is

  pub row_more : (ms : List ℕ) → n ≡ length ms → row_index d u + 1 + n < length bytes → Row bytes d u ms → Row (put bytes (row_index d u) n v) d u (ms ++ (v ∷ []))
  row_more ms is fits r = record {
    many =
        get_or-set_same (set bytes (row_index d u + 1 + n) v) (row_index d u) (n + 1) 0 (omega (arith, length-set bytes (row_index d u + 1 + n) v))
        ∙ (ap (λ (x : ℕ). x + 1) is ∙ sym (added-length ms v));
    each = at;
  }
    where
      at : (j : ℕ) → j < length (ms ++ (v ∷ [])) → get_or (put bytes (row_index d u) n v) (row_index d u + 1 + j) 0 ≡ get_or (ms ++ (v ∷ [])) j 0
      at j h = elim (dec_lt j (length ms)) [
        | yes q ↦ other (row_index d u + 1 + j) (λ e. omega arith) (λ e. omega arith) ∙ (r.each j q ∙ sym (get_or-append ms (v ∷ []) 0 j q))
        | no q ↦
            let e : length ms ≡ j = omega (arith, added-length ms v) in
            let same : row_index d u + 1 + j ≡ row_index d u + 1 + n = omega arith in
            get_or-set_other (set bytes (row_index d u + 1 + n) v) (row_index d u) (row_index d u + 1 + j) (n + 1) 0 (λ p. omega arith)
            ∙ (ap (λ (k : ℕ). get_or (set bytes (row_index d u + 1 + n) v) k 0) same
            ∙ (get_or-set_same bytes (row_index d u + 1 + n) v 0 fits ∙ sym (added-last ms v j e)))
      ]

-- ---- the table

module _ (S : Set) (t i m : ℕ) (bytes : List ℕ) (class : m < class_count) (thread : t < 4) (column : i < 32) (f : Filled S t i m bytes) where
  -- a class more, by a table in which the row of the class has what it should and the other rows stay
  filled-by : (after : List ℕ) → length after ≡ length bytes →
      ((c u : ℕ) (ms : List ℕ) → u < 4 → length ms ≤ 32 → (c ≡ m → u ≡ t → ⊥) → Row bytes c u ms → Row after c u ms) →
      Row after m t (members S m t (i + 1)) → Filled S t i (m + 1) after
  filled-by after same stays new = record {
    whole = same ∙ f.whole;
    few = f.few;
    before = λ (c u : ℕ) (p : c < class_count) (q : u < 4) (h : u < t).
        let l = members-few S c u (S.count u) in
        let k = f.few u q in
        stays c u (members_of S c u) q (omega arith) (λ a (b : u ≡ t). omega arith) (f.before c u p q h);
    done = λ (c : ℕ) (p : c < class_count) (q : t < 4) (h : c < m + 1). elim (ℕ_discrete c m) [
      | yes e ↦ subst (λ (x : ℕ). Row after x t (members S x t (i + 1))) (sym e) new
      | no e ↦
          let l = members-few S c t (i + 1) in
          stays c t (members S c t (i + 1)) q (omega arith) (λ a b. e a) (f.done c p q (omega arith))
    ];
    due = λ (c : ℕ) (p : c < class_count) (q : t < 4) (h : m + 1 ≤ c).
        let l = members-few S c t i in
        stays c t (members S c t i) q (omega arith) (λ (a : c ≡ m) b. omega arith) (f.due c p q (omega arith));
    after = λ (c u : ℕ) (p : c < class_count) (q : u < 4) (h : t < u). stays c u [] q (omega arith) (λ a (b : u ≡ t). omega arith) (f.after c u p q h);
  }

  -- the statement does not belong to the class
  pub filled-pass : false ≡ in_class m (S.statement t i).number → Filled S t i (m + 1) bytes
  filled-pass e =
      filled-by bytes refl (λ c u ms p few apart r. r) (subst (Row bytes m t) (sym (members-more S m t i false e)) (f.due m class thread (omega arith)))

  -- how many members the class has so far
  pub filled-many : get_or bytes (row_index m t) 0 < 32
  filled-many =
      let e = (f.due m class thread (omega arith)).many in
      let l = members-few S m t i in
      omega arith

  pub filled_add : (n : ℕ) → n ≡ get_or bytes (row_index m t) 0 → true ≡ in_class m (S.statement t i).number → Filled S t i (m + 1) (put bytes (row_index m t) n i)
  filled_add n is e =
      let r = f.due m class thread (omega arith) in
      let all = f.whole in
      let l = filled-many in
      let few : n < 32 = omega arith in
      filled-by (put bytes (row_index m t) n i) (put-length bytes (row_index m t) n i)
      (λ c u ms p short apart old. row_kept bytes m t n i thread few c u ms p short apart old)
      (subst (Row (put bytes (row_index m t) n i) m t) (sym (members-more S m t i true e))
      (row_more bytes m t n i thread few (members S m t i) (is ∙ r.many) (omega arith) r))

module _ (S : Set) where
  -- the next statement
  pub filled_next : (t i : ℕ) (bytes : List ℕ) → Filled S t i 11 bytes → Filled S t (i + 1) 0 bytes
  filled_next t i bytes f = record {
    whole = f.whole;
    few = f.few;
    before = f.before;
    done = λ (c : ℕ) p q (h : c < 0). absurd (omega arith);
    due = λ (c : ℕ) (p : c < class_count) q h. f.done c p q p;
    after = f.after;
  }

  -- the next thread
  pub filled-thread : (t i : ℕ) (bytes : List ℕ) → i ≡ S.count t → Filled S t i 0 bytes → Filled S (t + 1) 0 0 bytes
  filled-thread t i bytes e f = record {
    whole = f.whole;
    few = f.few;
    before = λ (c u : ℕ) (p : c < class_count) (q : u < 4) (h : u < t + 1). elim (ℕ_discrete u t) [
      | yes same ↦
          let k : t < 4 = omega arith in
          subst (λ (x : ℕ). Row bytes c x (members_of S c x)) (sym same) (subst (λ (x : ℕ). Row bytes c t (members S c t x)) e (f.due c p k (omega arith)))
      | no other ↦ f.before c u p q (omega arith)
    ];
    done = λ (c : ℕ) p q (h : c < 0). absurd (omega arith);
    due = λ (c : ℕ) (p : c < class_count) (q : t + 1 < 4) h. subst (Row bytes c (t + 1)) (sym (members-none S c (t + 1))) (f.after c (t + 1) p q (omega arith));
    after = λ (c u : ℕ) (p : c < class_count) (q : u < 4) (h : t + 1 < u). f.after c u p q (omega arith);
  }

  module _ (few : (t : ℕ) → t < 4 → S.count t ≤ 32) where
    pub filled_none : Filled S 0 0 0 (replicate members_length 0)
    filled_none = record {
      whole = length-replicate {A = ℕ} members_length 0;
      few = few;
      before = λ (c u : ℕ) p q (h : u < 0). absurd (omega arith);
      done = λ (c : ℕ) p q (h : c < 0). absurd (omega arith);
      due = λ (c : ℕ) p q h. subst (Row (replicate members_length 0) c 0) (sym (members-none S c 0)) (row-none members_length c 0);
      after = λ (c u : ℕ) p q h. row-none members_length c u;
    }

  pub filled-all : (bytes : List ℕ) → Filled S 4 0 0 bytes → Members S bytes
  filled-all bytes f = record { whole = f.whole; few = f.few; row = λ (c t : ℕ) (p : c < class_count) (q : t < 4). f.before c t p q q }
