-- Lists of statements: how they grow from the last statement to the first. Assumes nothing.
use Prim.Native.Nat.{ℕ, ◌+◌, ◌≤◌, ◌<◌}
use mathlib.Core.Path.{◌≡◌, refl, sym, ap, ◌∙◌, subst}
use mathlib.Core.Bool.{Bool, true}
use mathlib.Core.List.{List}
use native.Mathlib.Omega.{arith}
use native.Mathlib.Decide.{ℕ_discrete, dec_lt}
use lib.ListN.{length, set, get_or, length-set}
use lib.Seq.{get_or-set_same, get_or-set_other}
use Rattle.records.specs.Sets.{Set}
use Rattle.set_index.specs.Members.{in_class, members_of}
use Rattle.set_index.proofs.Listed.{members-at, members-below, members-order}
use Rattle.set_index.specs.Lists.{Leads, Lists}

-- the same for more statements, of which those that matter were there
pub widened : (In More : ℕ → Type 0) → ((y : ℕ) → In y → More y) → (P : ℕ → Bool) (it from later : ℕ) → from ≤ later → Leads In P it from →
    ((x : ℕ) → More x → later ≤ x → P x ≡ true → In x) → Leads More P it later
widened In More keep P it from later le old back = record {
  soonest = λ (x : ℕ) m (l : later ≤ x) e. old.soonest x (back x m l e) (omega arith) e;
  belongs = λ h. let b = old.belongs h in (keep it b.0, b.1);
}

module _ (P : ℕ → ℕ → Bool) (n : ℕ) where
  -- no statement is of any list
  pub lists-none : (In : ℕ → Type 0) (head next : ℕ → ℕ) → ((p x : ℕ) → In x → P p x ≡ true → ⊥) → ((p : ℕ) → p < n → head p ≡ 32) → Lists P n In head next
  lists-none In head next none empty = record {
    heads = λ (p : ℕ) h. record {
      soonest = λ (x : ℕ) i l e. absurd (none p x i e);
      belongs = λ (b : head p < 32). let e = empty p h in absurd (omega arith);
    };
    nexts = λ (p x : ℕ) h i e. absurd (none p x i e);
    onwards = λ (p x : ℕ) h i e. absurd (none p x i e);
  }

  module _ (In More : ℕ → Type 0) (keep : (y : ℕ) → In y → More y) (head next head' next' : ℕ → ℕ) (old : Lists P n In head next) where
    -- the statements that matter and their numbers are the same
    pub lists_as : ((p y : ℕ) → p < n → More y → P p y ≡ true → In y) → ((p : ℕ) → p < n → head' p ≡ head p) →
        ((p y : ℕ) → p < n → In y → P p y ≡ true → next' y ≡ next y) → Lists P n More head' next'
    lists_as back same after = record {
      heads = λ (p : ℕ) h. subst (λ (it : ℕ). Leads More (P p) it 0) (sym (same p h))
          (widened In More keep (P p) (head p) 0 0 (omega arith) (old.heads p h) (λ x m l e. back p x h m e));
      nexts = λ (p x : ℕ) h m e. let i = back p x h m e in
          subst (λ (it : ℕ). Leads More (P p) it (x + 1)) (sym (after p x h i e))
          (widened In More keep (P p) (next x) (x + 1) (x + 1) (omega arith) (old.nexts p x h i e) (λ y k l f. back p y h k f));
      onwards = λ (p x : ℕ) h m e. let i = back p x h m e in subst (λ (it : ℕ). x < it) (sym (after p x h i e)) (old.onwards p x h i e);
    }

    -- statement i comes before the others, in list q alone
    module _ (i q : ℕ) (small : i < 32) (inside : q < n) (new : More i) (is : P q i ≡ true) (alone : (p : ℕ) → p < n → P p i ≡ true → p ≡ q)
        (later : (y : ℕ) → In y → i < y) (split : (p y : ℕ) → More y → P p y ≡ true → (y ≡ i → ⊥) → In y)
        (at-list : head' q ≡ i) (at_others : (p : ℕ) → p < n → (p ≡ q → ⊥) → head' p ≡ head p)
        (at_new : next' i ≡ head q) (at_next : (y : ℕ) → In y → next' y ≡ next y) where
      heads-more : (p : ℕ) → p < n → Leads More (P p) (head' p) 0
      heads-more p h = elim (ℕ_discrete p q) [
        | yes e ↦
            subst (λ (it : ℕ). Leads More (P p) it 0) (sym (ap head' e ∙ at-list))
            (record {
              soonest = λ (x : ℕ) m l f. elim (ℕ_discrete x i) [
                | yes g ↦ omega arith
                | no g ↦ let b = later x (split p x m f g) in omega arith
              ];
              belongs = λ b. (new, ap (λ (k : ℕ). P k i) e ∙ is);
            })
        | no e ↦
            subst (λ (it : ℕ). Leads More (P p) it 0) (sym (at_others p h e))
            (widened In More keep (P p) (head p) 0 0 (omega arith) (old.heads p h)
            (λ (x : ℕ) m l f. split p x m f (λ g. e (alone p h (ap (P p) (sym g) ∙ f)))))
      ]

      nexts-more : (p x : ℕ) → p < n → More x → P p x ≡ true → Leads More (P p) (next' x) (x + 1)
      nexts-more p x h m e = elim (ℕ_discrete x i) [
        | yes g ↦
            let list : q ≡ p = sym (alone p h (ap (P p) (sym g) ∙ e)) in
            subst (λ (it : ℕ). Leads More (P p) it (x + 1)) (sym (ap next' g ∙ (at_new ∙ ap head list)))
            (widened In More keep (P p) (head p) 0 (x + 1) (omega arith) (old.heads p h)
            (λ (y : ℕ) k (l : x + 1 ≤ y) f. split p y k f (λ (r : y ≡ i). omega arith)))
        | no g ↦
            let there = split p x m e g in
            let b = later x there in
            subst (λ (it : ℕ). Leads More (P p) it (x + 1)) (sym (at_next x there))
            (widened In More keep (P p) (next x) (x + 1) (x + 1) (omega arith) (old.nexts p x h there e)
            (λ (y : ℕ) k (l : x + 1 ≤ y) f. split p y k f (λ (r : y ≡ i). omega arith)))
      ]

      onwards-more : (p x : ℕ) → p < n → More x → P p x ≡ true → x < next' x
      onwards-more p x h m e = elim (ℕ_discrete x i) [
        | yes g ↦
            let first : i < head q = elim (dec_lt (head q) 32) [
              | yes b ↦ later (head q) ((old.heads q inside).belongs b).0
              | no b ↦ omega arith
            ] in
            let step : next' x ≡ head q = ap next' g ∙ at_new in
            omega arith
        | no g ↦
            let there = split p x m e g in
            subst (λ (it : ℕ). x < it) (sym (at_next x there)) (old.onwards p x h there e)
      ]

      pub lists-more : Lists P n More head' next'
      lists-more = record {
        heads = heads-more;
        nexts = nexts-more;
        onwards = onwards-more;
      }

-- ---- one statement more, where the numbers of the lists stand in one list

-- the next one of statement i stands at `place`, the first one of its list at `list`
module _ (numbers : List ℕ) (place list i : ℕ) where
  abbrev under : List ℕ
  under = set numbers place (get_or numbers list 0)

  under-length : length under ≡ length numbers
  under-length = length-set numbers place (get_or numbers list 0)

  pub put-length : length (set under list i) ≡ length numbers
  put-length = length-set under list i ∙ under-length

  pub put_head : list < length numbers → get_or (set under list i) list 0 ≡ i
  put_head h = get_or-set_same under list i 0 (let e = under-length in omega arith)

  pub put_next : place < length numbers → (place ≡ list → ⊥) → get_or (set under list i) place 0 ≡ get_or numbers list 0
  put_next h apart = get_or-set_other under list place i 0 apart ∙ get_or-set_same numbers place (get_or numbers list 0) 0 h

  pub put-others : (k : ℕ) → (k ≡ list → ⊥) → (k ≡ place → ⊥) → get_or (set under list i) k 0 ≡ get_or numbers k 0
  put-others k head next = get_or-set_other under list k i 0 head ∙ get_or-set_other numbers place k (get_or numbers list 0) 0 next

-- ---- lists of members of a class

-- statement x of thread t comes after its first j members of class c
abbrev pub From : Set → (c t j : ℕ) → ℕ → Type 0
From S c t j x = (x < S.count t) × ((q : ℕ) → q < j → get_or (members_of S c t) q 0 < x)

-- the lists have members alone
module _ (S : Set) (c t : ℕ) (P : ℕ → ℕ → Bool) (n : ℕ) (belong : (p x : ℕ) → P p x ≡ true → in_class c (S.statement t x).number ≡ true) where
  -- no member comes after all of them
  pub from-none : (j : ℕ) → j ≡ length (members_of S c t) → (head next : ℕ → ℕ) → ((p : ℕ) → p < n → head p ≡ 32) → Lists P n (From S c t j) head next
  from-none j e head next =
      lists-none P n (From S c t j) head next
      (λ (p x : ℕ) f is.
      let at = members-at S c t (S.count t) x f.0 (belong p x is) in
      let i = at.inside in
      let h = at.here in
      let b = f.1 at.place (omega arith) in
      omega arith)

  -- every statement comes after none of them
  pub from_all : (j : ℕ) → j ≡ 0 → (head next : ℕ → ℕ) → Lists P n (From S c t j) head next → Lists P n (λ x. x < S.count t) head next
  from_all j e head next old =
      lists_as P n (From S c t j) (λ x. x < S.count t) (λ (y : ℕ) f. f.0) head next head next old
      (λ (p y : ℕ) k i is. (i, λ (q : ℕ) (b : q < j). absurd (omega arith))) (λ p k. refl) (λ p y k i is. refl)

  -- member j comes before the others
  module _ (j r : ℕ) (follows : r ≡ j + 1) (inside : j < length (members_of S c t)) where
    abbrev one : ℕ
    one = get_or (members_of S c t) j 0

    keep : (y : ℕ) → From S c t r y → From S c t j y
    keep y f = (f.0, λ (q : ℕ) (l : q < j). f.1 q (omega arith))

    later : (y : ℕ) → From S c t r y → one < y
    later y f = f.1 j (omega arith)

    new : From S c t j one
    new = (members-below S c t (S.count t) j inside, λ (q : ℕ) (l : q < j). members-order S c t (S.count t) q j l inside)

    split : (p y : ℕ) → From S c t j y → P p y ≡ true → (y ≡ one → ⊥) → From S c t r y
    split p y f is other =
        let at = members-at S c t (S.count t) y f.0 (belong p y is) in
        let i = at.inside in
        let h = at.here in
        let past : j < at.place = elim (dec_lt at.place j) [
          | yes l ↦ let b = f.1 at.place l in absurd (omega arith)
          | no l ↦ elim (ℕ_discrete at.place j) [
            | yes same ↦ absurd (other (sym h ∙ ap (λ (k : ℕ). get_or (members_of S c t) k 0) same))
            | no apart ↦ omega arith
          ]
        ] in
        let o = members-order S c t (S.count t) j at.place past i in (
          f.0,
          λ (q : ℕ) (l : q < r). elim (ℕ_discrete q j) [
            | yes e ↦ let g : get_or (members_of S c t) q 0 ≡ one = ap (λ (k : ℕ). get_or (members_of S c t) k 0) e in omega arith
            | no e ↦ f.1 q (omega arith)
          ],
        )

    module _ (head next head' next' : ℕ → ℕ) (old : Lists P n (From S c t r) head next) (at_next : (y : ℕ) → one < y → next' y ≡ next y) where
      -- it is of no list
      pub from-same : ((p : ℕ) → p < n → P p one ≡ true → ⊥) → ((p : ℕ) → p < n → head' p ≡ head p) → Lists P n (From S c t j) head' next'
      from-same none same =
          lists_as P n (From S c t r) (From S c t j) keep head next head' next' old
          (λ (p y : ℕ) h f is. split p y f is (λ (e : y ≡ one). none p h (ap (P p) (sym e) ∙ is))) same
          (λ (p y : ℕ) h f is. at_next y (later y f))

      -- it is of list q alone
      pub from_more : (q : ℕ) → one < 32 → q < n → P q one ≡ true → ((p : ℕ) → p < n → P p one ≡ true → p ≡ q) →
          head' q ≡ one → ((p : ℕ) → p < n → (p ≡ q → ⊥) → head' p ≡ head p) → next' one ≡ head q → Lists P n (From S c t j) head' next'
      from_more q small listed is alone at-list at_others at_new =
          lists-more P n (From S c t r) (From S c t j) keep head next head' next' old one q small listed new is alone later split at-list at_others at_new
          (λ (y : ℕ) f. at_next y (later y f))
