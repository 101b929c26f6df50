-- From the third step on each step repeats the one before it: the same records, with the operands moved on by one step. Assumes nothing.
use Prim.Native.Nat.{ℕ, zero, suc, ◌+◌, ◌*◌, ◌≤◌, ◌<◌}
use mathlib.Core.Path.{◌≡◌, refl, ap, sym, ◌∙◌, subst}
use mathlib.Core.Bool.{Bool, true, false, cond, ◌&&◌, ◌||◌}
use mathlib.Core.List.{List, [], ◌∷◌, ◌++◌, map}
use mathlib.Core.Logic.{◌⊎◌, ⊎_elim}
use native.Mathlib.Nat.{suc-mul}
use native.Mathlib.Omega.{arith}
use native.Mathlib.Decide.{dec_lt}
use borrow.Author.Tests.{lt-ltb, le-ltb}
use Rattle.base.proofs.Choice.{chosen, passed, and_left, and_right}
use Rattle.records.specs.Sets.{Set}
use Rattle.table.specs.declared.Formula.{Formula}
use Rattle.table.specs.Repeats.{moved_by}
use Rattle.table.specs.Programs.{leaf_formula, unary_formula, binary_formula, ternary_formula, constraint, goal, ref, leaf, unary, binary, ternary, next, root, records, put, Command, sets, needs, aims, upto, next_after, places_after, compiled}
use Rattle.table.proofs.Sequences.{next-++, places-++, compiled-++, program-grows, program_shift}
use Rattle.table.proofs.Renamed.{Renamed, renamed, AllClean, AllBounded, AllAlike, FromHere, places_related, compiled-alike, all_renamed, all-bounded}
use Rattle.encoding.specs.Slots.{Slot, same, Term}
use Rattle.encoding.specs.Steps.{step}
use Rattle.encoding.proofs.Blocks.{refs}
use Rattle.encoding.proofs.Scopes.{step-known}
use Rattle.encoding.proofs.Sources.{steady, Own, At, stays_or_own}
use Rattle.encoding.proofs.Split.{chosen_places, rest, step-split, choice_leaf, choice_set, choices, choices-next, choices-places, choices-records}
use Rattle.encoding.proofs.Walks.{with, Along}

-- ---- places that agree where a program looks

module _ (test : Slot → Bool) (p q : Slot → ℕ) (agree : (x : Slot) → test x ≡ true → p x ≡ q x) where
  root-agrees : (t : Term) (n : ℕ) → refs test t ≡ true → root p n t ≡ root q n t
  unfolding root
  root-agrees (ref x) n e = agree x e
  root-agrees (leaf l) n e = refl
  root-agrees (unary o a) n e = refl
  root-agrees (binary o a b) n e = refl
  root-agrees (ternary o a b c) n e = refl

  records-agree : (t : Term) (n : ℕ) (xs ys : List Formula) → refs test t ≡ true → xs ≡ ys → records p n t xs ≡ records q n t ys
  unfolding records
  records-agree (ref x) n xs ys e f = f
  records-agree (leaf l) n xs ys e f = λ i. leaf_formula l ∷ f i
  records-agree (unary o a) n xs ys e f = records-agree a n _ _ e (λ i. unary_formula o (root-agrees a n e i) ∷ f i)
  records-agree (binary o a b) n xs ys e f =
      let ea = and_left (refs test a) (refs test b) e in
      let eb = and_right (refs test a) (refs test b) e in
      records-agree a n _ _ ea (records-agree b (next n a) _ _ eb (λ i. binary_formula o (root-agrees a n ea i) (root-agrees b (next n a) eb i) ∷ f i))
  records-agree (ternary o a b c) n xs ys e f =
      let ea = and_left (refs test a) (refs test b && refs test c) e in
      let rest = and_right (refs test a) (refs test b && refs test c) e in
      let eb = and_left (refs test b) (refs test c) rest in
      let ec = and_right (refs test b) (refs test c) rest in
      records-agree a n _ _ ea (records-agree b (next n a) _ _ eb (records-agree c (next (next n a) b) _ _ ec
      (λ i. ternary_formula o (root-agrees a n ea i) (root-agrees b (next n a) eb i) (root-agrees c (next (next n a) b) ec i) ∷ f i)))

module _ (S : Set) (cs : List ℕ) where
  abbrev Known : (Slot → Bool) → List (Command Slot) → Type 0
  Known = Along S cs (λ done s t. refs done t ≡ true) (λ done t. refs done t ≡ true)

  compiled-agree : (L : List (Command Slot)) (done : Slot → Bool) (p q : Slot → ℕ) (n : ℕ) → ((x : Slot) → done x ≡ true → p x ≡ q x) → Known done L → compiled same p n L ≡ compiled same q n L
  unfolding compiled Along
  compiled-agree [] done p q n f h = refl
  compiled-agree (sets s t ∷ L) done p q n f h =
      records-agree done p q f t n _ _ h.0 (compiled-agree L (with done s) (put same p s (root p n t)) (put same q s (root q n t)) (next n t) (λ x. put-agrees (same x s) x) h.1)
    where
      put-agrees : (b : Bool) (x : Slot) → (b || done x) ≡ true → cond b (root p n t) (p x) ≡ cond b (root q n t) (q x)
      put-agrees true x e = root-agrees done p q f t n h.0
      put-agrees false x e = f x e
  compiled-agree (needs t ∷ L) done p q n f h =
      records-agree done p q f t n _ _ h.0 (λ i. constraint (root-agrees done p q f t n h.0 i) ∷ compiled-agree L done p q (suc (next n t)) f h.1 i)
  compiled-agree (aims t ∷ L) done p q n f h =
      records-agree done p q f t n _ _ h.0 (λ i. goal (root-agrees done p q f t n h.0 i) ∷ compiled-agree L done p q (suc (next n t)) f h.1 i)

-- the places of what stays alone
abbrev kept : (Slot → ℕ) → Slot → ℕ
kept p s = cond (steady s) (p s) 0

tail : List Formula → List Formula
tail [] = []
tail (x ∷ xs) = xs

-- the same records in front
cancel : (xs ys zs : List Formula) → xs ++ ys ≡ xs ++ zs → ys ≡ zs
unfolding tail
cancel [] ys zs e = e
cancel (x ∷ xs) ys zs e = cancel xs ys zs (ap tail e)

-- ---- what lies further by one step

-- what `moved_by` says, as two facts
pub record Moved (first stride x y : ℕ) : Type 0 where
  pub before : x < first → y ≡ x
  pub after : first ≤ x → y ≡ x + stride

moved-is : (first stride x y : ℕ) → Moved first stride x y → y ≡ moved_by first stride x
unfolding moved_by
moved-is first stride x y h = elim (dec_lt x first) [
  | yes l ↦ h.before l ∙ sym (chosen x (x + stride) (lt-ltb x first l))
  | no l ↦ h.after (omega arith) ∙ sym (passed x (x + stride) (le-ltb x first (omega arith)))
]

module _ (S : Set) (cs : List ℕ) where
  -- how many choice bits a step has
  abbrev pub both : ℕ
  both = S.threads + S.threads

  -- how many records a step has
  unfoldable pub stride : ℕ
  stride = next_after same both (rest S cs)

  -- ---- a step's parts, from index n on

  pub step-next : (k n : ℕ) (p : Slot → ℕ) → next_after same n (step S cs k) ≡ next_after same (n + both) (rest S cs)
  step-next k n p =
      ap (next_after same n) (step-split S cs k ∙ ap (λ x. x ++ rest S cs) (choices S cs k))
      ∙ (next-++ same n (upto (choice_set S cs k) both) (rest S cs)
      ∙ ap (λ (x : ℕ). next_after same x (rest S cs)) (choices-next S cs k p n both))

  pub step-size : (k n : ℕ) → next_after same n (step S cs k) ≡ n + stride
  unfolding stride
  step-size k n =
      let e : n + both ≡ both + n = omega arith in
      let f = program_shift same n (rest S cs) both in
      step-next k n (λ s. 0) ∙ (ap (λ (x : ℕ). next_after same x (rest S cs)) e ∙ omega arith)

  pub step-places : (k n : ℕ) (p : Slot → ℕ) → places_after same p n (step S cs k) ≡ places_after same (chosen_places p n both) (n + both) (rest S cs)
  step-places k n p =
      ap (places_after same p n) (step-split S cs k ∙ ap (λ x. x ++ rest S cs) (choices S cs k))
      ∙ (places-++ same p n (upto (choice_set S cs k) both) (rest S cs)
      ∙ λ i. places_after same (choices-places S cs k p n both i) (choices-next S cs k p n both i) (rest S cs))

  -- the records after the choice bits, of a step at places p from index n on
  abbrev pub after_choices : (Slot → ℕ) → ℕ → List Formula
  after_choices p n = compiled same (chosen_places p n both) (n + both) (rest S cs)

  pub step-records : (k n : ℕ) (p : Slot → ℕ) → compiled same p n (step S cs k) ≡ upto (λ j. leaf_formula (choice_leaf S cs k j) ∷ []) both ++ after_choices p n
  step-records k n p =
      ap (compiled same p n) (step-split S cs k ∙ ap (λ x. x ++ rest S cs) (choices S cs k))
      ∙ (compiled-++ same p n (upto (choice_set S cs k) both) (rest S cs)
      ∙ λ i. choices-records S cs k p n both i ++ compiled same (choices-places S cs k p n both i) (choices-next S cs k p n both i) (rest S cs))

  -- these depend on what stays alone
  after_kept : (p : Slot → ℕ) (n : ℕ) → after_choices p n ≡ after_choices (kept p) n
  after_kept p n =
      let bits = upto (λ j. leaf_formula (choice_leaf S cs 0 j) ∷ []) both in
      cancel bits (after_choices p n) (after_choices (kept p) n)
      (sym (step-records 0 n p) ∙ (compiled-agree S cs (step S cs 0) steady p (kept p) n (λ x e. sym (chosen (p x) 0 e)) (step-known S cs) ∙ step-records 0 n (kept p)))

  -- ---- step after step, from places and an index above them

  module _ (start : Slot → ℕ) (first : ℕ) (low : (s : Slot) → start s < first) where
    -- the places and the index before step k
    abbrev pub places_at : ℕ → Slot → ℕ
    places_at k = places_after same start first (upto (step S cs) k)

    abbrev pub index_at : ℕ → ℕ
    index_at k = next_after same first (upto (step S cs) k)

    index-next : (k : ℕ) → index_at (suc k) ≡ index_at k + stride
    unfolding upto
    index-next k = next-++ same first (upto (step S cs) k) (step S cs k) ∙ step-size k (index_at k)

    index-none : index_at 0 ≡ first
    unfolding upto next_after
    index-none = refl

    pub index-at : (k : ℕ) → index_at k ≡ first + k * stride
    index-at zero = let e : 0 * stride ≡ 0 = omega arith in index-none ∙ omega arith
    index-at (suc k) = let e = index-next k in let f = index-at k in let g = suc-mul k stride in omega arith

    places-none : places_at 0 ≡ start
    unfolding upto places_after
    places-none = refl

    -- the places after the step, the same for each number of a step
    abbrev moving : (Slot → ℕ) → ℕ → Slot → ℕ
    moving p n = places_after same p n (step S cs 0)

    places-next : (k : ℕ) → places_at (suc k) ≡ moving (places_at k) (index_at k)
    unfolding upto
    places-next k =
        places-++ same start first (upto (step S cs) k) (step S cs k)
        ∙ (step-places k (index_at k) (places_at k) ∙ sym (step-places 0 (index_at k) (places_at k)))

    abbrev Ahead : ℕ → ℕ → Type 0
    Ahead = Moved first stride

    -- where a value that stays lies after step k, and after the next one
    abbrev Found : ℕ → Slot → ℕ → ℕ → Type 0
    Found k s x y = Own (places_at k) (places_at (suc k)) (index_at k) (index_at (suc k)) x y ⊎ At (places_at k) (places_at (suc k)) (index_at k) (index_at (suc k)) s x y

    found : (k : ℕ) (s : Slot) → steady s ≡ true → Found k s (places_at (suc k) s) (places_at (suc (suc k)) s)
    found k s still =
        subst (λ (y : ℕ). Found k s (places_at (suc k) s) y) (sym (ap (λ (f : Slot → ℕ). f s) (places-next (suc k))))
        (subst (λ (x : ℕ). Found k s x (moving (places_at (suc k)) (index_at (suc k)) s)) (sym (ap (λ (f : Slot → ℕ). f s) (places-next k)))
        (stays_or_own (places_at k) (places_at (suc k)) (index_at k) (index_at (suc k)) S cs s still))

    own_ahead : (k x y : ℕ) → Own (places_at k) (places_at (suc k)) (index_at k) (index_at (suc k)) x y → Ahead x y
    own_ahead k x y o =
        let h = o.here in
        let t = o.there in
        let e = index-at k in
        let f = index-next k in
        record { before = λ l. absurd (omega arith); after = λ l. omega arith }

    -- it lies before the steps and stays there, or further by one step
    steady_ahead : (k : ℕ) (s : Slot) → steady s ≡ true → Ahead (places_at (suc k) s) (places_at (suc (suc k)) s)
    steady_ahead zero s still = ⊎_elim (own_ahead 0 (places_at 1 s) (places_at 2 s)) there (found 0 s still)
      where
        there : At (places_at 0) (places_at 1) (index_at 0) (index_at 1) s (places_at 1 s) (places_at 2 s) → Ahead (places_at 1 s) (places_at 2 s)
        there r =
            let e = r.1 in
            let f = r.0 in
            let z = ap (λ (f : Slot → ℕ). f s) places-none in
            let l = low s in
            record { before = λ h. e; after = λ h. absurd (omega arith) }
    steady_ahead (suc k) s still =
        let before = steady_ahead k s still in
        ⊎_elim (own_ahead (suc k) (places_at (suc (suc k)) s) (places_at (suc (suc (suc k))) s))
        (λ r. subst (λ (y : ℕ). Ahead (places_at (suc (suc k)) s) y) (sym r.1) (subst (λ (x : ℕ). Ahead x (places_at (suc (suc k)) s)) (sym r.0) before))
        (found (suc k) s still)

    -- d steps after the second
    pub far_ahead : (d : ℕ) (s : Slot) → steady s ≡ true → places_at (d + 2) s ≡ moved_by first (d * stride) (places_at 2 s)
    unfolding moved_by
    far_ahead zero s still = moved-is first (0 * stride) (places_at 2 s) (places_at 2 s) (let e : 0 * stride ≡ 0 = omega arith in record { before = λ l. refl; after = λ l. omega arith })
    far_ahead (suc d) s still =
        let e : d + 2 ≡ suc (suc d) = omega arith in
        let f : suc d + 2 ≡ suc (suc (suc d)) = omega arith in
        let g : places_at (suc d + 2) s ≡ places_at (suc (suc (suc d))) s = ap (λ (k : ℕ). places_at k s) f in
        let h : places_at (suc (suc d)) s ≡ places_at (d + 2) s = ap (λ (k : ℕ). places_at k s) (sym e) in
        let more = steady_ahead (suc d) s still in
        let m = suc-mul d stride in
        let now = far_ahead d s still in
        moved-is first (suc d * stride) (places_at 2 s) (places_at (suc d + 2) s) (record {
          before = λ l. let u = now ∙ chosen (places_at 2 s) (places_at 2 s + d * stride) (lt-ltb (places_at 2 s) first l) in g ∙ (more.before (omega arith) ∙ (h ∙ u));
          after = λ l. let u = now ∙ passed (places_at 2 s) (places_at 2 s + d * stride) (le-ltb (places_at 2 s) first l) in let w = more.after (omega arith) in omega arith;
        })

    -- ---- the records

    module _ (positive : 0 < first) where
      -- every slot lies below the next index
      below : (k : ℕ) (s : Slot) → places_at k s < index_at k
      below zero s = let e = index-none in let z = ap (λ (f : Slot → ℕ). f s) places-none in let l = low s in omega arith
      below (suc k) s =
          let limit = next_after same (index_at k) (step S cs 0) in
          let e : limit ≡ index_at (suc k) = step-size 0 (index_at k) ∙ sym (index-next k) in
          let g = program-grows same (step S cs 0) (index_at k) in
          let z : 0 < limit = let a = index-at k in omega arith in
          let r : moving (places_at k) (index_at k) s < limit =
          places_related (λ x y. x < limit) z limit same (step S cs 0) (places_at k) (places_at k) (index_at k) (index_at k) (omega arith) (λ s. let l = below k s in omega arith) (λ i l. l) s in
          subst (λ (f : Slot → ℕ). f s < index_at (suc k)) (sym (places-next k)) (omega arith)

      -- step k + 1, and step k + 2
      module _ (k : ℕ) where
        abbrev i : ℕ
        i = suc k

        abbrev p : Slot → ℕ
        p = kept (places_at i)

        abbrev q : Slot → ℕ
        q = kept (places_at (suc i))

        abbrev pub limit : ℕ
        limit = index_at (suc i)

        abbrev As : ℕ → ℕ → Type 0
        As = Renamed (moved_by first stride) limit limit

        ahead_as : (x y : ℕ) → x < limit → Ahead x y → As x y
        ahead_as x y l h = (l, λ f. moved-is first stride x y h)

        index-here : index_at i + stride ≡ limit
        index-here = sym (index-next i)

        none_as : As 0 0
        none_as = ahead_as 0 0 (let a = index-at (suc i) in omega arith) (record { before = λ l. refl; after = λ l. absurd (omega arith) })

        rest-fits : next_after same (index_at i + both) (rest S cs) ≡ limit
        rest-fits = sym (step-next 0 (index_at i) (places_at i)) ∙ (step-size 0 (index_at i) ∙ index-here)

        start_as : (s : Slot) → As (p s) (q s)
        start_as s = go (steady s) refl
          where
            go : (b : Bool) → steady s ≡ b → As (cond b (places_at i s) 0) (cond b (places_at (suc i) s) 0)
            go true e = ahead_as (places_at i s) (places_at (suc i) s) (let l = below i s in let f = index-here in omega arith) (steady_ahead k s e)
            go false e = none_as

        from_as : FromHere As limit (index_at i) (index_at (suc i))
        from_as j l =
            let e = index-at i in
            let f = index-next i in
            ahead_as (index_at i + j) (index_at (suc i) + j) l (record { before = λ h. absurd (omega arith); after = λ h. omega arith })

        chosen_as : (s : Slot) → As (chosen_places p (index_at i) both s) (chosen_places q (index_at (suc i)) both s)
        chosen_as s =
            let e = choices-next S cs 0 p (index_at i) both in
            let g = program-grows same (rest S cs) (index_at i + both) in
            let f = rest-fits in
            let r = places_related As none_as limit same (upto (choice_set S cs 0) both) p q (index_at i) (index_at (suc i)) (omega arith) start_as from_as s in
            subst (λ (f : Slot → ℕ). As (chosen_places p (index_at i) both s) (f s)) (choices-places S cs 0 q (index_at (suc i)) both)
            (subst (λ (f : Slot → ℕ). As (f s) (places_after same q (index_at (suc i)) (upto (choice_set S cs 0) both) s)) (choices-places S cs 0 p (index_at i) both) r)

        later_as : FromHere As limit (index_at i + both) (index_at (suc i) + both)
        later_as j l =
            let u : index_at i + (both + j) ≡ index_at i + both + j = omega arith in
            let v : index_at (suc i) + (both + j) ≡ index_at (suc i) + both + j = omega arith in
            subst (λ (x : ℕ). As (index_at i + both + j) x) v (subst (λ (x : ℕ). As x (index_at (suc i) + (both + j))) u (from_as (both + j) (omega arith)))

        alike : AllAlike As (after_choices p (index_at i)) (after_choices q (index_at (suc i)))
        alike =
            compiled-alike As none_as limit same (rest S cs) (chosen_places p (index_at i) both) (chosen_places q (index_at (suc i)) both) (index_at i + both) (index_at (suc i) + both)
            (let f = rest-fits in omega arith) chosen_as later_as

        kept-bounded : AllBounded limit (after_choices p (index_at i))
        kept-bounded = all-bounded (moved_by first stride) limit limit (after_choices p (index_at i)) _ alike

        pub bounded : AllBounded limit (after_choices (places_at i) (index_at i))
        bounded = subst (λ (xs : List Formula). AllBounded limit xs) (sym (after_kept (places_at i) (index_at i))) kept-bounded

        pub repeats : after_choices (places_at (suc i)) (index_at (suc i)) ≡ map (renamed (moved_by first stride)) (after_choices (places_at i) (index_at i))
        repeats =
            after_kept (places_at (suc i)) (index_at (suc i))
            ∙ (all_renamed (moved_by first stride) limit limit (after_choices p (index_at i)) _ alike (clean (after_choices p (index_at i)) kept-bounded)
            ∙ ap (map (renamed (moved_by first stride))) (sym (after_kept (places_at i) (index_at i))))
          where
            clean : (xs : List Formula) → AllBounded limit xs → AllClean limit xs
            clean [] b = tt
            clean (x ∷ xs) b = (
              λ h. let r = b.0 h in record {
                clean_a = λ e. let l = r.bounded_a in absurd (omega arith);
                clean_b = λ e. let l = r.bounded_b in absurd (omega arith);
                clean_c = λ e. let l = r.bounded_c in absurd (omega arith);
              },
              clean xs b.1,
            )
