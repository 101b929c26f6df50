-- Where the place of a value that stays comes from after a step: it is one of the step's records, or the place that it had before. Assumes nothing.
use Prim.Native.Nat.{ℕ, zero, suc, ◌+◌, ◌-◌, ◌<◌}
use mathlib.Core.Path.{◌≡◌, refl, ap, sym, ◌∙◌, subst}
use mathlib.Core.Bool.{Bool, true, false, cond, ◌||◌, true≢false}
use mathlib.Core.List.{List, [], ◌∷◌}
use mathlib.Core.Logic.{◌⊎◌, inl, inr, ⊎_elim}
use native.Mathlib.Omega.{arith}
use borrow.Author.Tests.{eqb-false}
use lib.Dec.{eqb}
use Rattle.base.proofs.Choice.{cond_both}
use Rattle.records.specs.Sets.{Set}
use Rattle.table.specs.Programs.{ref, leaf, unary, binary, ternary, next, root, Command, sets, needs, aims, put, places_after}
use Rattle.table.proofs.Sequences.{next_shift}
use Rattle.encoding.specs.Slots.{Kind, choice, active, opening, shut, barred, held, waits, may_execute, none, permitted_first, one_permitted, address, loaded, swaps, result, test, not_test, flush_to, write_to, flush_value, write_value, raised, exits, codes, shared_memory, val, adr, mem, accu, full, halted, flag, mark, halts, ended, code, bit_zero as bit0, bit_one as bit1, word_zero, word_one, argument, Slot, slot, same, Term, kind_number}
use Rattle.encoding.specs.Steps.{Link, skip, if_then, and_with, or_with, linked, chain, only, rests, number_of, leaving_tree, base, link, links, step}
use Rattle.encoding.proofs.KindNumbers.{same-slot}
use Rattle.encoding.proofs.Walks.{with, After, There, SetBefore, Along, along-step}

-- ---- slots

-- Slots that keep their place or get one of the step's records; the codes, which start from the code's place; the others.
pub data Way : Type 0 where
  stays of_code passes : Way

abbrev pub way : Kind → Way
way choice = passes
way active = passes
way opening = passes
way shut = passes
way barred = passes
way held = passes
way waits = passes
way may_execute = passes
way none = passes
way permitted_first = passes
way one_permitted = passes
way address = passes
way loaded = passes
way swaps = passes
way result = passes
way test = passes
way not_test = passes
way flush_to = passes
way write_to = passes
way flush_value = passes
way write_value = passes
way raised = passes
way exits = passes
way codes = of_code
way shared_memory = stays
way val = stays
way adr = stays
way mem = stays
way accu = stays
way full = stays
way halted = stays
way flag = stays
way mark = stays
way halts = passes
way ended = stays
way code = stays
way bit0 = stays
way bit1 = stays
way word_zero = stays
way word_one = stays
way argument = stays

abbrev keeps : Way → Bool
keeps stays = true
keeps of_code = false
keeps passes = false

abbrev pub steady : Slot → Bool
steady (slot k a b) = keeps (way k)

-- ---- two runs of one program: from places P and index n, and from places Q and index m

module _ (P Q : Slot → ℕ) (n m : ℕ) where
  -- records of the program, the same one in both runs
  pub record Own (x y : ℕ) : Type 0 where
    pub offset : ℕ
    pub here : x ≡ n + offset
    pub there : y ≡ m + offset

  -- the place of one slot before the program, in both runs
  abbrev pub At : Slot → ℕ → ℕ → Type 0
  At s x y = (x ≡ P s) × (y ≡ Q s)

  abbrev KeptBy : Way → Slot → ℕ → ℕ → Type 0
  KeptBy stays s x y = At s x y
  KeptBy of_code s x y = At (only code) x y
  KeptBy passes s x y = Unit

  abbrev Kept : Slot → ℕ → ℕ → Type 0
  Kept (slot k a b) x y = KeptBy (way k) (slot k a b) x y

  abbrev Comes : Slot → ℕ → ℕ → Type 0
  Comes s x y = Own x y ⊎ Kept s x y

  -- ---- trees that name a slot alone

  -- slot s may be set to what slot x is, where the slots of `done` were set before
  abbrev May : (Slot → Bool) → (s x : Slot) → Type 0
  May done s x = ((u v : ℕ) → Kept x u v → Kept s u v) × ((done x ≡ true) ⊎ Kept s (P x) (Q x))

  abbrev MayRoot : (Slot → Bool) → Slot → Term → Type 0
  MayRoot done s (ref x) = May done s x
  MayRoot done s (leaf l) = Unit
  MayRoot done s (unary o a) = Unit
  MayRoot done s (binary o a b) = Unit
  MayRoot done s (ternary o a b c) = Unit

  chain-root : (done : Slot → Bool) (s : Slot) (link : ℕ → Link) (i : ℕ) (base : Term) → MayRoot done s base → MayRoot done s (chain link i base)
  unfolding chain
  chain-root done s link zero base h = h
  chain-root done s link (suc i) base h = over (link i) (chain link i base) (chain-root done s link i base h)
    where
      over : (l : Link) (v : Term) → MayRoot done s v → MayRoot done s (linked l v)
      over skip v h = h
      over (if_then sort x y) v h = tt
      over (and_with x) v h = tt
      over (or_with x) v h = tt

  -- ---- programs

  -- what both runs keep to: a slot that was set comes from a record or a slot that it may come from, and any slot does or is as before
  record Runs (done : Slot → Bool) (p q : Slot → ℕ) : Type 0 where
    was_set : (s : Slot) → done s ≡ true → Comes s (p s) (q s)
    any : (s : Slot) → Comes s (p s) (q s) ⊎ At s (p s) (q s)

  module _ (done : Slot → Bool) (p q : Slot → ℕ) (runs : Runs done p q) where
    next-own : (t : Term) (i j d : ℕ) → i ≡ n + d → j ≡ m + d → Own (next i t) (next j t)
    next-own t i j d e f =
        let u : i ≡ 0 + i = omega arith in
        let v : j ≡ 0 + j = omega arith in
        let a : next i t ≡ next 0 t + i = ap (λ (x : ℕ). next x t) u ∙ next_shift i t 0 in
        let b : next j t ≡ next 0 t + j = ap (λ (x : ℕ). next x t) v ∙ next_shift j t 0 in
        record { offset = next 0 t + d; here = omega arith; there = omega arith }

    root_comes : (s : Slot) (t : Term) (i j d : ℕ) → i ≡ n + d → j ≡ m + d → MayRoot done s t → Comes s (root p i t) (root q j t)
    unfolding root
    root_comes s (ref x) i j d e f h = ⊎_elim (λ e. widen (runs.was_set x e)) (λ k. ⊎_elim widen (λ r. inr (subst (λ (v : ℕ). Kept s (p x) v) (sym r.1) (subst (λ (u : ℕ). Kept s u (Q x)) (sym r.0) k))) (runs.any x)) h.1
      where
        widen : Comes x (p x) (q x) → Comes s (p x) (q x)
        widen c = ⊎_elim inl (λ k. inr (h.0 (p x) (q x) k)) c
    root_comes s (leaf l) i j d e f h = inl (record { offset = d; here = e; there = f })
    root_comes s (unary o a) i j d e f h = inl (next-own a i j d e f)
    root_comes s (binary o a b) i j d e f h = let r = next-own a i j d e f in inl (next-own b (next i a) (next j a) r.offset r.here r.there)
    root_comes s (ternary o a b c) i j d e f h =
        let r = next-own a i j d e f in
        let w = next-own b (next i a) (next j a) r.offset r.here r.there in
        inl (next-own c (next (next i a) b) (next (next j a) b) w.offset w.here w.there)

    put-runs : (s : Slot) (x y : ℕ) → Comes s x y → Runs (with done s) (put same p s x) (put same q s y)
    put-runs s x y c = record { was_set = λ z. at (same z s) z refl; any = λ z. among (same z s) z refl }
      where
        moved : (z : Slot) → same z s ≡ true → Comes z x y
        moved z e = subst (λ (z : Slot). Comes z x y) (sym (same-slot z s e)) c

        at : (b : Bool) (z : Slot) → same z s ≡ b → (b || done z) ≡ true → Comes z (cond b x (p z)) (cond b y (q z))
        at true z e h = moved z e
        at false z e h = runs.was_set z h

        among : (b : Bool) (z : Slot) → same z s ≡ b → Comes z (cond b x (p z)) (cond b y (q z)) ⊎ At z (cond b x (p z)) (cond b y (q z))
        among true z e = inl (moved z e)
        among false z e = runs.any z

  module _ (S : Set) (cs : List ℕ) where
    abbrev Fine : (Slot → Bool) → List (Command Slot) → Type 0
    Fine = Along S cs MayRoot (λ done t. Unit)

    follow : (L : List (Command Slot)) (done : Slot → Bool) (p q : Slot → ℕ) (i j d : ℕ) → i ≡ n + d → j ≡ m + d → Runs done p q → Fine done L →
        Runs (After done L) (places_after same p i L) (places_after same q j L)
    unfolding After Along places_after
    follow [] done p q i j d e f runs fine = runs
    follow (sets s t ∷ L) done p q i j d e f runs fine =
        let r = next-own done p q runs t i j d e f in
        follow L (with done s) (put same p s (root p i t)) (put same q s (root q j t)) (next i t) (next j t) r.offset r.here r.there
        (put-runs done p q runs s (root p i t) (root q j t) (root_comes done p q runs s t i j d e f fine.0)) fine.1
    follow (needs t ∷ L) done p q i j d e f runs fine =
        let r = next-own done p q runs t i j d e f in
        let a = r.here in
        let b = r.there in
        follow L done p q (suc (next i t)) (suc (next j t)) (suc r.offset) (omega arith) (omega arith) runs fine.1
    follow (aims t ∷ L) done p q i j d e f runs fine =
        let r = next-own done p q runs t i j d e f in
        let a = r.here in
        let b = r.there in
        follow L done p q (suc (next i t)) (suc (next j t)) (suc r.offset) (omega arith) (omega arith) runs fine.1

    -- ---- a step

    module _ (done : Slot → Bool) (a b : ℕ) where
      -- a value that stays, the only one of its thread
      staying : (l : Kind) → b < 1 → May done (slot l a 0) (slot l a 0) → May done (slot l a b) (slot l a 0)
      staying l h f = let e : 0 ≡ b = omega arith in subst (λ (c : ℕ). May done (slot l a c) (slot l a 0)) e f

      -- anything may be another value's place
      any-root : (s : Slot) → ((u v : ℕ) → Kept s u v) → (t : Term) → MayRoot done s t
      any-root s f (ref x) = (λ u v h. f u v, inr (f (P x) (Q x)))
      any-root s f (leaf l) = tt
      any-root s f (unary o c) = tt
      any-root s f (binary o c d) = tt
      any-root s f (ternary o c d e) = tt

      codes_may : a < 1 → ((d : ℕ) → d < b → done (slot codes a d) ≡ true) → May done (slot codes a b) (cond (eqb b 0) (only code) (slot codes 0 (b - 1)))
      codes_may h left = go (eqb b 0) refl
        where
          go : (t : Bool) → eqb b 0 ≡ t → May done (slot codes a b) (cond t (only code) (slot codes 0 (b - 1)))
          go true e = (λ u v h. h, inr (refl, refl))
          go false e =
              let far = eqb-false b 0 e in
              let z : 0 ≡ a = omega arith in
              (λ u v h. h, inl (ap (λ (c : ℕ). done (slot codes c (b - 1))) z ∙ left (b - 1) (omega arith)))

      code_may : a < 1 → b < 1 → done (slot codes 0 S.threads) ≡ true → May done (slot code a b) (slot codes 0 S.threads)
      code_may h l g =
          let e : 0 ≡ a = omega arith in
          let f : 0 ≡ b = omega arith in
          subst (λ (d : ℕ). May done (slot code a d) (slot codes 0 S.threads)) f (subst (λ (d : ℕ). May done (slot code d 0) (slot codes 0 S.threads)) e (λ u v h. h, inl g))

      -- what the base of a kind names alone may give the slot its place
      based : (kind : Kind) → kind_number kind < 36 → There S cs kind a b → SetBefore S cs (λ x. false) done kind a b → MayRoot done (slot kind a b) (base S cs 0 kind a b)
      based choice c h g = any-root (slot choice a b) (λ u v. tt) (base S cs 0 choice a b)
      based active c h g = any-root (slot active a b) (λ u v. tt) (base S cs 0 active a b)
      based opening c h g = any-root (slot opening a b) (λ u v. tt) (base S cs 0 opening a b)
      based shut c h g = any-root (slot shut a b) (λ u v. tt) (base S cs 0 shut a b)
      based barred c h g = any-root (slot barred a b) (λ u v. tt) (base S cs 0 barred a b)
      based held c h g = any-root (slot held a b) (λ u v. tt) (base S cs 0 held a b)
      based waits c h g = any-root (slot waits a b) (λ u v. tt) (base S cs 0 waits a b)
      based may_execute c h g = any-root (slot may_execute a b) (λ u v. tt) (base S cs 0 may_execute a b)
      based none c h g = any-root (slot none a b) (λ u v. tt) (base S cs 0 none a b)
      based permitted_first c h g = any-root (slot permitted_first a b) (λ u v. tt) (base S cs 0 permitted_first a b)
      based one_permitted c h g = any-root (slot one_permitted a b) (λ u v. tt) (base S cs 0 one_permitted a b)
      based address c h g = any-root (slot address a b) (λ u v. tt) (base S cs 0 address a b)
      based loaded c h g = any-root (slot loaded a b) (λ u v. tt) (base S cs 0 loaded a b)
      based swaps c h g = any-root (slot swaps a b) (λ u v. tt) (base S cs 0 swaps a b)
      based result c h g = any-root (slot result a b) (λ u v. tt) (base S cs 0 result a b)
      based test c h g = any-root (slot test a b) (λ u v. tt) (base S cs 0 test a b)
      based not_test c h g = any-root (slot not_test a b) (λ u v. tt) (base S cs 0 not_test a b)
      based flush_to c h g = any-root (slot flush_to a b) (λ u v. tt) (base S cs 0 flush_to a b)
      based write_to c h g = any-root (slot write_to a b) (λ u v. tt) (base S cs 0 write_to a b)
      based flush_value c h g = any-root (slot flush_value a b) (λ u v. tt) (base S cs 0 flush_value a b)
      based write_value c h g = any-root (slot write_value a b) (λ u v. tt) (base S cs 0 write_value a b)
      based raised c h g = any-root (slot raised a b) (λ u v. tt) (base S cs 0 raised a b)
      based exits c h g = any-root (slot exits a b) (λ u v. tt) (base S cs 0 exits a b)
      based codes c h g = codes_may h.row (λ d l. g.row_before d l refl)
      based shared_memory c h g = tt
      based val c h g = staying val h.column (λ u v h. h, inr (refl, refl))
      based adr c h g = staying adr h.column (λ u v h. h, inr (refl, refl))
      based mem c h g = staying mem h.column (λ u v h. h, inr (refl, refl))
      based accu c h g = staying accu h.column (λ u v h. h, inr (refl, refl))
      based full c h g = tt
      based halted c h g = staying halted h.column (λ u v h. h, inr (refl, refl))
      based flag c h g = cond_both (MayRoot done (slot flag a b)) (rests (number_of S cs 0 a b)) {x = ref (slot flag a b)} {y = leaving_tree S cs 0 a b} (λ u v h. h, inr (refl, refl)) tt
      based mark c h g = tt
      based halts c h g = any-root (slot halts a b) (λ u v. tt) (base S cs 0 halts a b)
      based ended c h g = tt
      based code c h g = code_may h.row h.column (g.kinds_before codes 0 S.threads (omega arith) (record { row = omega arith; column = omega arith; is = refl }))
      based bit0 c h g = absurd (omega arith)
      based bit1 c h g = absurd (omega arith)
      based word_zero c h g = absurd (omega arith)
      based word_one c h g = absurd (omega arith)
      based argument c h g = absurd (omega arith)

    step_fine : Fine (λ x. false) (step S cs 0)
    step_fine =
        along-step S cs MayRoot (λ done t. Unit) 0 (λ x. false)
        (λ kind l c done a b h g. chain-root done (slot kind a b) (link S cs 0 kind a b) (links S cs 0 kind a b) (base S cs 0 kind a b) (based done a b kind c h g))
        (λ done f h. tt) refl

    -- a slot that stays has a record of the step, or lies where it lay
    pub stays_or_own : (s : Slot) → steady s ≡ true →
        Own (places_after same P n (step S cs 0) s) (places_after same Q m (step S cs 0) s) ⊎ At s (places_after same P n (step S cs 0) s) (places_after same Q m (step S cs 0) s)
    stays_or_own (slot k a b) still =
        ⊎_elim (λ c. ⊎_elim inl (λ h. inr (go (way k) refl h)) c) inr
        ((follow (step S cs 0) (λ x. false) P Q n m 0 (omega arith) (omega arith) (record { was_set = λ s e. absurd (true≢false (sym e)); any = λ s. inr (refl, refl) }) step_fine).any (slot k a b))
      where
        go : {x y : ℕ} (w : Way) → way k ≡ w → KeptBy w (slot k a b) x y → At (slot k a b) x y
        go stays e h = h
        go of_code e h = absurd (true≢false (sym still ∙ ap keeps e))
        go passes e h = absurd (true≢false (sym still ∙ ap keeps e))
