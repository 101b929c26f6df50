-- A step's next memory is the machine's: the cell that a flush or a CAS writes, and else a cell's own value. Assumes nothing.
use Prim.Native.Nat.{ℕ, suc, ◌+◌, ◌-◌, ◌≤◌, ◌<◌}
use mathlib.Core.Path.{◌≡◌, refl, ap, sym, ◌∙◌, fun_ext}
use mathlib.Core.Bool.{Bool, true, false, cond, ◌&&◌}
use mathlib.Core.List.{List}
use native.Mathlib.Omega.{arith}
use borrow.Author.Tests.{ltb-true, ltb-false, lt-ltb, eqb-true, eq-eqb, ne_eqb}
use lib.Dec.{eqb, ltb}
use Rattle.base.proofs.Choice.{eqb_swap, chosen, passed, and_true, and_left, and_false, and_right_false}
use Rattle.records.specs.Instructions.{CAS}
use Rattle.records.specs.Sets.{Set}
use Rattle.records.specs.declared.Statement.{Statement}
use Rattle.machine.specs.Machine.{State, current, address as address_of, cas_matches, actor, written, memory_after, wrote, no_write}
use Rattle.machine.specs.declared.Choice.{Choice}
use Rattle.machine.specs.declared.Choice.TheVariants.{Execute, Flush}
use Rattle.machine.specs.declared.Thread.{Thread}
use Rattle.table.specs.Formulas.{word_sort}
use Rattle.table.specs.Values.{Assignment, Value, bit, word, memory, as_bit, as_word, as_memory}
use Rattle.encoding.specs.Slots.{choice, address, swaps, flush_to, write_to, flush_value, write_value, shared_memory, val, adr, accu, word_zero, Slot, slot}
use Rattle.encoding.specs.Steps.{skip, if_then, only, link}
use Rattle.encoding.proofs.Active.{executing, flushing, scan-one, actor-below, executes-is, flushes-is, past, number_fits}
use Rattle.encoding.proofs.Blocks.{link_value, links_value, links-none, links-at, quiet_if, quiet-cond}
use Rattle.encoding.proofs.Rows.{target, match_of, cas-row, cas-address}
use Rattle.encoding.proofs.Stages.{Given, stage, was, since, settles, scanned}
use Rattle.encoding.proofs.Statements.{swaps_at, address-value, swaps_value}

-- a cell written with its own value
own_value : (cells : ℕ → ℕ) (a : ℕ) → (λ (b : ℕ). cond (eqb b a) (cells a) (cells b)) ≡ cells
own_value cells a = fun_ext (λ b. go b (eqb b a) refl)
  where
    go : (b : ℕ) (t : Bool) → eqb b a ≡ t → cond t (cells a) (cells b) ≡ cells b
    go b true e = ap cells (sym (eqb-true b a e))
    go b false e = refl

wrote-is : (cells : ℕ → ℕ) (a v : ℕ) → (λ (b : ℕ). cond (eqb b a) v (cells b)) ≡ memory_after (wrote a v) cells
wrote-is cells a v = fun_ext (λ b. ap (λ t. cond t v (cells b)) (eqb_swap b a))

-- the address and the value of the cell that a step writes
module _ (S : Set) (s : State) where
  abbrev target_of : ℕ → ℕ
  target_of t = target (current S s t).mode (current S s t).argument s.memory (s.threads t)

  abbrev matches_at : ℕ → Bool
  matches_at t = cas_matches (current S s t) (s.threads t) s.memory

  abbrev place_of : Choice → Value
  place_of c = cond (executing c && matches_at (actor c)) (word (target_of (actor c))) (cond (flushing c) (word (s.threads (actor c)).adr) (word 0))

  abbrev content_of : Choice → Value
  content_of c = cond (executing c && matches_at (actor c)) (word (s.threads (actor c)).accu) (cond (flushing c) (word (s.threads (actor c)).val) (word (s.memory (as_word (place_of c)))))

  cells-after : (c : Choice) → (current S s (actor c)).number ≤ 20
      → (λ (b : ℕ). cond (eqb b (as_word (place_of c))) (as_word (content_of c)) (s.memory b)) ≡ memory_after (written S s c) s.memory
  unfolding written
  cells-after (Flush t) h = wrote-is s.memory (s.threads t).adr (s.threads t).val
  cells-after (Execute t) h = go (matches_at t) refl
    where
      x : Thread
      x = s.threads t

      i : Statement
      i = current S s t

      address_is : matches_at t ≡ true → address_of i x s.memory ≡ target_of t
      address_is e =
          let cas : eqb i.number CAS ≡ true = and_left (eqb i.number CAS) (match_of i.mode i.argument s.memory x) (sym (cas-row i.mode i.argument s.memory x i.number h) ∙ e) in
          sym (chosen (address_of i x s.memory) (target_of t) cas) ∙ cas-address i.mode i.argument s.memory x i.number h

      go : (m : Bool) → matches_at t ≡ m
          → (λ (b : ℕ). cond (eqb b (as_word (cond m (word (target_of t)) (word 0)))) (as_word (cond m (word x.accu) (word (s.memory (as_word (cond m (word (target_of t)) (word 0))))))) (s.memory b))
          ≡ memory_after (cond m (wrote (address_of i x s.memory) x.accu) no_write) s.memory
      go true e = wrote-is s.memory (target_of t) x.accu ∙ ap (λ a. memory_after (wrote a x.accu) s.memory) (sym (address_is e))
      go false e = own_value s.memory 0

module _ (S : Set) (cs : List ℕ) (g : Assignment) (k : ℕ) (slots : Slot → Value) (s : State) (c : Choice) (given : Given S cs g k slots s c) where
  abbrev at : ℕ → Slot → Value
  at = stage S cs g k slots

  abbrev cells : ℕ → ℕ
  cells = s.memory

  -- ---- the CAS of a thread

  abbrev matches : ℕ → Bool
  matches t = matches_at S s t

  module _ (t : ℕ) (ht : t < S.threads) where
    abbrev x : Thread
    x = s.threads t

    abbrev i : Statement
    i = current S s t

    abbrev e : Bool
    e = g.choice k 0 t

    abbrev fits : i.number ≤ 20
    fits = number_fits S cs g k slots s c given t ht

    abbrev match : Bool
    match = match_of i.mode i.argument cells x

    -- the links of a thread's CASs: the effect of the one that executes and matches
    swap_links : (v : Slot → Value) → ((j : ℕ) (hj : j < S.count t) → v (slot swaps t j) ≡ bit (swaps_at S cs g k slots s c given t ht j hj)) → (effect : ℕ → Slot) (A B : Value)
        → (x.pc < S.count t → eqb i.number CAS ≡ true → v (effect x.pc) ≡ A)
        → links_value v (λ j. cond (eqb (S.statement t j).number CAS) (if_then word_sort (slot swaps t j) (effect j)) skip) (S.count t) B ≡ cond (e && matches t) A B
    swap_links v shown effect A B inside =
        links-at v (λ j. cond (eqb (S.statement t j).number CAS) (if_then word_sort (slot swaps t j) (effect j)) skip) (S.count t) x.pc e B
        (λ j l h. quiet-cond v (eqb (S.statement t j).number CAS) (if_then word_sort (slot swaps t j) (effect j)) skip
        (quiet_if v word_sort (slot swaps t j) (effect j) (ap as_bit (shown j l) ∙ idle j h)) (λ w. refl))
        ∙ (go e refl (ltb x.pc (S.count t)) refl ∙ sym (ap (λ b. cond (e && b) A B) (cas-row i.mode i.argument cells x i.number fits)))
      where
        idle : (j : ℕ) → (eqb x.pc j && e) ≡ false → cond (eqb (S.statement t j).number CAS) ((eqb x.pc j && e) && match_of (S.statement t j).mode (S.statement t j).argument cells x) false ≡ false
        idle j h = ap (λ b. cond (eqb (S.statement t j).number CAS) (b && match_of (S.statement t j).mode (S.statement t j).argument cells x) false) h ∙ both (eqb (S.statement t j).number CAS)
          where
            both : (b : Bool) → cond b false false ≡ false
            both true = refl
            both false = refl

        here : (b : Bool) → eqb i.number CAS ≡ b → x.pc < S.count t → e ≡ true
            → link_value v (cond b (if_then word_sort (slot swaps t x.pc) (effect x.pc)) skip) B ≡ cond (b && match) A B
        here true p l h =
            let on : as_bit (v (slot swaps t x.pc)) ≡ match = ap as_bit (shown x.pc l) ∙ (λ z. cond (p z) (and_true (eq-eqb x.pc x.pc refl) h z && match) false) in
            λ z. cond (on z) (inside l p z) B
        here false p l h = refl

        go : (b : Bool) → e ≡ b → (d : Bool) → ltb x.pc (S.count t) ≡ d
            → cond (d && b) (link_value v (cond (eqb i.number CAS) (if_then word_sort (slot swaps t x.pc) (effect x.pc)) skip) B) B ≡ cond (b && (eqb i.number CAS && match)) A B
        go false h d l = passed _ _ (and_right_false d refl)
        go true h true l = here (eqb i.number CAS) refl (ltb-true x.pc (S.count t) l) h
        go true h false l =
            sym (passed A B (and_false match (ap (λ (j : Statement). eqb j.number CAS) (past S cs g k slots s c given t ht (ltb-false x.pc (S.count t) l)))))

  -- the acting thread's CAS
  abbrev hits : Bool
  hits = executing c && matches (actor c)

  hits-is : (u : ℕ) → u < S.threads → (g.choice k 0 u && matches u) ≡ (eqb (actor c) u && hits)
  hits-is u hu = ap (λ b. b && matches u) (executes-is S cs g k slots s c given u hu) ∙ go (eqb (actor c) u) refl
    where
      go : (b : Bool) → eqb (actor c) u ≡ b → ((b && executing c) && matches u) ≡ (b && hits)
      go true h = ap (λ v. executing c && matches v) (sym (eqb-true (actor c) u h))
      go false h = refl

  -- ---- the flush of a thread

  flush-links : (v : Slot → Value) → ((u : ℕ) → u < S.threads → v (slot choice 0 (S.threads + u)) ≡ bit (g.choice k 1 u)) → (effect : ℕ → Slot) (A B : Value)
      → v (effect (actor c)) ≡ A → links_value v (λ u. if_then word_sort (slot choice 0 (S.threads + u)) (effect u)) S.threads B ≡ cond (flushing c) A B
  flush-links v shown effect A B e =
      let below = actor-below S cs g k slots s c given in
      let on : as_bit (v (slot choice 0 (S.threads + actor c))) ≡ (eqb (actor c) (actor c) && flushing c) = ap as_bit (shown (actor c) below ∙ ap bit (flushes-is S cs g k slots s c given (actor c) below)) in
      links-at v (λ u. if_then word_sort (slot choice 0 (S.threads + u)) (effect u)) S.threads (actor c) (flushing c) B
      (λ u l h. quiet_if v word_sort (slot choice 0 (S.threads + u)) (effect u) (ap as_bit (shown u l ∙ ap bit (flushes-is S cs g k slots s c given u l)) ∙ h))
      ∙ ((λ z. cond (lt-ltb (actor c) S.threads below z && flushing c) (cond (on z) (e z) B) B)
      ∙ ((λ z. cond (flushing c) (cond (eq-eqb (actor c) (actor c) refl z && flushing c) A B) B) ∙ once (flushing c)))
    where
      once : (b : Bool) → cond b (cond b A B) B ≡ cond b A B
      once true = refl
      once false = refl

  flush-bits : (n : ℕ) → ((u : ℕ) → at n (slot choice 0 (S.threads + u)) ≡ slots (slot choice 0 (S.threads + u))) → (u : ℕ) → u < S.threads → at n (slot choice 0 (S.threads + u)) ≡ bit (g.choice k 1 u)
  flush-bits n h u l = h u ∙ given.ready.chosen.flushes_is u l

  -- ---- the cell's address

  abbrev acting : Thread
  acting = s.threads (actor c)

  abbrev place : Value
  place = place_of S s c

  flush_to_value : at 7 (only flush_to) ≡ cond (flushing c) (word acting.adr) (word 0)
  flush_to_value =
      let below = actor-below S cs g k slots s c given in
      settles S cs g k slots 6 flush_to refl 0 0 (omega arith) (omega arith) refl refl
      ∙ (ap (links_value (at 6) (link S cs k flush_to 0 0) S.threads) (was S cs g k slots word_zero 0 0 6 refl ∙ given.ready.constants.word_zero_is)
      ∙ flush-links (at 6) (flush-bits 6 (λ u. was S cs g k slots choice 0 (S.threads + u) 6 refl)) (λ u. slot adr u 0) (word acting.adr) (word 0)
      (was S cs g k slots adr (actor c) 0 6 refl ∙ given.ready.shows.adr_is (actor c) below))

  write_to_next : (u : ℕ) → u < S.threads
      → at 8 (slot write_to 0 (suc u)) ≡ cond (g.choice k 0 u && matches u) (word (target_of S s u)) (at 8 (slot write_to 0 u))
  write_to_next u hu =
      let first : eqb (suc u) 0 ≡ false = ne_eqb (suc u) 0 (λ (q : suc u ≡ 0). omega arith) in
      let before : suc u - 1 ≡ u = omega arith in
      scanned S cs g k slots 7 write_to refl 0 (suc u) (omega arith) (omega arith) refl refl
      ∙ ((λ z. links_value (at 8) (λ j. cond (eqb (S.statement (before z) j).number CAS) (if_then word_sort (slot swaps (before z) j) (slot address (before z) j)) skip)
      (cond (first z) 0 (S.count (before z))) (at 8 (cond (first z) (only flush_to) (slot write_to 0 (before z)))))
      ∙ swap_links u hu (at 8) (λ j l. since S cs g k slots swaps u j 3 8 refl ∙ swaps_value S cs g k slots s c given u hu j l) (λ j. slot address u j) _ (at 8 (slot write_to 0 u))
      (λ l h. since S cs g k slots address u (s.threads u).pc 1 8 refl ∙ address-value S cs g k slots s c given u hu (s.threads u).pc l))

  write_to_value : at 8 (slot write_to 0 S.threads) ≡ place
  write_to_value =
      let below = actor-below S cs g k slots s c given in
      scan-one (λ u. at 8 (slot write_to 0 u)) (λ u. g.choice k 0 u && matches u) (λ u. word (target_of S s u)) (actor c) hits S.threads write_to_next hits-is
      ∙ (λ z. cond (lt-ltb (actor c) S.threads below z && hits) (word (target_of S s (actor c)))
      ((scanned S cs g k slots 7 write_to refl 0 0 (omega arith) (omega arith) refl refl ∙ (links-none (at 8) (link S cs k write_to 0 0) _ ∙ (since S cs g k slots flush_to 0 0 7 8 refl ∙ flush_to_value))) z))

  -- ---- its value

  abbrev content : Value
  content = content_of S s c

  flush_value_value : at 9 (only flush_value) ≡ cond (flushing c) (word acting.val) (word (cells (as_word place)))
  flush_value_value =
      let below = actor-below S cs g k slots s c given in
      let memory_is : at 8 (only shared_memory) ≡ memory cells = was S cs g k slots shared_memory 0 0 8 refl ∙ given.ready.shows.memory_is in
      settles S cs g k slots 8 flush_value refl 0 0 (omega arith) (omega arith) refl refl
      ∙ ((λ z. links_value (at 8) (link S cs k flush_value 0 0) S.threads (word (as_memory (memory_is z) (as_word (write_to_value z)))))
      ∙ flush-links (at 8) (flush-bits 8 (λ u. was S cs g k slots choice 0 (S.threads + u) 8 refl)) (λ u. slot val u 0) (word acting.val) (word (cells (as_word place)))
      (was S cs g k slots val (actor c) 0 8 refl ∙ given.ready.shows.val_is (actor c) below))

  write_value_next : (u : ℕ) → u < S.threads → at 10 (slot write_value 0 (suc u)) ≡ cond (g.choice k 0 u && matches u) (word (s.threads u).accu) (at 10 (slot write_value 0 u))
  write_value_next u hu =
      let first : eqb (suc u) 0 ≡ false = ne_eqb (suc u) 0 (λ (q : suc u ≡ 0). omega arith) in
      let before : suc u - 1 ≡ u = omega arith in
      scanned S cs g k slots 9 write_value refl 0 (suc u) (omega arith) (omega arith) refl refl
      ∙ ((λ z. links_value (at 10) (λ j. cond (eqb (S.statement (before z) j).number CAS) (if_then word_sort (slot swaps (before z) j) (slot accu (before z) 0)) skip)
      (cond (first z) 0 (S.count (before z))) (at 10 (cond (first z) (only flush_value) (slot write_value 0 (before z)))))
      ∙ swap_links u hu (at 10) (λ j l. since S cs g k slots swaps u j 3 10 refl ∙ swaps_value S cs g k slots s c given u hu j l) (λ j. slot accu u 0) (word (s.threads u).accu) (at 10 (slot write_value 0 u))
      (λ l h. was S cs g k slots accu u 0 10 refl ∙ given.ready.shows.accu_is u hu))

  write_value_value : at 10 (slot write_value 0 S.threads) ≡ content
  write_value_value =
      let below = actor-below S cs g k slots s c given in
      scan-one (λ u. at 10 (slot write_value 0 u)) (λ u. g.choice k 0 u && matches u) (λ u. word (s.threads u).accu) (actor c) hits S.threads write_value_next hits-is
      ∙ (λ z. cond (lt-ltb (actor c) S.threads below z && hits) (word acting.accu)
      ((scanned S cs g k slots 9 write_value refl 0 0 (omega arith) (omega arith) refl refl ∙ (links-none (at 10) (link S cs k write_value 0 0) _ ∙ (since S cs g k slots flush_value 0 0 9 10 refl ∙ flush_value_value))) z))

  -- ---- memory

  pub memory-value : at 14 (only shared_memory) ≡ memory (memory_after (written S s c) cells)
  memory-value =
      let memory_is : at 13 (only shared_memory) ≡ memory cells = was S cs g k slots shared_memory 0 0 13 refl ∙ given.ready.shows.memory_is in
      let place_is : at 13 (slot write_to 0 S.threads) ≡ place = since S cs g k slots write_to 0 S.threads 8 13 refl ∙ write_to_value in
      let content_is : at 13 (slot write_value 0 S.threads) ≡ content = since S cs g k slots write_value 0 S.threads 10 13 refl ∙ write_value_value in
      settles S cs g k slots 13 shared_memory refl 0 0 (omega arith) (omega arith) refl refl ∙ (links-none (at 13) (link S cs k shared_memory 0 0) _
      ∙ ((λ z. memory (λ b. cond (eqb b (as_word (place_is z))) (as_word (content_is z)) (as_memory (memory_is z) b))) ∙ ap memory (cells-after S s c (number_fits S cs g k slots s c given (actor c) (actor-below S cs g k slots s c given)))))
