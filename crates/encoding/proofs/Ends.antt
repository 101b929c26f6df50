-- A step's next end and code are the machine's. Assumes nothing.
use Prim.Native.Nat.{ℕ, zero, suc, ◌-◌, ◌<◌}
use mathlib.Core.Path.{◌≡◌, refl, ap, ap₂, sym, ◌∙◌}
use mathlib.Core.Bool.{Bool, true, false, cond, ◌&&◌, ◌||◌, and_comm}
use mathlib.Core.List.{List}
use native.Mathlib.Omega.{arith}
use borrow.Author.Tests.{lt-ltb, eqb-true, ne_eqb}
use lib.Dec.{eqb}
use Rattle.base.specs.Below.{every}
use Rattle.records.specs.Instructions.{EXIT}
use Rattle.records.specs.Sets.{Set}
use Rattle.machine.specs.Machine.{State, current, actor, threads_after, all_halted, exits as exits_by}
use Rattle.machine.specs.declared.Choice.{Choice}
use Rattle.machine.specs.declared.Choice.TheVariants.{Execute, Flush}
use Rattle.machine.specs.declared.Thread.{Thread}
use Rattle.table.specs.Formulas.{bit_sort, word_sort}
use Rattle.table.specs.Values.{Assignment, Value, bit, word, as_bit}
use Rattle.encoding.specs.Slots.{active, exits, codes, halted, halts, ended, code, bit_one, argument, Slot, slot}
use Rattle.encoding.specs.Steps.{and_with, only, if_active, link}
use Rattle.encoding.proofs.Active.{executing, scan-one, actor-below, executes-is, thread-after, active_at, active_links, uncounted}
use Rattle.encoding.proofs.Blocks.{links_value, links-none}
use Rattle.encoding.proofs.Registers.{halted_value}
use Rattle.encoding.proofs.Stages.{Given, stage, was, since, settles, scanned}
use Rattle.encoding.proofs.Statements.{word-cond, bit-cond}

-- all of n slots
and_links : (v : Slot → Value) (n : ℕ) (test : ℕ → Bool) → ((t : ℕ) → t < n → v (slot halted t 0) ≡ bit (test t)) → links_value v (λ t. and_with (slot halted t 0)) n (bit true) ≡ bit (every n test)
unfolding links_value every
and_links v zero test h = refl
and_links v (suc n) test h = (λ z. bit (as_bit (h n (omega arith) z) && as_bit (and_links v n test (λ t l. h t (omega arith)) z))) ∙ ap bit (and_comm (test n) (every n test))

every-same : (n : ℕ) (f h : ℕ → Bool) → ((t : ℕ) → t < n → f t ≡ h t) → every n f ≡ every n h
unfolding every
every-same zero f h e = refl
every-same (suc n) f h e = ap₂ (λ (a b : Bool). a && b) (every-same n f h (λ t l. e t (omega arith))) (e n (omega arith))

twice : (a b : Bool) (A B : Value) → cond a (cond b A B) B ≡ cond (a && b) A B
twice true b A B = refl
twice false b A B = refl

exits_by_lem : (S : Set) (s : State) (c : Choice) → (executing c && eqb (current S s (actor c)).number EXIT) ≡ exits_by S s c
exits_by_lem S s (Execute t) = refl
exits_by_lem S s (Flush t) = refl

module _ (S : Set) (cs : List ℕ) (g : Assignment) (k : ℕ) (slots : Slot → Value) (s : State) (c : Choice) (given : Given S cs g k slots s c) where
  abbrev at : ℕ → Slot → Value
  at = stage S cs g k slots

  abbrev exiting : ℕ → Bool
  exiting t = eqb (current S s t).number EXIT

  exits-is : (u : ℕ) → u < S.threads → (g.choice k 0 u && exiting u) ≡ (eqb (actor c) u && exits_by S s c)
  exits-is u hu = ap (λ b. b && exiting u) (executes-is S cs g k slots s c given u hu) ∙ (go (eqb (actor c) u) refl ∙ ap (λ b. eqb (actor c) u && b) (exits_by_lem S s c))
    where
      go : (b : Bool) → eqb (actor c) u ≡ b → ((b && executing c) && exiting u) ≡ (b && (executing c && exiting (actor c)))
      go true h = ap (λ v. executing c && exiting v) (sym (eqb-true (actor c) u h))
      go false h = refl

  exits-next : (u : ℕ) → u < S.threads → at 12 (slot exits 0 (suc u)) ≡ cond (g.choice k 0 u && exiting u) (bit true) (at 12 (slot exits 0 u))
  exits-next u hu =
      let first : eqb (suc u) 0 ≡ false = ne_eqb (suc u) 0 (λ (q : suc u ≡ 0). omega arith) in
      let before : suc u - 1 ≡ u = omega arith in
      scanned S cs g k slots 11 exits refl 0 (suc u) (omega arith) (omega arith) refl refl
      ∙ ((λ z. links_value (at 12) (λ j. if_active S cs k (eqb (S.statement (before z) j).number EXIT) bit_sort (before z) j (only bit_one))
      (cond (first z) 0 (S.count (before z))) (at 12 (cond (first z) (only ended) (slot exits 0 (before z)))))
      ∙ (active_links S cs g k slots s c given u hu (at 12) (active_at S cs g k slots s c given u hu 12 (λ j. was S cs g k slots active u j 12 refl))
      (λ j. eqb (S.statement u j).number EXIT) bit_sort (λ j. only bit_one) (bit true) (at 12 (slot exits 0 u))
      (λ l. was S cs g k slots bit_one 0 0 12 refl ∙ given.ready.constants.yes_is) (uncounted S cs g k slots s c given u hu (λ n. eqb n EXIT) refl)
      ∙ twice (g.choice k 0 u) (exiting u) (bit true) (at 12 (slot exits 0 u))))

  exits-value : at 12 (slot exits 0 S.threads) ≡ bit (exits_by S s c || s.ended)
  exits-value =
      let below = actor-below S cs g k slots s c given in
      scan-one (λ u. at 12 (slot exits 0 u)) (λ u. g.choice k 0 u && exiting u) (λ u. bit true) (actor c) (exits_by S s c) S.threads exits-next exits-is
      ∙ ((λ z. cond (lt-ltb (actor c) S.threads below z && exits_by S s c) (bit true)
      ((scanned S cs g k slots 11 exits refl 0 0 (omega arith) (omega arith) refl refl ∙ (links-none (at 12) (link S cs k exits 0 0) _ ∙ (was S cs g k slots ended 0 0 12 refl ∙ given.ready.shows.ended_is))) z))
      ∙ (bit-cond (exits_by S s c) true s.ended ∙ ap bit (or_is (exits_by S s c) s.ended)))
    where
      or_is : (a b : Bool) → cond a true b ≡ (a || b)
      or_is true b = refl
      or_is false b = refl

  codes_next : (u : ℕ) → u < S.threads → at 13 (slot codes 0 (suc u)) ≡ cond (g.choice k 0 u && exiting u) (word (current S s u).argument) (at 13 (slot codes 0 u))
  codes_next u hu =
      let first : eqb (suc u) 0 ≡ false = ne_eqb (suc u) 0 (λ (q : suc u ≡ 0). omega arith) in
      let before : suc u - 1 ≡ u = omega arith in
      scanned S cs g k slots 12 codes refl 0 (suc u) (omega arith) (omega arith) refl refl
      ∙ ((λ z. links_value (at 13) (λ j. if_active S cs k (eqb (S.statement (before z) j).number EXIT) word_sort (before z) j (slot argument (before z) j))
      (cond (first z) 0 (S.count (before z))) (at 13 (cond (first z) (only code) (slot codes 0 (before z)))))
      ∙ (active_links S cs g k slots s c given u hu (at 13) (active_at S cs g k slots s c given u hu 13 (λ j. was S cs g k slots active u j 13 refl))
      (λ j. eqb (S.statement u j).number EXIT) word_sort (λ j. slot argument u j) (word (current S s u).argument) (at 13 (slot codes 0 u))
      (λ l. was S cs g k slots argument u (s.threads u).pc 13 refl ∙ given.ready.constants.argument_is u (s.threads u).pc hu l) (uncounted S cs g k slots s c given u hu (λ n. eqb n EXIT) refl)
      ∙ twice (g.choice k 0 u) (exiting u) (word (current S s u).argument) (at 13 (slot codes 0 u))))

  codes_value : at 13 (slot codes 0 S.threads) ≡ word (cond (exits_by S s c) (current S s (actor c)).argument s.code)
  codes_value =
      let below = actor-below S cs g k slots s c given in
      scan-one (λ u. at 13 (slot codes 0 u)) (λ u. g.choice k 0 u && exiting u) (λ u. word (current S s u).argument) (actor c) (exits_by S s c) S.threads codes_next exits-is
      ∙ ((λ z. cond (lt-ltb (actor c) S.threads below z && exits_by S s c) (word (current S s (actor c)).argument)
      ((scanned S cs g k slots 12 codes refl 0 0 (omega arith) (omega arith) refl refl ∙ (links-none (at 13) (link S cs k codes 0 0) _ ∙ (was S cs g k slots code 0 0 13 refl ∙ given.ready.shows.code_is))) z))
      ∙ word-cond (exits_by S s c) (current S s (actor c)).argument s.code)

  halts_value : at 23 (only halts) ≡ bit (all_halted S (threads_after S s c))
  halts_value =
      settles S cs g k slots 22 halts refl 0 0 (omega arith) (omega arith) refl refl
      ∙ (ap (links_value (at 22) (link S cs k halts 0 0) S.threads) (was S cs g k slots bit_one 0 0 22 refl ∙ given.ready.constants.yes_is)
      ∙ and_links (at 22) S.threads (λ t. (threads_after S s c t).halted)
      (λ t l. since S cs g k slots halted t 0 20 22 refl ∙ (halted_value S cs g k slots s c given t l ∙ ap (λ (y : Thread). bit y.halted) (thread-after S cs g k slots s c given t l))))

  pub ended-value : at 24 (only ended) ≡ bit (s.ended || exits_by S s c || all_halted S (threads_after S s c))
  ended-value =
      let exits_is : at 23 (slot exits 0 S.threads) ≡ bit (exits_by S s c || s.ended) = since S cs g k slots exits 0 S.threads 12 23 refl ∙ exits-value in
      settles S cs g k slots 23 ended refl 0 0 (omega arith) (omega arith) refl refl ∙ (links-none (at 23) (link S cs k ended 0 0) _
      ∙ ((λ z. bit (as_bit (halts_value z) || as_bit (exits_is z))) ∙ ap bit (order (all_halted S (threads_after S s c)) (exits_by S s c) s.ended)))
    where
      order : (a b d : Bool) → (a || (b || d)) ≡ (d || b || a)
      order true true true = refl
      order true true false = refl
      order true false true = refl
      order true false false = refl
      order false true true = refl
      order false true false = refl
      order false false true = refl
      order false false false = refl

  pub code-value : at 25 (only code) ≡ word (cond (exits_by S s c) (current S s (actor c)).argument s.code)
  code-value =
      settles S cs g k slots 24 code refl 0 0 (omega arith) (omega arith) refl refl
      ∙ (links-none (at 24) (link S cs k code 0 0) _ ∙ (since S cs g k slots codes 0 S.threads 13 24 refl ∙ codes_value))
