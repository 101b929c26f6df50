-- Each tree of a step names values that stay, or that were set before it in the step. Assumes nothing.
use Prim.Native.Nat.{ℕ, suc, ◌+◌, ◌-◌, ◌<◌}
use mathlib.Core.Path.{◌≡◌, refl, ap, ◌∙◌}
use mathlib.Core.Bool.{Bool, true, false, cond, ◌&&◌}
use mathlib.Core.List.{List}
use native.Mathlib.Omega.{arith}
use borrow.Author.Tests.{eqb-false, ltb-true}
use lib.Dec.{eqb, ltb}
use Rattle.base.proofs.Choice.{cond_both, and_true}
use Rattle.records.specs.Instructions.{STORE, MEM, CAS, HALT, EXIT, CHECK}
use Rattle.records.specs.Sets.{Set}
use Rattle.machine.specs.Machine.{needs_empty}
use Rattle.table.specs.Formulas.{bit_sort, word_sort}
use Rattle.table.specs.Programs.{ref, unary, binary, ternary, not1, and2, equal2, read2, if3}
use Rattle.encoding.specs.Slots.{Kind, choice, active, opening, shut, barred, held, waits, may_execute, none, permitted_first, one_permitted, address, loaded, swaps, result, test, not_test, flush_to, write_to, flush_value, write_value, raised, exits, codes, shared_memory, val, adr, mem, accu, full, halted, flag, mark, halts, ended, code, bit_zero as bit0, bit_one as bit1, word_zero, word_one, argument, Slot, slot, Term, kind_number}
use Rattle.encoding.specs.Steps.{Link, skip, if_then, and_with, or_with, only, word0, loads, sets_accu, is_conditional, is_one_way, is_plain, rests, number_of, argument_of, checkpoint, has, load_tree, indirect_tree, result_tree, test_tree, none_tree, leaving_tree, base, leads, links, link, ruled, step}
use Rattle.encoding.proofs.Blocks.{refs, refs-both, link_refs, chain-refs}
use Rattle.encoding.proofs.Sources.{steady}
use Rattle.encoding.proofs.Results.{result_each, test-each}
use Rattle.encoding.proofs.Walks.{There, Below, SetBefore, Along, along-step}

module _ (S : Set) (cs : List ℕ) (done : Slot → Bool) where
  -- a link that is there under a test, and no link
  link_if : (b : Bool) (l : Link) → (b ≡ true → link_refs done l ≡ true) → link_refs done (cond b l skip) ≡ true
  link_if true l f = f refl
  link_if false l f = refl

  result_known : (n t i : ℕ) → done (slot accu t 0) ≡ true → done (slot loaded t i) ≡ true → done (slot argument t i) ≡ true → (refs done (ternary (if3 word_sort) (ref (slot swaps t i)) (ref (only word_one)) (ref word0))) ≡ true →
      refs done (result_tree S cs 0 n t i) ≡ true
  result_known n t i x w v s = result_each S cs 0 (λ (u : Term). refs done u ≡ true) n t i (λ o. and_true x w) (λ o. and_true x v) s w

  test_known : (n t : ℕ) → done (slot accu t 0) ≡ true → done word0 ≡ true → done (only bit0) ≡ true → refs done (test_tree S cs 0 n t) ≡ true
  test_known n t x z o = test-each S cs 0 (λ (u : Term). refs done u ≡ true) n t (and_true x z) x (and_true x (and_true x z)) o

  leads-known : (t j i : ℕ) → done (slot active t i) ≡ true → done (slot test t i) ≡ true → done (slot not_test t i) ≡ true → done (only bit1) ≡ true → link_refs done (leads S cs 0 t j i) ≡ true
  leads-known t j i x p q y =
      let n = number_of S cs 0 t i in
      let target = argument_of S cs 0 t i in
      let on = slot active t i in
      let always = if_then bit_sort on (only bit1) in
      let taken = if_then bit_sort on (slot (cond (is_plain n) test not_test) t i) in
      let missed = if_then bit_sort on (slot (cond (is_plain n) not_test test) t i) in
      let jump = cond (eqb target j) always skip in
      let miss = cond (eqb (suc i) j) missed skip in
      let both = cond (eqb target j) taken miss in
      let next = cond (eqb (suc i) j) always skip in
      pick (rests n) skip (cond (is_one_way n target i) jump (cond (is_conditional n) both next)) refl
      (pick (is_one_way n target i) jump (cond (is_conditional n) both next) (link_if (eqb target j) always (λ e. and_true x y))
      (pick (is_conditional n) both next
      (pick (eqb target j) taken miss (and_true x (named (is_plain n) test not_test p q)) (link_if (eqb (suc i) j) missed (λ e. and_true x (named (is_plain n) not_test test q p))))
      (link_if (eqb (suc i) j) always (λ e. and_true x y))))
    where
      pick : (b : Bool) (l m : Link) → link_refs done l ≡ true → link_refs done m ≡ true → link_refs done (cond b l m) ≡ true
      pick b l m = cond_both (λ (l : Link). link_refs done l ≡ true) b {x = l} {y = m}

      named : (b : Bool) (l m : Kind) → done (slot l t i) ≡ true → done (slot m t i) ≡ true → done (slot (cond b l m) t i) ≡ true
      named b l m = cond_both (λ (l : Kind). done (slot l t i) ≡ true) b {x = l} {y = m}

  module _ (kind : Kind) (a b : ℕ) (h : There S cs kind a b) (g : SetBefore S cs steady done kind a b) where
    -- a value that stays
    still : (x : Slot) → steady x ≡ true → done x ≡ true
    still x e = g.from_start x e

    -- one of an earlier kind
    early : (l : Kind) (c d : ℕ) → kind_number l < kind_number kind → There S cs l c d → done (slot l c d) ≡ true
    early l c d e t = g.kinds_before l c d e t

    -- the one before in its row, or before the first another one
    scan : (l : Kind) (first : Slot) → a < 1 → done first ≡ true → ((d : ℕ) → d < b → done (slot l a d) ≡ true) → done (cond (eqb b 0) first (slot l 0 (b - 1))) ≡ true
    scan l first r e left = go (eqb b 0) refl
      where
        go : (t : Bool) → eqb b 0 ≡ t → done (cond t first (slot l 0 (b - 1))) ≡ true
        go true f = e
        go false f = let far = eqb-false b 0 f in let z : 0 ≡ a = omega arith in ap (λ (c : ℕ). done (slot l c (b - 1))) z ∙ left (b - 1) (omega arith)

    load-known : (t : ℕ) (x : Slot) → done x ≡ true → refs done (load_tree S cs 0 t x) ≡ true
    load-known t x e = and_true (and_true (still (slot full t 0) refl) (and_true (still (slot adr t 0) refl) e)) (and_true (still (slot val t 0) refl) (and_true (still (only shared_memory) refl) e))

    -- the choice bits: thread a executes, or flushes
    pub choice-known : (j : ℕ) → 0 < kind_number kind → j < S.threads + S.threads → done (slot choice 0 j) ≡ true
    choice-known j l e = early choice 0 j l (record { row = omega arith; column = e; is = refl })

    -- of the thread before b
    prior : (i : ℕ) → i < cond (eqb b 0) 0 (S.count (b - 1)) → b < suc S.threads → There S cs active (b - 1) i
    prior i = go (eqb b 0) refl
      where
        go : (t : Bool) → eqb b 0 ≡ t → i < cond t 0 (S.count (b - 1)) → b < suc S.threads → There S cs active (b - 1) i
        go true e l m = absurd (omega arith)
        go false e l m = let far = eqb-false b 0 e in record { row = omega arith; column = l; is = refl }

  none-known : (a b : ℕ) (h : There S cs none a b) (g : SetBefore S cs steady done none a b) → refs done (cond (eqb b 0) (ref (only bit1)) (none_tree S cs 0 b)) ≡ true
  none-known a b h g = go (eqb b 0) refl
    where
      go : (t : Bool) → eqb b 0 ≡ t → refs done (cond t (ref (only bit1)) (none_tree S cs 0 b)) ≡ true
      go true e = still none a b h g (only bit1) refl
      go false e =
          let far = eqb-false b 0 e in
          let r = h.row in
          let c = h.column in
          let z : 0 ≡ a = omega arith in
          and_true (choice-known none a b h g (b - 1) (omega arith) (omega arith)) (and_true (still none a b h g (only bit0) refl) (ap (λ (c : ℕ). done (slot none c (b - 1))) z ∙ g.row_before (b - 1) (omega arith) refl))

  fit-known : (a b : ℕ) (h : There S cs permitted_first a b) (g : SetBefore S cs steady done permitted_first a b) → refs done (base S cs 0 permitted_first a b) ≡ true
  fit-known a b h g = and_true (go (ltb b S.threads) refl) (let c = h.column in early permitted_first a b h g none 0 b (omega arith) (record { row = omega arith; column = omega arith; is = refl }))
    where
      go : (t : Bool) → ltb b S.threads ≡ t → done (cond t (slot may_execute b 0) (slot full (b - S.threads) 0)) ≡ true
      go true e = early permitted_first a b h g may_execute b 0 (omega arith) (record { row = ltb-true b S.threads e; column = omega arith; is = refl })
      go false e = still permitted_first a b h g (slot full (b - S.threads) 0) refl

  base-known : (kind : Kind) → kind_number kind < 36 → (a b : ℕ) → There S cs kind a b → SetBefore S cs steady done kind a b → refs done (base S cs 0 kind a b) ≡ true
  base-known choice n a b h g = refl
  base-known active n a b h g = and_true (still active a b h g (slot flag a b) refl) (let l = h.row in choice-known active a b h g a (omega arith) (omega arith))
  base-known opening n a b h g = still opening a b h g (only bit1) refl
  base-known shut n a b h g = early shut a b h g opening 0 b (omega arith) (record { row = omega arith; column = h.column; is = refl })
  base-known barred n a b h g = still barred a b h g (only bit0) refl
  base-known held n a b h g = and_true (still held a b h g (slot mark a b) refl) (early held a b h g shut 0 b (omega arith) (record { row = omega arith; column = h.column; is = refl }))
  base-known waits n a b h g = still waits a b h g (slot halted a 0) refl
  base-known may_execute n a b h g = and_true (and_true (still may_execute a b h g (slot full a 0) refl) (early may_execute a b h g barred a 0 (omega arith) (record { row = h.row; column = omega arith; is = refl }))) (early may_execute a b h g waits a 0 (omega arith) (record { row = h.row; column = omega arith; is = refl }))
  base-known none n a b h g = none-known a b h g
  base-known permitted_first n a b h g = fit-known a b h g
  base-known one_permitted n a b h g = still one_permitted a b h g (only bit0) refl
  base-known address n a b h g = refs-both done (eqb (S.statement a b).mode 1) (indirect_tree S cs 0 a b) (ref (slot argument a b)) (load-known address a b h g a (slot argument a b) (still address a b h g (slot argument a b) refl)) (still address a b h g (slot argument a b) refl)
  base-known loaded n a b h g = refs-both done (loads (number_of S cs 0 a b)) (load_tree S cs 0 a (slot address a b)) (ref word0) (load-known loaded a b h g a (slot address a b) (early loaded a b h g address a b (omega arith) (record { row = h.row; column = h.column; is = refl }))) (still loaded a b h g (word0) refl)
  base-known swaps n a b h g = refs-both done (eqb (number_of S cs 0 a b) CAS) (binary and2 (ref (slot active a b)) (binary equal2 (binary read2 (ref (only shared_memory)) (ref (slot address a b))) (ref (slot mem a 0)))) (ref (only bit0)) (and_true (early swaps a b h g active a b (omega arith) (record { row = h.row; column = h.column; is = refl })) (and_true (and_true (still swaps a b h g (only shared_memory) refl) (early swaps a b h g address a b (omega arith) (record { row = h.row; column = h.column; is = refl }))) (still swaps a b h g (slot mem a 0) refl))) (still swaps a b h g (only bit0) refl)
  base-known result n a b h g = result_known (number_of S cs 0 a b) a b (still result a b h g (slot accu a 0) refl) (early result a b h g loaded a b (omega arith) (record { row = h.row; column = h.column; is = refl })) (still result a b h g (slot argument a b) refl) (and_true (early result a b h g swaps a b (omega arith) (record { row = h.row; column = h.column; is = refl })) (and_true (still result a b h g (only word_one) refl) (still result a b h g (word0) refl)))
  base-known test n a b h g = test_known (number_of S cs 0 a b) a (still test a b h g (slot accu a 0) refl) (still test a b h g (word0) refl) (still test a b h g (only bit0) refl)
  base-known not_test n a b h g = refs-both done (is_conditional (number_of S cs 0 a b)) (unary not1 (ref (slot test a b))) (ref (only bit0)) (early not_test a b h g test a b (omega arith) (record { row = h.row; column = h.column; is = refl })) (still not_test a b h g (only bit0) refl)
  base-known flush_to n a b h g = still flush_to a b h g (word0) refl
  base-known write_to n a b h g = scan write_to a b h g write_to (only flush_to) h.row (early write_to a b h g flush_to 0 0 (omega arith) (record { row = omega arith; column = omega arith; is = refl })) (λ d l. g.row_before d l refl)
  base-known flush_value n a b h g = and_true (still flush_value a b h g (only shared_memory) refl) (early flush_value a b h g write_to 0 S.threads (omega arith) (record { row = omega arith; column = omega arith; is = refl }))
  base-known write_value n a b h g = scan write_value a b h g write_value (only flush_value) h.row (early write_value a b h g flush_value 0 0 (omega arith) (record { row = omega arith; column = omega arith; is = refl })) (λ d l. g.row_before d l refl)
  base-known raised n a b h g = still raised a b h g (only bit0) refl
  base-known exits n a b h g = scan exits a b h g exits (only ended) h.row (still exits a b h g (only ended) refl) (λ d l. g.row_before d l refl)
  base-known codes n a b h g = scan codes a b h g codes (only code) h.row (still codes a b h g (only code) refl) (λ d l. g.row_before d l refl)
  base-known shared_memory n a b h g = and_true (still shared_memory a b h g (only shared_memory) refl) (and_true (early shared_memory a b h g write_to 0 S.threads (omega arith) (record { row = omega arith; column = omega arith; is = refl })) (early shared_memory a b h g write_value 0 S.threads (omega arith) (record { row = omega arith; column = omega arith; is = refl })))
  base-known val n a b h g = still val a b h g (slot val a 0) refl
  base-known adr n a b h g = still adr a b h g (slot adr a 0) refl
  base-known mem n a b h g = still mem a b h g (slot mem a 0) refl
  base-known accu n a b h g = still accu a b h g (slot accu a 0) refl
  base-known full n a b h g = and_true (let l = h.row in choice-known full a b h g (S.threads + a) (omega arith) (omega arith)) (and_true (still full a b h g (only bit0) refl) (still full a b h g (slot full a 0) refl))
  base-known halted n a b h g = still halted a b h g (slot halted a 0) refl
  base-known flag n a b h g = refs-both done (rests (number_of S cs 0 a b)) (ref (slot flag a b)) (leaving_tree S cs 0 a b) (still flag a b h g (slot flag a b) refl) (and_true (let l = h.row in choice-known flag a b h g a (omega arith) (omega arith)) (and_true (still flag a b h g (only bit0) refl) (still flag a b h g (slot flag a b) refl)))
  base-known mark n a b h g = and_true (early mark a b h g held a b (omega arith) (record { row = h.row; column = h.column; is = h.is })) (early mark a b h g raised a b (omega arith) (record { row = h.row; column = h.column; is = h.is }))
  base-known halts n a b h g = still halts a b h g (only bit1) refl
  base-known ended n a b h g = and_true (early ended a b h g halts 0 0 (omega arith) (record { row = omega arith; column = omega arith; is = refl })) (early ended a b h g exits 0 S.threads (omega arith) (record { row = omega arith; column = omega arith; is = refl }))
  base-known code n a b h g = early code a b h g codes 0 S.threads (omega arith) (record { row = omega arith; column = omega arith; is = refl })
  base-known bit0 n a b h g = absurd (omega arith)
  base-known bit1 n a b h g = absurd (omega arith)
  base-known word_zero n a b h g = absurd (omega arith)
  base-known word_one n a b h g = absurd (omega arith)
  base-known argument n a b h g = absurd (omega arith)

  link-known : (kind : Kind) → kind_number kind < 36 → (a b : ℕ) → There S cs kind a b → SetBefore S cs steady done kind a b → (i : ℕ) → i < links S cs 0 kind a b → link_refs done (link S cs 0 kind a b i) ≡ true
  link-known choice n a b h g i l = refl
  link-known active n a b h g i l = refl
  link-known opening n a b h g i l = link_if (has S cs 0 i b) (and_with (slot mark i b)) (λ e. still opening a b h g (slot mark i b) refl)
  link-known shut n a b h g i l = refl
  link-known barred n a b h g i l = link_if (needs_empty (number_of S cs 0 a i)) (if_then bit_sort (slot active a i) (only bit1)) (λ e. and_true (early barred a b h g active a i (omega arith) (record { row = h.row; column = l; is = refl })) (still barred a b h g (only bit1) refl))
  link-known held n a b h g i l = refl
  link-known waits n a b h g i l = link_if (has S cs 0 a i) (or_with (slot held a i)) (λ e. early waits a b h g held a i (omega arith) (record { row = h.row; column = l; is = e }))
  link-known may_execute n a b h g i l = refl
  link-known none n a b h g i l = refl
  link-known permitted_first n a b h g i l = refl
  link-known one_permitted n a b h g i l = and_true (choice-known one_permitted a b h g i (omega arith) l) (early one_permitted a b h g permitted_first 0 i (omega arith) (record { row = omega arith; column = l; is = refl }))
  link-known address n a b h g i l = refl
  link-known loaded n a b h g i l = refl
  link-known swaps n a b h g i l = refl
  link-known result n a b h g i l = refl
  link-known test n a b h g i l = refl
  link-known not_test n a b h g i l = refl
  link-known flush_to n a b h g i l = and_true (choice-known flush_to a b h g (S.threads + i) (omega arith) (omega arith)) (still flush_to a b h g (slot adr i 0) refl)
  link-known write_to n a b h g i l = link_if (eqb (number_of S cs 0 (b - 1) i) CAS) (if_then word_sort (slot swaps (b - 1) i) (slot address (b - 1) i)) (λ e. let p = prior write_to a b h g i l h.column in and_true (early write_to a b h g swaps (b - 1) i (omega arith) (record { row = p.row; column = p.column; is = refl })) (early write_to a b h g address (b - 1) i (omega arith) (record { row = p.row; column = p.column; is = refl })))
  link-known flush_value n a b h g i l = and_true (choice-known flush_value a b h g (S.threads + i) (omega arith) (omega arith)) (still flush_value a b h g (slot val i 0) refl)
  link-known write_value n a b h g i l = link_if (eqb (number_of S cs 0 (b - 1) i) CAS) (if_then word_sort (slot swaps (b - 1) i) (slot accu (b - 1) 0)) (λ e. let p = prior write_value a b h g i l h.column in and_true (early write_value a b h g swaps (b - 1) i (omega arith) (record { row = p.row; column = p.column; is = refl })) (still write_value a b h g (slot accu (b - 1) 0) refl))
  link-known raised n a b h g i l = link_if (eqb (number_of S cs 0 a i) CHECK && eqb (argument_of S cs 0 a i) (checkpoint S cs 0 b)) (if_then bit_sort (slot active a i) (only bit1)) (λ e. and_true (early raised a b h g active a i (omega arith) (record { row = h.row; column = l; is = refl })) (still raised a b h g (only bit1) refl))
  link-known exits n a b h g i l = link_if (eqb (number_of S cs 0 (b - 1) i) EXIT) (if_then bit_sort (slot active (b - 1) i) (only bit1)) (λ e. let p = prior exits a b h g i l h.column in and_true (early exits a b h g active (b - 1) i (omega arith) (p)) (still exits a b h g (only bit1) refl))
  link-known codes n a b h g i l = link_if (eqb (number_of S cs 0 (b - 1) i) EXIT) (if_then word_sort (slot active (b - 1) i) (slot argument (b - 1) i)) (λ e. let p = prior codes a b h g i l h.column in and_true (early codes a b h g active (b - 1) i (omega arith) (p)) (still codes a b h g (slot argument (b - 1) i) refl))
  link-known shared_memory n a b h g i l = refl
  link-known val n a b h g i l = link_if (eqb (number_of S cs 0 a i) STORE) (if_then word_sort (slot active a i) (slot accu a 0)) (λ e. and_true (early val a b h g active a i (omega arith) (record { row = h.row; column = l; is = refl })) (still val a b h g (slot accu a 0) refl))
  link-known adr n a b h g i l = link_if (eqb (number_of S cs 0 a i) STORE) (if_then word_sort (slot active a i) (slot address a i)) (λ e. and_true (early adr a b h g active a i (omega arith) (record { row = h.row; column = l; is = refl })) (early adr a b h g address a i (omega arith) (record { row = h.row; column = l; is = refl })))
  link-known mem n a b h g i l = link_if (eqb (number_of S cs 0 a i) MEM) (if_then word_sort (slot active a i) (slot loaded a i)) (λ e. and_true (early mem a b h g active a i (omega arith) (record { row = h.row; column = l; is = refl })) (early mem a b h g loaded a i (omega arith) (record { row = h.row; column = l; is = refl })))
  link-known accu n a b h g i l = link_if (sets_accu (number_of S cs 0 a i)) (if_then word_sort (slot active a i) (slot result a i)) (λ e. and_true (early accu a b h g active a i (omega arith) (record { row = h.row; column = l; is = refl })) (early accu a b h g result a i (omega arith) (record { row = h.row; column = l; is = refl })))
  link-known full n a b h g i l = link_if (eqb (number_of S cs 0 a i) STORE) (if_then bit_sort (slot active a i) (only bit1)) (λ e. and_true (early full a b h g active a i (omega arith) (record { row = h.row; column = l; is = refl })) (still full a b h g (only bit1) refl))
  link-known halted n a b h g i l = link_if (eqb (number_of S cs 0 a i) HALT) (if_then bit_sort (slot active a i) (only bit1)) (λ e. and_true (early halted a b h g active a i (omega arith) (record { row = h.row; column = l; is = refl })) (still halted a b h g (only bit1) refl))
  link-known flag n a b h g i l = leads-known a b i (early flag a b h g active a i (omega arith) (record { row = h.row; column = l; is = refl })) (early flag a b h g test a i (omega arith) (record { row = h.row; column = l; is = refl })) (early flag a b h g not_test a i (omega arith) (record { row = h.row; column = l; is = refl })) (still flag a b h g (only bit1) refl)
  link-known mark n a b h g i l = refl
  link-known halts n a b h g i l = still halts a b h g (slot halted i 0) refl
  link-known ended n a b h g i l = refl
  link-known code n a b h g i l = refl
  link-known bit0 n a b h g i l = absurd (omega arith)
  link-known bit1 n a b h g i l = absurd (omega arith)
  link-known word_zero n a b h g i l = absurd (omega arith)
  link-known word_one n a b h g i l = absurd (omega arith)
  link-known argument n a b h g i l = absurd (omega arith)

  -- what a step's constraint names
  ruled-known : ((x : Slot) → steady x ≡ true → done x ≡ true) → Below S cs 11 done → refs done (ruled S cs 0) ≡ true
  ruled-known f low =
      and_true (f (only ended) refl) (and_true (low none 0 (S.threads + S.threads) (omega arith) (record { row = omega arith; column = omega arith; is = refl })) (low one_permitted 0 0 (omega arith) (record { row = omega arith; column = omega arith; is = refl })))

-- each tree of a step names what stays or was set before it
pub step-known : (S : Set) (cs : List ℕ) → Along S cs (λ done s t. refs done t ≡ true) (λ done t. refs done t ≡ true) steady (step S cs 0)
step-known S cs =
    along-step S cs (λ done s t. refs done t ≡ true) (λ done t. refs done t ≡ true) 0 steady
    (λ kind l c done a b h g. chain-refs done (link S cs 0 kind a b) (links S cs 0 kind a b) (base S cs 0 kind a b) (base-known S cs done kind c a b h g) (λ i l. link-known S cs done kind c a b h g i l))
    (λ done f h. ruled-known S cs done f h) refl
