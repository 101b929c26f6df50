-- A step's next registers and flags are the machine's. Assumes nothing.
use Prim.Native.Nat.{ℕ, suc, ◌+◌, ◌≤◌, ◌<◌}
use mathlib.Core.Path.{◌≡◌, refl, ap, sym, ◌∙◌}
use mathlib.Core.Bool.{Bool, true, false, cond, ◌&&◌}
use mathlib.Core.List.{List}
use native.Mathlib.Omega.{arith}
use borrow.Author.Tests.{ltb-true, ltb-false, lt-ltb, eqb-true, eq-eqb, ne_eqb}
use lib.Dec.{eqb, ltb}
use Rattle.base.proofs.Choice.{and_true, and_right_false, clash, passed}
use Rattle.records.specs.Instructions.{STORE, MEM, CAS, HALT, instructions}
use Rattle.records.specs.Sets.{Set}
use Rattle.records.specs.declared.Statement.{Statement}
use Rattle.machine.specs.Machine.{State, current, executed, flushed, next_pc}
use Rattle.machine.specs.declared.Choice.{Choice}
use Rattle.machine.specs.declared.Thread.{Thread}
use Rattle.table.specs.Formulas.{bit_sort, word_sort}
use Rattle.table.specs.Programs.{tree_value}
use Rattle.table.specs.Values.{Assignment, Value, bit, word, as_bit}
use Rattle.encoding.specs.Slots.{choice, active, address, loaded, result, test, not_test, val, adr, mem, accu, full, halted, flag, bit_zero, bit_one, Slot, slot}
use Rattle.encoding.specs.Steps.{skip, if_then, only, sets_accu, is_conditional, is_one_way, is_plain, rests, leads, link, base}
use Rattle.encoding.proofs.Active.{next_thread, apart, past, number_fits, active_at, active_links, uncounted}
use Rattle.encoding.proofs.Blocks.{link_value, links_value, Quiet, quiet_if, quiet-cond, links-at}
use Rattle.encoding.proofs.Leads.{leads-value}
use Rattle.encoding.proofs.Rows.{by_number, result_of, target, loaded_of, match_of, accu_row, mem-row, adr_row, val_row, full-row, halted_row}
use Rattle.encoding.proofs.Stages.{Given, stage, was, since, settles}
use Rattle.encoding.proofs.Statements.{word-cond, bit-cond, tests, address-value, loaded_value, result_value, test-value, not-test-value}

module _ (S : Set) (cs : List ℕ) (g : Assignment) (k : ℕ) (slots : Slot → Value) (s : State) (c : Choice) (given : Given S cs g k slots s c) where
  abbrev at : ℕ → Slot → Value
  at = stage S cs g k slots

  module _ (t : ℕ) (ht : t < S.threads) where
    abbrev x : Thread
    x = s.threads t

    abbrev i : Statement
    i = current S s t

    abbrev e : Bool
    e = g.choice k 0 t

    abbrev f : Bool
    f = g.choice k 1 t

    abbrev after : Thread
    after = next_thread S cs g k slots s c given t ht

    abbrev fits : i.number ≤ 20
    fits = number_fits S cs g k slots s c given t ht

    -- a register that a flush leaves, by what the statement makes of it
    word_field : (F : Thread → ℕ) (b : Bool) (A : ℕ) → F (flushed x) ≡ F x → cond b A (F x) ≡ F (executed i s.memory x)
        → cond e (cond b (word A) (word (F x))) (word (F x)) ≡ word (F after)
    word_field F b A p q = ap (λ v. cond e v (word (F x))) (word-cond b A (F x) ∙ ap word q) ∙ go e f
      where
        go : (e f : Bool) → cond e (word (F (executed i s.memory x))) (word (F x)) ≡ word (F (cond e (executed i s.memory x) (cond f (flushed x) x)))
        go true f = refl
        go false true = ap word (sym p)
        go false false = refl

    pub val_value : at 15 (slot val t 0) ≡ word after.val
    val_value =
        let val_is : at 14 (slot val t 0) ≡ word x.val = was S cs g k slots val t 0 14 refl ∙ given.ready.shows.val_is t ht in
        settles S cs g k slots 14 val refl t 0 ht (omega arith) refl refl
        ∙ (active_links S cs g k slots s c given t ht (at 14) (active_at S cs g k slots s c given t ht 14 (λ j. was S cs g k slots active t j 14 refl)) (λ j. eqb (S.statement t j).number STORE) word_sort (λ j. slot accu t 0) (word x.accu) (at 14 (slot val t 0))
        (λ l. was S cs g k slots accu t 0 14 refl ∙ given.ready.shows.accu_is t ht) (uncounted S cs g k slots s c given t ht (λ n. eqb n STORE) refl)
        ∙ ((λ z. cond e (cond (eqb i.number STORE) (word x.accu) (val_is z)) (val_is z))
        ∙ word_field (λ (y : Thread). y.val) (eqb i.number STORE) x.accu refl (val_row i.mode i.argument s.memory x i.number fits)))

    pub adr_value : at 16 (slot adr t 0) ≡ word after.adr
    adr_value =
        let adr_is : at 15 (slot adr t 0) ≡ word x.adr = was S cs g k slots adr t 0 15 refl ∙ given.ready.shows.adr_is t ht in
        let A = target i.mode i.argument s.memory x in
        settles S cs g k slots 15 adr refl t 0 ht (omega arith) refl refl
        ∙ (active_links S cs g k slots s c given t ht (at 15) (active_at S cs g k slots s c given t ht 15 (λ j. was S cs g k slots active t j 15 refl)) (λ j. eqb (S.statement t j).number STORE) word_sort (λ j. slot address t j) (word A) (at 15 (slot adr t 0))
        (λ l. since S cs g k slots address t x.pc 1 15 refl ∙ address-value S cs g k slots s c given t ht x.pc l) (uncounted S cs g k slots s c given t ht (λ n. eqb n STORE) refl)
        ∙ ((λ z. cond e (cond (eqb i.number STORE) (word A) (adr_is z)) (adr_is z))
        ∙ word_field (λ (y : Thread). y.adr) (eqb i.number STORE) A refl (adr_row i.mode i.argument s.memory x i.number fits)))

    pub mem-value : at 17 (slot mem t 0) ≡ word after.mem
    mem-value =
        let mem_is : at 16 (slot mem t 0) ≡ word x.mem = was S cs g k slots mem t 0 16 refl ∙ given.ready.shows.mem_is t ht in
        let A = loaded_of i.mode i.argument s.memory x i.number in
        settles S cs g k slots 16 mem refl t 0 ht (omega arith) refl refl
        ∙ (active_links S cs g k slots s c given t ht (at 16) (active_at S cs g k slots s c given t ht 16 (λ j. was S cs g k slots active t j 16 refl)) (λ j. eqb (S.statement t j).number MEM) word_sort (λ j. slot loaded t j) (word A) (at 16 (slot mem t 0))
        (λ l. since S cs g k slots loaded t x.pc 2 16 refl ∙ loaded_value S cs g k slots s c given t ht x.pc l) (uncounted S cs g k slots s c given t ht (λ n. eqb n MEM) refl)
        ∙ ((λ z. cond e (cond (eqb i.number MEM) (word A) (mem_is z)) (mem_is z))
        ∙ word_field (λ (y : Thread). y.mem) (eqb i.number MEM) A refl (mem-row i.mode i.argument s.memory x i.number fits)))

    pub halted_value : at 20 (slot halted t 0) ≡ bit after.halted
    halted_value =
        let halted_is : at 19 (slot halted t 0) ≡ bit x.halted = was S cs g k slots halted t 0 19 refl ∙ given.ready.shows.halted_is t ht in
        settles S cs g k slots 19 halted refl t 0 ht (omega arith) refl refl
        ∙ (active_links S cs g k slots s c given t ht (at 19) (active_at S cs g k slots s c given t ht 19 (λ j. was S cs g k slots active t j 19 refl)) (λ j. eqb (S.statement t j).number HALT) bit_sort (λ j. only bit_one) (bit true) (at 19 (slot halted t 0))
        (λ l. was S cs g k slots bit_one 0 0 19 refl ∙ given.ready.constants.yes_is) (uncounted S cs g k slots s c given t ht (λ n. eqb n HALT) refl)
        ∙ ((λ z. cond e (cond (eqb i.number HALT) (bit true) (halted_is z)) (halted_is z))
        ∙ (ap (λ v. cond e v (bit x.halted)) (bit-cond (eqb i.number HALT) true x.halted ∙ ap bit (halted_row i.mode i.argument s.memory x i.number fits)) ∙ go e f)))
      where
        go : (e f : Bool) → cond e (bit (executed i s.memory x).halted) (bit x.halted) ≡ bit (cond e (executed i s.memory x) (cond f (flushed x) x)).halted
        go true f = refl
        go false true = refl
        go false false = refl

    pub full-value : at 19 (slot full t 0) ≡ bit after.full
    full-value =
        let full_is : at 18 (slot full t 0) ≡ bit x.full = was S cs g k slots full t 0 18 refl ∙ given.ready.shows.full_is t ht in
        let flushes_is : at 18 (slot choice 0 (S.threads + t)) ≡ bit f = was S cs g k slots choice 0 (S.threads + t) 18 refl ∙ given.ready.chosen.flushes_is t ht in
        let no_is : at 18 (only bit_zero) ≡ bit false = was S cs g k slots bit_zero 0 0 18 refl ∙ given.ready.constants.no_is in
        settles S cs g k slots 18 full refl t 0 ht (omega arith) refl refl
        ∙ (active_links S cs g k slots s c given t ht (at 18) (active_at S cs g k slots s c given t ht 18 (λ j. was S cs g k slots active t j 18 refl)) (λ j. eqb (S.statement t j).number STORE) bit_sort (λ j. only bit_one) (bit true) (tree_value g (at 18) (base S cs k full t 0))
        (λ l. was S cs g k slots bit_one 0 0 18 refl ∙ given.ready.constants.yes_is) (uncounted S cs g k slots s c given t ht (λ n. eqb n STORE) refl)
        ∙ ((λ z. let B = cond (as_bit (flushes_is z)) (no_is z) (full_is z) in cond e (cond (eqb i.number STORE) (bit true) B) B)
        ∙ go e f (apart S cs g k slots s c given t ht)))
      where
        go : (e f : Bool) → (e && f) ≡ false → cond e (cond (eqb i.number STORE) (bit true) (cond f (bit false) (bit x.full))) (cond f (bit false) (bit x.full)) ≡ bit (cond e (executed i s.memory x) (cond f (flushed x) x)).full
        go true true h = clash refl h
        go true false h = bit-cond (eqb i.number STORE) true x.full ∙ ap bit (full-row i.mode i.argument s.memory x i.number fits)
        go false true h = refl
        go false false h = refl

    -- a CAS that executes is the one whose match its result is
    result_match : (n v w r : ℕ) (b : Bool) → n ≤ 20 → result_of n v w r (cond (eqb n CAS) b false) ≡ result_of n v w r b
    result_match n v w r b = by_number (λ n. result_of n v w r (cond (eqb n CAS) b false) ≡ result_of n v w r b) refl refl refl refl refl refl refl refl refl refl refl refl refl refl refl refl refl refl refl refl refl n

    pub accu_value : at 18 (slot accu t 0) ≡ word after.accu
    accu_value = go e refl
      where
        loaded_here : ℕ
        loaded_here = loaded_of i.mode i.argument s.memory x i.number

        match : Bool
        match = match_of i.mode i.argument s.memory x

        A : ℕ
        A = result_of i.number x.accu loaded_here i.argument match

        accu_is : at 17 (slot accu t 0) ≡ word x.accu
        accu_is = was S cs g k slots accu t 0 17 refl ∙ given.ready.shows.accu_is t ht

        chained : (B : Value) → (x.pc < S.count t → at 17 (slot result t x.pc) ≡ B)
            → at 18 (slot accu t 0) ≡ cond e (cond (sets_accu i.number) B (at 17 (slot accu t 0))) (at 17 (slot accu t 0))
        chained B h = settles S cs g k slots 17 accu refl t 0 ht (omega arith) refl refl ∙ active_links S cs g k slots s c given t ht (at 17) (active_at S cs g k slots s c given t ht 17 (λ j. was S cs g k slots active t j 17 refl))
            (λ j. sets_accu (S.statement t j).number) word_sort (λ j. slot result t j) B (at 17 (slot accu t 0)) h (uncounted S cs g k slots s c given t ht sets_accu refl)

        result_here : e ≡ true → x.pc < S.count t → at 17 (slot result t x.pc) ≡ word A
        result_here h l =
            since S cs g k slots result t x.pc 4 17 refl ∙ (result_value S cs g k slots s c given t ht x.pc l
            ∙ (ap (λ b. word (result_of i.number x.accu loaded_here i.argument (cond (eqb i.number CAS) (b && match) false))) (and_true (eq-eqb x.pc x.pc refl) h)
            ∙ ap word (result_match i.number x.accu loaded_here i.argument match fits)))

        go : (b : Bool) → e ≡ b → at 18 (slot accu t 0) ≡ word after.accu
        go true h =
            chained (word A) (result_here h)
            ∙ ((λ z. cond e (cond (sets_accu i.number) (word A) (accu_is z)) (accu_is z))
            ∙ word_field (λ (y : Thread). y.accu) (sets_accu i.number) A refl (accu_row i.mode i.argument s.memory x i.number fits))
        go false h =
            chained (at 17 (slot result t x.pc)) (λ l. refl)
            ∙ (passed (cond (sets_accu i.number) (at 17 (slot result t x.pc)) (at 17 (slot accu t 0))) (at 17 (slot accu t 0)) h
            ∙ (accu_is ∙ still e f h))
          where
            still : (e f : Bool) → e ≡ false → word x.accu ≡ word (cond e (executed i s.memory x) (cond f (flushed x) x)).accu
            still true f p = clash refl p
            still false true p = refl
            still false false p = refl

    -- ---- flags

    leads-quiet : (v : Slot → Value) (q j : ℕ) → as_bit (v (slot active t q)) ≡ false → Quiet v (leads S cs k t j q)
    leads-quiet v q j h =
        let n = (S.statement t q).number in
        let to = (S.statement t q).argument in
        let on = slot active t q in
        let always = if_then bit_sort on (only bit_one) in
        let taken = if_then bit_sort on (slot (cond (is_plain n) test not_test) t q) in
        let missed = if_then bit_sort on (slot (cond (is_plain n) not_test test) t q) in
        let jump = cond (eqb to j) always skip in
        let miss = cond (eqb (suc q) j) missed skip in
        let both = cond (eqb to j) taken miss in
        let next = cond (eqb (suc q) j) always skip in
        let rest = cond (is_conditional n) both next in
        let none : Quiet v skip = λ w. refl in
        let fires : (y : Slot) → Quiet v (if_then bit_sort on y) = λ y. quiet_if v bit_sort on y h in
        quiet-cond v (rests n) skip (cond (is_one_way n to q) jump rest) none
        (quiet-cond v (is_one_way n to q) jump rest (quiet-cond v (eqb to j) always skip (fires (only bit_one)) none)
        (quiet-cond v (is_conditional n) both next
        (quiet-cond v (eqb to j) taken miss (fires (slot (cond (is_plain n) test not_test) t q))
        (quiet-cond v (eqb (suc q) j) missed skip (fires (slot (cond (is_plain n) not_test test) t q)) none))
        (quiet-cond v (eqb (suc q) j) always skip (fires (only bit_one)) none)))

    pub flag-value : (j : ℕ) → j < S.count t → at 21 (slot flag t j) ≡ bit (eqb after.pc j)
    unfolding executed next_pc
    flag-value j hj = settles S cs g k slots 20 flag refl t j ht hj refl refl ∙ (chained ∙ (ap (λ w. cond (ltb x.pc (S.count t) && e) (link_value (at 20) (leads S cs k t j x.pc) w) w) base_is ∙ go e refl f))
      where
        B : Bool → Bool
        B e = cond (rests (S.statement t j).number) (eqb x.pc j) (cond e false (eqb x.pc j))

        flag_is : at 20 (slot flag t j) ≡ bit (eqb x.pc j)
        flag_is = was S cs g k slots flag t j 20 refl ∙ given.ready.shows.flag_is t j ht hj

        executes_is : at 20 (slot choice 0 t) ≡ bit e
        executes_is = was S cs g k slots choice 0 t 20 refl ∙ given.ready.chosen.executes_is t ht

        no_is : at 20 (only bit_zero) ≡ bit false
        no_is = was S cs g k slots bit_zero 0 0 20 refl ∙ given.ready.constants.no_is

        yes_is : at 20 (only bit_one) ≡ bit true
        yes_is = was S cs g k slots bit_one 0 0 20 refl ∙ given.ready.constants.yes_is

        base_is : tree_value g (at 20) (base S cs k flag t j) ≡ bit (B e)
        base_is = tests g (at 20) (rests (S.statement t j).number) _ _ _ _ flag_is ((λ z. cond (as_bit (executes_is z)) (no_is z) (flag_is z)) ∙ bit-cond e false (eqb x.pc j))

        active_is : (q : ℕ) → q < S.count t → at 20 (slot active t q) ≡ bit (eqb x.pc q && e)
        active_is = active_at S cs g k slots s c given t ht 20 (λ q. was S cs g k slots active t q 20 refl)

        chained : links_value (at 20) (link S cs k flag t j) (S.count t) (tree_value g (at 20) (base S cs k flag t j))
            ≡ cond (ltb x.pc (S.count t) && e) (link_value (at 20) (leads S cs k t j x.pc) (tree_value g (at 20) (base S cs k flag t j))) (tree_value g (at 20) (base S cs k flag t j))
        chained = links-at (at 20) (leads S cs k t j) (S.count t) x.pc e (tree_value g (at 20) (base S cs k flag t j)) (λ q l h. leads-quiet (at 20) q j (ap as_bit (active_is q l) ∙ h))

        -- of the statement that executes, the base is whether it rests here
        resting : (b : Bool) → eqb x.pc j ≡ b → B true ≡ (rests i.number && eqb x.pc j)
        resting true h = ap (λ q. cond (rests (S.statement t q).number) (eqb x.pc j) false) (sym (eqb-true x.pc j h)) ∙ and_is (rests i.number) (eqb x.pc j)
          where
            and_is : (a b : Bool) → cond a b false ≡ (a && b)
            and_is true b = refl
            and_is false b = refl
        resting false h = ap (λ b. cond (rests (S.statement t j).number) b false) h ∙ (both (rests (S.statement t j).number) ∙ sym (and_right_false (rests i.number) h))
          where
            both : (a : Bool) → cond a false false ≡ false
            both true = refl
            both false = refl

        inside : (b : Bool) → ltb x.pc (S.count t) ≡ b → e ≡ true → cond (b && true) (link_value (at 20) (leads S cs k t j x.pc) (bit (B true))) (bit (B true)) ≡ bit (eqb (next_pc i x) j)
        inside true l h =
            let inner = ltb-true x.pc (S.count t) l in
            ap (λ b. link_value (at 20) (leads S cs k t j x.pc) (bit b)) (resting (eqb x.pc j) refl)
            ∙ leads-value (at 20) t x.pc j i.argument x.accu (active_is x.pc inner ∙ ap bit (and_true (eq-eqb x.pc x.pc refl) h)) yes_is i.number fits
            (lt-ltb i.number instructions (given.well_formed.numbers t x.pc inner))
            (since S cs g k slots test t x.pc 5 20 refl ∙ test-value S cs g k slots s c given t ht x.pc inner)
            (since S cs g k slots not_test t x.pc 6 20 refl ∙ not-test-value S cs g k slots s c given t ht x.pc inner)
        inside false l h =
            let outer = ltb-false x.pc (S.count t) l in
            let off : eqb x.pc j ≡ false = ne_eqb x.pc j (λ (p : x.pc ≡ j). omega arith) in
            ap bit (resting (eqb x.pc j) refl ∙ and_right_false (rests i.number) off)
            ∙ (ap bit (sym off) ∙ ap (λ (q : Statement). bit (eqb (next_pc q x) j)) (sym (past S cs g k slots s c given t ht outer)))

        kept : (a f : Bool) → cond a (eqb x.pc j) (eqb x.pc j) ≡ eqb (cond f (flushed x) x).pc j
        kept true true = refl
        kept true false = refl
        kept false true = refl
        kept false false = refl

        go : (b : Bool) → e ≡ b → (f : Bool)
            → cond (ltb x.pc (S.count t) && b) (link_value (at 20) (leads S cs k t j x.pc) (bit (B b))) (bit (B b)) ≡ bit (eqb (cond b (executed i s.memory x) (cond f (flushed x) x)).pc j)
        go true h f = inside (ltb x.pc (S.count t)) refl h
        go false h f = passed _ _ (and_right_false (ltb x.pc (S.count t)) refl) ∙ ap bit (kept (rests (S.statement t j).number) f)
