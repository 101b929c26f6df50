-- Each tree of the table has the sort of its kind. Assumes nothing.
use Prim.Native.Nat.{ℕ, zero, suc, ◌-◌, ◌<◌}
use mathlib.Core.Path.{◌≡◌, refl, ap, sym, ◌∙◌, subst}
use mathlib.Core.Bool.{Bool, true, false, cond, ◌&&◌, ◌||◌}
use mathlib.Core.List.{List, [], ◌∷◌}
use native.Mathlib.Omega.{arith}
use borrow.Author.Tests.{eqb-true}
use lib.Dec.{eqb, ltb}
use lib.ListN.{get_or}
use Rattle.base.proofs.Choice.{cond_both, and_left}
use Rattle.records.specs.Instructions.{STORE, ADD, ADDI, SUB, SUBI, MUL, MULI, JZ, JNZ, JS, JNS, JNZNS, MEM, CAS, HALT, EXIT, CHECK}
use Rattle.records.specs.Sets.{Set}
use Rattle.machine.specs.Machine.{contains, needs_empty}
use Rattle.table.specs.Formulas.{no_sort, bit_sort, word_sort, memory_sort}
use Rattle.table.specs.Values.{changed}
use Rattle.table.specs.Programs.{choice_bit, sets}
use Rattle.table.proofs.Sorted.{LeafFits, Fits, ProgramFits, fits-upto}
use Rattle.encoding.specs.Slots.{Kind, choice, active, opening, shut, barred, held, waits, may_execute, none, permitted_first, one_permitted, address, loaded, swaps, result, test, not_test, flush_to, write_to, flush_value, write_value, raised, exits, codes, shared_memory, val, adr, mem, accu, full, halted, flag, mark, halts, ended, code, bit_zero, bit_one, word_zero, word_one, argument, Slot, slot, same, Term, kind_at, kind_number, kind_sort, start_place}
use Rattle.encoding.proofs.KindNumbers.{kind_at_lem}
use Rattle.encoding.specs.Steps.{Link, skip, if_then, and_with, or_with, linked, chain, only, loads, sets_accu, is_conditional, is_one_way, is_plain, rests, shape, base, load_tree, result_tree, test_tree, leads, link, links, tree, if_active, kept, entry, line, block, rows, columns, ruled}

-- a slot's sort is that of its kind
abbrev pub slot_sort : Slot → ℕ
slot_sort (slot k a b) = kind_sort k

-- slots that are the same have one sort
pub sort_alike : (x s : Slot) → same x s ≡ true → slot_sort x ≡ slot_sort s
sort_alike (slot k a b) (slot l c d) e =
    ap kind_sort (sym (kind_at_lem k) ∙ (ap kind_at (eqb-true (kind_number k) (kind_number l) (and_left (eqb (kind_number k) (kind_number l)) _ e)) ∙ kind_at_lem l))

-- ---- at the start

-- the sorts of the first four records
abbrev pub start_sorts : ℕ → ℕ
start_sorts = changed (changed (changed (changed (λ i. no_sort) 0 bit_sort) 1 bit_sort) 2 word_sort) 3 memory_sort

flagged : (b : Bool) → (cond b 1 0 < 4) × (start_sorts (cond b 1 0) ≡ bit_sort)
flagged true = (omega arith, refl)
flagged false = (omega arith, refl)

pub start_lies : (s : Slot) → (start_place s < 4) × (start_sorts (start_place s) ≡ slot_sort s)
start_lies (slot choice a b) = (omega arith, refl)
start_lies (slot active a b) = (omega arith, refl)
start_lies (slot opening a b) = (omega arith, refl)
start_lies (slot shut a b) = (omega arith, refl)
start_lies (slot barred a b) = (omega arith, refl)
start_lies (slot held a b) = (omega arith, refl)
start_lies (slot waits a b) = (omega arith, refl)
start_lies (slot may_execute a b) = (omega arith, refl)
start_lies (slot none a b) = (omega arith, refl)
start_lies (slot permitted_first a b) = (omega arith, refl)
start_lies (slot one_permitted a b) = (omega arith, refl)
start_lies (slot address a b) = (omega arith, refl)
start_lies (slot loaded a b) = (omega arith, refl)
start_lies (slot swaps a b) = (omega arith, refl)
start_lies (slot result a b) = (omega arith, refl)
start_lies (slot test a b) = (omega arith, refl)
start_lies (slot not_test a b) = (omega arith, refl)
start_lies (slot flush_to a b) = (omega arith, refl)
start_lies (slot write_to a b) = (omega arith, refl)
start_lies (slot flush_value a b) = (omega arith, refl)
start_lies (slot write_value a b) = (omega arith, refl)
start_lies (slot raised a b) = (omega arith, refl)
start_lies (slot exits a b) = (omega arith, refl)
start_lies (slot codes a b) = (omega arith, refl)
start_lies (slot shared_memory a b) = (omega arith, refl)
start_lies (slot val a b) = (omega arith, refl)
start_lies (slot adr a b) = (omega arith, refl)
start_lies (slot mem a b) = (omega arith, refl)
start_lies (slot accu a b) = (omega arith, refl)
start_lies (slot full a b) = (omega arith, refl)
start_lies (slot halted a b) = (omega arith, refl)
start_lies (slot flag a b) = flagged (eqb b 0)
start_lies (slot mark a b) = (omega arith, refl)
start_lies (slot halts a b) = (omega arith, refl)
start_lies (slot ended a b) = (omega arith, refl)
start_lies (slot code a b) = (omega arith, refl)
start_lies (slot bit_zero a b) = (omega arith, refl)
start_lies (slot bit_one a b) = (omega arith, refl)
start_lies (slot word_zero a b) = (omega arith, refl)
start_lies (slot word_one a b) = (omega arith, refl)
start_lies (slot argument a b) = (omega arith, refl)

-- ---- links

abbrev pub LinkFits : Link → ℕ → Type 0
LinkFits skip sort = Unit {0}
LinkFits (if_then own x y) sort =
    (sort ≡ own) × (((eqb own bit_sort || eqb own word_sort || eqb own memory_sort) ≡ true) × ((bit_sort ≡ slot_sort x) × (own ≡ slot_sort y)))
LinkFits (and_with s) sort = (sort ≡ bit_sort) × (bit_sort ≡ slot_sort s)
LinkFits (or_with s) sort = (sort ≡ bit_sort) × (bit_sort ≡ slot_sort s)

module _ (bits : Bool) where
  linked-fits : (l : Link) (v : Term) (sort : ℕ) → LinkFits l sort → Fits slot_sort bits v sort → Fits slot_sort bits (linked l v) sort
  linked-fits skip v sort h f = f
  linked-fits (if_then own x y) v sort h f = (h.0, (h.1.0, (h.1.1.0, (h.1.1.1, subst (Fits slot_sort bits v) h.0 f))))
  linked-fits (and_with s) v sort h f = (h.0, (h.1, subst (Fits slot_sort bits v) h.0 f))
  linked-fits (or_with s) v sort h f = (h.0, (h.1, subst (Fits slot_sort bits v) h.0 f))

  chain_fits : (link : ℕ → Link) (n : ℕ) (v : Term) (sort : ℕ) → ((i : ℕ) → LinkFits (link i) sort) → Fits slot_sort bits v sort →
      Fits slot_sort bits (chain link n v) sort
  unfolding chain
  chain_fits link zero v sort h f = f
  chain_fits link (suc n) v sort h f = linked-fits (link n) (chain link n v) sort (h n) (chain_fits link n v sort h f)

-- ---- trees

-- every argument is a word
abbrev pub Words : Set → Type 0
Words S = (t i : ℕ) → (S.statement t i).argument < 65536

module _ (S : Set) (cs : List ℕ) (k : ℕ) where
  active_fits : (counts : Bool) (sort t i : ℕ) (effect : Slot) → (eqb sort bit_sort || eqb sort word_sort || eqb sort memory_sort) ≡ true →
      sort ≡ slot_sort effect → LinkFits (if_active S cs k counts sort t i effect) sort
  active_fits true sort t i effect p e = (refl, (p, (refl, e)))
  active_fits false sort t i effect p e = tt

  leads-fits : (t j i : ℕ) → LinkFits (leads S cs k t j i) bit_sort
  leads-fits t j i =
      let n = (S.statement t i).number in
      let target = (S.statement t i).argument in
      go (rests n) (is_one_way n target i) (is_conditional n) (eqb target j) (eqb (suc i) j) (is_plain n)
    where
      go : (a b c d e f : Bool) → LinkFits
          (cond a skip
          (cond b (cond d (if_then bit_sort (slot active t i) (only bit_one)) skip)
          (cond c
          (cond d (if_then bit_sort (slot active t i) (slot (cond f test not_test) t i))
          (cond e (if_then bit_sort (slot active t i) (slot (cond f not_test test) t i)) skip))
          (cond e (if_then bit_sort (slot active t i) (only bit_one)) skip)))) bit_sort
      go true b c d e f = tt
      go false true c true e f = (refl, (refl, (refl, refl)))
      go false true c false e f = tt
      go false false true true e true = (refl, (refl, (refl, refl)))
      go false false true true e false = (refl, (refl, (refl, refl)))
      go false false true false true true = (refl, (refl, (refl, refl)))
      go false false true false true false = (refl, (refl, (refl, refl)))
      go false false true false false f = tt
      go false false false d true f = (refl, (refl, (refl, refl)))
      go false false false d false f = tt

  pub link_fits : (kind : Kind) (a b i : ℕ) → LinkFits (link S cs k kind a b i) (kind_sort kind)
  link_fits choice a b i = tt
  link_fits active a b i = tt
  link_fits opening a p t = cond_both (λ (l : Link). LinkFits l bit_sort) (contains S t (get_or cs p 0)) (refl, refl) tt
  link_fits shut a b i = tt
  link_fits barred t b i = active_fits (needs_empty (S.statement t i).number) bit_sort t i (only bit_one) refl refl
  link_fits held a b i = tt
  link_fits waits t b p = cond_both (λ (l : Link). LinkFits l bit_sort) (contains S t (get_or cs p 0)) (refl, refl) tt
  link_fits may_execute a b i = tt
  link_fits none a b i = tt
  link_fits permitted_first a b i = tt
  link_fits one_permitted a b j = (refl, (refl, (refl, refl)))
  link_fits address a b i = tt
  link_fits loaded a b i = tt
  link_fits swaps a b i = tt
  link_fits result a b i = tt
  link_fits test a b i = tt
  link_fits not_test a b i = tt
  link_fits flush_to a b t = (refl, (refl, (refl, refl)))
  link_fits write_to a t i = cond_both (λ (l : Link). LinkFits l word_sort) (eqb (S.statement (t - 1) i).number CAS) (refl, (refl, (refl, refl))) tt
  link_fits flush_value a b t = (refl, (refl, (refl, refl)))
  link_fits write_value a t i = cond_both (λ (l : Link). LinkFits l word_sort) (eqb (S.statement (t - 1) i).number CAS) (refl, (refl, (refl, refl))) tt
  link_fits raised t p i = active_fits (eqb (S.statement t i).number CHECK && eqb (S.statement t i).argument (get_or cs p 0)) bit_sort t i (only bit_one) refl refl
  link_fits exits a t i = active_fits (eqb (S.statement (t - 1) i).number EXIT) bit_sort (t - 1) i (only bit_one) refl refl
  link_fits codes a t i = active_fits (eqb (S.statement (t - 1) i).number EXIT) word_sort (t - 1) i (slot argument (t - 1) i) refl refl
  link_fits shared_memory a b i = tt
  link_fits val t b i = active_fits (eqb (S.statement t i).number STORE) word_sort t i (slot accu t 0) refl refl
  link_fits adr t b i = active_fits (eqb (S.statement t i).number STORE) word_sort t i (slot address t i) refl refl
  link_fits mem t b i = active_fits (eqb (S.statement t i).number MEM) word_sort t i (slot loaded t i) refl refl
  link_fits accu t b i = active_fits (sets_accu (S.statement t i).number) word_sort t i (slot result t i) refl refl
  link_fits full t b i = active_fits (eqb (S.statement t i).number STORE) bit_sort t i (only bit_one) refl refl
  link_fits halted t b i = active_fits (eqb (S.statement t i).number HALT) bit_sort t i (only bit_one) refl refl
  link_fits flag t j i = leads-fits t j i
  link_fits mark a b i = tt
  link_fits halts a b t = (refl, refl)
  link_fits ended a b i = tt
  link_fits code a b i = tt
  link_fits bit_zero a b i = tt
  link_fits bit_one a b i = tt
  link_fits word_zero a b i = tt
  link_fits word_one a b i = tt
  link_fits argument a b i = tt

  module _ (bits : Bool) (words : Words S) where
    load_fits : (t : ℕ) (a : Slot) → word_sort ≡ slot_sort a → Fits slot_sort bits (load_tree S cs k t a) word_sort
    load_fits t a h = (refl, (refl, ((refl, (refl, (refl, (refl, h)))), (refl, (refl, (refl, h))))))

    result_fits : (n t i : ℕ) → Fits slot_sort bits (result_tree S cs k n t i) word_sort
    result_fits n t i =
        cond_both Word (eqb n ADD) (refl, (refl, refl))
        (cond_both Word (eqb n ADDI) (refl, (refl, refl))
        (cond_both Word (eqb n SUB) (refl, (refl, refl))
        (cond_both Word (eqb n SUBI) (refl, (refl, refl))
        (cond_both Word (eqb n MUL) (refl, (refl, refl))
        (cond_both Word (eqb n MULI) (refl, (refl, refl))
        (cond_both Word (eqb n CAS) (refl, (refl, (refl, (refl, refl)))) refl))))))
      where
        Word : Term → Type 0
        Word x = Fits slot_sort bits x word_sort

    test_fits : (n t : ℕ) → Fits slot_sort bits (test_tree S cs k n t) bit_sort
    test_fits n t =
        cond_both Bit (eqb n JZ || eqb n JNZ) (refl, (refl, refl))
        (cond_both Bit (eqb n JS || eqb n JNS) (refl, refl)
        (cond_both Bit (eqb n JNZNS) (refl, ((refl, refl), (refl, (refl, refl)))) refl))
      where
        Bit : Term → Type 0
        Bit x = Fits slot_sort bits x bit_sort

    -- choice bits are a kind of their own
    base-fits : (kind : Kind) (a b : ℕ) → (kind_number kind ≡ kind_number choice → bits ≡ true) → Fits slot_sort bits (base S cs k kind a b) (kind_sort kind)
    base-fits choice a j h =
        cond_both (λ x. LeafFits bits x bit_sort) (ltb j S.threads) {x = choice_bit k 0 j} {y = choice_bit k 1 (j - S.threads)}
        (h refl, (omega arith, refl)) (h refl, (omega arith, refl))
    base-fits active t i h = (refl, (refl, refl))
    base-fits opening a b h = refl
    base-fits shut a p h = (refl, refl)
    base-fits barred a b h = refl
    base-fits held t p h = (refl, (refl, refl))
    base-fits waits a b h = refl
    base-fits may_execute t b h = (refl, (refl, ((refl, (refl, refl)), refl)))
    base-fits none a j h = cond_both (λ (x : Term). Fits slot_sort bits x bit_sort) (eqb j 0) refl (refl, (refl, (refl, (refl, refl))))
    base-fits permitted_first a j h = (refl, (cond_both (λ (s : Slot). bit_sort ≡ slot_sort s) (ltb j S.threads) refl refl, refl))
    base-fits one_permitted a b h = refl
    base-fits address t i h = cond_both (λ (x : Term). Fits slot_sort bits x word_sort) (eqb (S.statement t i).mode 1) (load_fits t (slot argument t i) refl) refl
    base-fits loaded t i h = cond_both (λ (x : Term). Fits slot_sort bits x word_sort) (loads (S.statement t i).number) (load_fits t (slot address t i) refl) refl
    base-fits swaps t i h = cond_both (λ (x : Term). Fits slot_sort bits x bit_sort) (eqb (S.statement t i).number CAS) (refl, (refl, (refl, ((refl, (refl, refl)), refl)))) refl
    base-fits result t i h = result_fits (S.statement t i).number t i
    base-fits test t i h = test_fits (S.statement t i).number t
    base-fits not_test t i h = cond_both (λ (x : Term). Fits slot_sort bits x bit_sort) (is_conditional (S.statement t i).number) (refl, refl) refl
    base-fits flush_to a b h = refl
    base-fits write_to a t h = cond_both (λ (s : Slot). word_sort ≡ slot_sort s) (eqb t 0) refl refl
    base-fits flush_value a b h = (refl, (refl, refl))
    base-fits write_value a t h = cond_both (λ (s : Slot). word_sort ≡ slot_sort s) (eqb t 0) refl refl
    base-fits raised a b h = refl
    base-fits exits a t h = cond_both (λ (s : Slot). bit_sort ≡ slot_sort s) (eqb t 0) refl refl
    base-fits codes a t h = cond_both (λ (s : Slot). word_sort ≡ slot_sort s) (eqb t 0) refl refl
    base-fits shared_memory a b h = (refl, (tt, (refl, (refl, refl))))
    base-fits val a b h = refl
    base-fits adr a b h = refl
    base-fits mem a b h = refl
    base-fits accu a b h = refl
    base-fits full t b h = (refl, (refl, (refl, (refl, refl))))
    base-fits halted a b h = refl
    base-fits flag t j h = cond_both (λ (x : Term). Fits slot_sort bits x bit_sort) (rests (S.statement t j).number) refl (refl, (refl, (refl, (refl, refl))))
    base-fits mark t p h = (refl, (refl, refl))
    base-fits halts a b h = refl
    base-fits ended a b h = (refl, (refl, refl))
    base-fits code a b h = refl
    base-fits bit_zero a b h = refl
    base-fits bit_one a b h = refl
    base-fits word_zero a b h = refl
    base-fits word_one a b h = (omega arith, refl)
    base-fits argument t i h = (words t i, refl)

    pub tree-fits : (kind : Kind) (a b : ℕ) → (kind_number kind ≡ kind_number choice → bits ≡ true) → Fits slot_sort bits (tree S cs k kind a b) (kind_sort kind)
    tree-fits kind a b h =
        chain_fits bits (link S cs k kind a b) (links S cs k kind a b) (base S cs k kind a b) (kind_sort kind) (link_fits kind a b) (base-fits kind a b h)

    -- ---- blocks

    pub block-fits : (kind : Kind) → (kind_number kind ≡ kind_number choice → bits ≡ true) → ProgramFits slot_sort bits (block S cs k kind)
    block-fits kind h =
        fits-upto slot_sort bits (line S cs k kind) (rows S cs k (shape kind))
        (λ a l. fits-upto slot_sort bits (entry S cs k kind a) (columns S cs k (shape kind) a)
        (λ b m. cond_both (ProgramFits slot_sort bits) (kept S cs k (shape kind) a b)
        {x = sets (slot kind a b) (tree S cs k kind a b) ∷ []} {y = []} (tree-fits kind a b h, tt) tt))

    pub ruled-fits : Fits slot_sort bits (ruled S cs k) bit_sort
    ruled-fits = (refl, (refl, (refl, (refl, refl))))
