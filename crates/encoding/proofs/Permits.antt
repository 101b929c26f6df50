-- The values that a step's constraint is computed from, kind by kind, and those that stay. Assumes nothing.
use Prim.Native.Nat.{ℕ, suc, ◌+◌, ◌-◌, ◌<◌}
use mathlib.Core.Path.{◌≡◌, refl, ap, sym, ◌∙◌}
use mathlib.Core.Bool.{Bool, true, cond, not, ◌&&◌, ◌||◌}
use mathlib.Core.List.{List}
use native.Mathlib.Omega.{arith}
use lib.Dec.{ltb, eqb-suc-zero}
use lib.ListN.{length}
use Rattle.base.proofs.Choice.{passed, cond_both, cond-ap, and_true}
use Rattle.records.specs.Sets.{Set}
use Rattle.machine.specs.Machine.{State, needs_empty}
use Rattle.table.specs.Programs.{leaf_value, choice_bit, tree_value, ref}
use Rattle.table.specs.Values.{Assignment, Value, bit, as_bit}
use Rattle.encoding.specs.Slots.{Kind, choice, active, opening, shut, barred, held, waits, may_execute, none, permitted_first, one_permitted, shared_memory, val, adr, mem, accu, full, halted, flag, mark, ended, code, bit_zero, bit_one, word_zero, word_one, argument, Slot, slot, kinds}
use Rattle.encoding.specs.Steps.{Link, chain, only, base, link, links, tree, has, permits, number_of}
use Rattle.encoding.proofs.Before.{clear, keeps, fixed, fixed-scan}
use Rattle.encoding.proofs.Blocks.{refs, link_refs, chain-refs, links_value, chain-value}
use Rattle.encoding.proofs.Demands.{chosen_at}
use Rattle.encoding.proofs.Shown.{Constants, Shows}

-- the bits 0 and 1
abbrev pub bit0 : Slot
bit0 = only bit_zero

abbrev pub bit1 : Slot
bit1 = only bit_one

module _ (S : Set) (cs : List ℕ) (g : Assignment) (k : ℕ) (slots : Slot → Value) where
  abbrev at : Slot → Value
  at = chosen_at S cs g k slots

  -- ---- what stays

  pub constants-stay : Constants S slots → Constants S at
  unfolding kinds
  constants-stay c = record {
    no_is = keeps g S cs k slots 0 bit_zero 0 0 11 refl ∙ c.no_is;
    yes_is = keeps g S cs k slots 0 bit_one 0 0 11 refl ∙ c.yes_is;
    word_zero_is = keeps g S cs k slots 0 word_zero 0 0 11 refl ∙ c.word_zero_is;
    unit_is = keeps g S cs k slots 0 word_one 0 0 11 refl ∙ c.unit_is;
    argument_is = λ t i h l. keeps g S cs k slots 0 argument t i 11 refl ∙ c.argument_is t i h l;
  }

  pub ended-stays : at (only ended) ≡ slots (only ended)
  unfolding kinds
  ended-stays = keeps g S cs k slots 0 ended 0 0 11 refl

  pub code_stays : at (only code) ≡ slots (only code)
  unfolding kinds
  code_stays = keeps g S cs k slots 0 code 0 0 11 refl

  pub shows_stay : (s : State) → Shows S cs slots s → Shows S cs at s
  unfolding kinds
  shows_stay s shown = record {
    memory_is = keeps g S cs k slots 0 shared_memory 0 0 11 refl ∙ shown.memory_is;
    ended_is = ended-stays ∙ shown.ended_is;
    code_is = code_stays ∙ shown.code_is;
    accu_is = λ t h. keeps g S cs k slots 0 accu t 0 11 refl ∙ shown.accu_is t h;
    mem_is = λ t h. keeps g S cs k slots 0 mem t 0 11 refl ∙ shown.mem_is t h;
    adr_is = λ t h. keeps g S cs k slots 0 adr t 0 11 refl ∙ shown.adr_is t h;
    val_is = λ t h. keeps g S cs k slots 0 val t 0 11 refl ∙ shown.val_is t h;
    full_is = λ t h. keeps g S cs k slots 0 full t 0 11 refl ∙ shown.full_is t h;
    halted_is = λ t h. keeps g S cs k slots 0 halted t 0 11 refl ∙ shown.halted_is t h;
    flag_is = λ t i h l. keeps g S cs k slots 0 flag t i 11 refl ∙ shown.flag_is t i h l;
    mark_is = λ t p h l e. keeps g S cs k slots 0 mark t p 11 refl ∙ shown.mark_is t p h l e;
  }

  -- ---- the kinds before the constraint

  abbrev T : ℕ
  T = S.threads

  -- the bit of choice j: executes by thread, then flushes by thread
  abbrev pub bit_at : ℕ → Bool
  bit_at j = cond (ltb j T) (g.choice k 0 j) (g.choice k 1 (j - T))

  pub choice-is : (j : ℕ) → j < T + T → at (slot choice 0 j) ≡ bit (bit_at j)
  unfolding kinds chain
  choice-is j h =
      fixed g S cs k slots 0 choice 0 10 refl refl 0 j (omega arith) h refl refl refl
      ∙ (cond-ap (leaf_value g) (ltb j T) (choice_bit k 0 j) (choice_bit k 1 (j - T))
      ∙ sym (cond-ap bit (ltb j T) (g.choice k 0 j) (g.choice k 1 (j - T))))

  pub active_is_lem : (t i : ℕ) → t < T → i < S.count t → at (slot active t i) ≡ bit (as_bit (at (slot flag t i)) && as_bit (at (slot choice 0 t)))
  unfolding kinds chain
  active_is_lem t i h l = fixed g S cs k slots 0 active 1 9 refl refl t i h l refl refl refl

  -- a chain whose links name cleared kinds
  chain-clear : (j n : ℕ) (kind : Kind) (a b : ℕ) → refs (clear j n) (base S cs k kind a b) ≡ true →
      ((i : ℕ) → link_refs (clear j n) (link S cs k kind a b i) ≡ true) → refs (clear j n) (tree S cs k kind a b) ≡ true
  chain-clear j n kind a b e f = chain-refs (clear j n) (link S cs k kind a b) (links S cs k kind a b) (base S cs k kind a b) e (λ i h. f i)

  pub opening_is : (p : ℕ) → p < length cs → at (slot opening 0 p) ≡ links_value at (link S cs k opening 0 p) T (at bit1)
  unfolding kinds
  opening_is p h =
      fixed g S cs k slots 0 opening 2 8 refl refl 0 p (omega arith) h refl refl
      (chain-clear 2 9 opening 0 p refl (λ t. cond_both (λ (l : Link). link_refs (clear 2 9) l ≡ true) (has S cs k t p) refl refl))
      ∙ chain-value at g (link S cs k opening 0 p) T (ref bit1)

  pub shut-is : (p : ℕ) → p < length cs → at (slot shut 0 p) ≡ bit (not (as_bit (at (slot opening 0 p))))
  unfolding kinds chain
  shut-is p h = fixed g S cs k slots 0 shut 3 7 refl refl 0 p (omega arith) h refl refl refl

  pub barred_is : (t : ℕ) → t < T → at (slot barred t 0) ≡ links_value at (link S cs k barred t 0) (S.count t) (at bit0)
  unfolding kinds
  barred_is t h =
      fixed g S cs k slots 0 barred 4 6 refl refl t 0 h (omega arith) refl refl
      (chain-clear 4 7 barred t 0 refl (λ i. cond_both (λ (l : Link). link_refs (clear 4 7) l ≡ true) (needs_empty (number_of S cs k t i)) refl refl))
      ∙ chain-value at g (link S cs k barred t 0) (S.count t) (ref bit0)

  pub held-is : (t p : ℕ) → t < T → p < length cs → has S cs k t p ≡ true → at (slot held t p) ≡ bit (as_bit (at (slot mark t p)) && as_bit (at (slot shut 0 p)))
  unfolding kinds chain
  held-is t p h l e = fixed g S cs k slots 0 held 5 5 refl refl t p h l e refl refl

  pub waits-is : (t : ℕ) → t < T → at (slot waits t 0) ≡ links_value at (link S cs k waits t 0) (length cs) (at (slot halted t 0))
  unfolding kinds
  waits-is t h =
      fixed g S cs k slots 0 waits 6 4 refl refl t 0 h (omega arith) refl refl
      (chain-clear 6 5 waits t 0 refl (λ p. cond_both (λ (l : Link). link_refs (clear 6 5) l ≡ true) (has S cs k t p) refl refl))
      ∙ chain-value at g (link S cs k waits t 0) (length cs) (ref (slot halted t 0))

  pub may_is : (t : ℕ) → t < T →
      at (slot may_execute t 0) ≡ bit (not ((as_bit (at (slot full t 0)) && as_bit (at (slot barred t 0))) || as_bit (at (slot waits t 0))))
  unfolding kinds chain
  may_is t h = fixed g S cs k slots 0 may_execute 7 3 refl refl t 0 h (omega arith) refl refl refl

  pub none_first : at (slot none 0 0) ≡ at bit1
  unfolding kinds chain
  none_first = fixed-scan g S cs k slots 0 none 8 2 refl refl 0 0 (omega arith) (omega arith) refl refl refl

  pub none-next : (j : ℕ) → j < T + T → at (slot none 0 (suc j)) ≡ cond (as_bit (at (slot choice 0 j))) (at bit0) (at (slot none 0 j))
  unfolding kinds chain
  none-next j h =
      let back : suc j - 1 ≡ j = omega arith in
      let first = eqb-suc-zero j in
      fixed-scan g S cs k slots 0 none 8 2 refl refl 0 (suc j) (omega arith) (omega arith) refl refl
      (ap (refs (clear 9 2)) (passed _ _ first))
      ∙ (ap (tree_value g at) (passed _ _ first)
      ∙ ap (λ i. cond (as_bit (at (slot choice 0 i))) (at bit0) (at (slot none 0 i))) back)

  pub fit_is : (j : ℕ) → j < T + T → at (slot permitted_first 0 j) ≡ bit (as_bit (at (permits S cs k j)) && as_bit (at (slot none 0 j)))
  unfolding kinds chain
  fit_is j h =
      fixed g S cs k slots 0 permitted_first 9 1 refl refl 0 j (omega arith) h refl refl
      (and_true (cond_both (λ (x : Slot). clear 9 2 x ≡ true) (ltb j T) refl refl) refl)

  pub one-is : at (only one_permitted) ≡ links_value at (link S cs k one_permitted 0 0) (T + T) (at bit0)
  unfolding kinds
  one-is =
      fixed g S cs k slots 0 one_permitted 10 0 refl refl 0 0 (omega arith) (omega arith) refl refl (chain-clear 10 1 one_permitted 0 0 refl (λ j. refl))
      ∙ chain-value at g (link S cs k one_permitted 0 0) (T + T) (ref bit0)
