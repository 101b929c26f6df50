-- Values that a statement does not have keep lying where their constant lies, whatever a step sets; to set one changes nothing. Assumes nothing.
use Prim.Native.Nat.{ℕ, zero, suc, ◌+◌}
use mathlib.Core.Path.{◌≡◌, refl, ap, sym, ◌∙◌, subst, fun_ext}
use mathlib.Core.Bool.{Bool, true, false, cond, ◌||◌}
use mathlib.Core.List.{List, [], ◌∷◌, ◌++◌}
use lib.Dec.{eqb}
use lib.ListN.{replicate}
use borrow.Author.Tests.{eqb-true}
use Rattle.base.proofs.Choice.{passed, cond_both, or_false, refuted, clash}
use Rattle.records.specs.Instructions.{ADD, ADDI, SUB, SUBI, MUL, MULI, CAS, JZ, JNZ, JS, JNS, JNZNS}
use Rattle.records.specs.Sets.{Set}
use Rattle.table.specs.Formulas.{written_at}
use Rattle.table.specs.Programs.{ref, next, root, records, upto, Command, sets, needs, put, compiled, next_after, places_after}
use Rattle.table.proofs.Sequences.{places-++}
use Rattle.encoding.specs.Slots.{Kind, loaded, swaps, result, test, not_test, bit_zero, word_zero, Slot, slot, same, Term, kind_at}
use Rattle.encoding.proofs.KindNumbers.{same-slot}
use Rattle.encoding.specs.Steps.{only, word0, loads, sets_accu, is_conditional, shape, chain, tree, kept, columns, rows, entry, line, block, blocks, ruled, step}
use Rattle.encoder_slots.specs.Places.{place_of}
use Rattle.encoder_slots.specs.Pieces.{Writes}
use Rattle.encoder_slots.specs.Idle.{Idle}
use Rattle.encoder_slots.proofs.Starts.{place-replicate}

-- a slot set to where it lies: no place changes
put-none : (places : Slot → ℕ) (s : Slot) (v : ℕ) → places s ≡ v → places ≡ put same places s v
put-none places s v e = fun_ext at
  where
    at : (x : Slot) → places x ≡ put same places s v x
    at x = go (same x s) refl
      where
        go : (b : Bool) → same x s ≡ b → places x ≡ cond b v (places x)
        go true q = ap places (same-slot x s q) ∙ e
        go false q = refl

-- ---- the trees of values that a statement does not have

jumps-not : (n m : ℕ) → is_conditional m ≡ true → is_conditional n ≡ false → eqb n m ≡ false
jumps-not n m y e = refuted (eqb n m) (λ q. clash (ap is_conditional (eqb-true n m q) ∙ y) e)

sets-not : (n m : ℕ) → sets_accu m ≡ true → sets_accu n ≡ false → eqb n m ≡ false
sets-not n m y e = refuted (eqb n m) (λ q. clash (ap sets_accu (eqb-true n m q) ∙ y) e)

-- a statement that does not change accu does not load
sets-loads : (n : ℕ) → sets_accu n ≡ false → loads n ≡ false
sets-loads n e = refuted (loads n) (λ q. clash (ap (λ (b : Bool). b || eqb n ADDI || eqb n SUBI || eqb n MULI || eqb n CAS) q) e)

module _ (S : Set) (cs : List ℕ) (k t i : ℕ) where
  load_tree_lem : loads (S.statement t i).number ≡ false → tree S cs k loaded t i ≡ ref word0
  unfolding chain
  load_tree_lem e = passed _ _ e

  swap_tree : eqb (S.statement t i).number CAS ≡ false → tree S cs k swaps t i ≡ ref (only bit_zero)
  unfolding chain
  swap_tree e = passed _ _ e

  result_tree_lem : sets_accu (S.statement t i).number ≡ false → tree S cs k result t i ≡ ref (slot loaded t i)
  unfolding chain
  result_tree_lem e =
      let n = (S.statement t i).number in
      passed _ _ (sets-not n ADD refl e)
      ∙ (passed _ _ (sets-not n ADDI refl e)
      ∙ (passed _ _ (sets-not n SUB refl e)
      ∙ (passed _ _ (sets-not n SUBI refl e)
      ∙ (passed _ _ (sets-not n MUL refl e) ∙ (passed _ _ (sets-not n MULI refl e) ∙ passed _ _ (sets-not n CAS refl e))))))

  test-tree : is_conditional (S.statement t i).number ≡ false → tree S cs k test t i ≡ ref (only bit_zero)
  unfolding chain
  test-tree e =
      let n = (S.statement t i).number in
      passed _ _ (or_false (jumps-not n JZ refl e) (jumps-not n JNZ refl e))
      ∙ (passed _ _ (or_false (jumps-not n JS refl e) (jumps-not n JNS refl e)) ∙ passed _ _ (jumps-not n JNZNS refl e))

  not-test-tree : is_conditional (S.statement t i).number ≡ false → tree S cs k not_test t i ≡ ref (only bit_zero)
  unfolding chain
  not-test-tree e = passed _ _ e

-- ---- what a step sets

module _ (S : Set) (cs : List ℕ) (k : ℕ) (places : Slot → ℕ) (n : ℕ) where
  -- where an entry would set a slot
  abbrev root_of : Slot → ℕ
  root_of (slot kind a b) = root places n (tree S cs k kind a b)

  -- an entry leaves a slot where it lies, if its own entry would
  set_at : (s x : Slot) (v : ℕ) → root_of x ≡ v → places x ≡ v → put same places s (root_of s) x ≡ v
  set_at s x v e f = go (same x s) refl
    where
      go : (b : Bool) → same x s ≡ b → cond b (root_of s) (places x) ≡ v
      go true q = ap root_of (sym (same-slot x s q)) ∙ e
      go false q = f

  set-idle : (s : Slot) → Idle S places → Idle S (put same places s (root_of s))
  unfolding root chain
  set-idle s idle = record {
    no_load = λ t i e. set_at s (slot loaded t i) (places (only word_zero)) (ap (root places n) (load_tree_lem S cs k t i e)) (idle.no_load t i e) ∙ sym (set_at s (only word_zero) (places (only word_zero)) refl refl);
    no_swap = λ t i e. set_at s (slot swaps t i) (places (only bit_zero)) (ap (root places n) (swap_tree S cs k t i e)) (idle.no_swap t i e) ∙ sym (set_at s (only bit_zero) (places (only bit_zero)) refl refl);
    no_result = λ t i e. set_at s (slot result t i) (places (only word_zero)) (ap (root places n) (result_tree_lem S cs k t i e) ∙ idle.no_load t i (sets-loads (S.statement t i).number e)) (idle.no_result t i e) ∙ sym (set_at s (only word_zero) (places (only word_zero)) refl refl);
    no_test = λ t i e. set_at s (slot test t i) (places (only bit_zero)) (ap (root places n) (test-tree S cs k t i e)) (idle.no_test t i e) ∙ sym (set_at s (only bit_zero) (places (only bit_zero)) refl refl);
    no_not_test = λ t i e. set_at s (slot not_test t i) (places (only bit_zero)) (ap (root places n) (not-test-tree S cs k t i e)) (idle.no_not_test t i e) ∙ sym (set_at s (only bit_zero) (places (only bit_zero)) refl refl);
  }

-- a program after which such values still lie where their constants lie
abbrev pub Keeps : Set → List (Command Slot) → Type 0
Keeps S P = (places : Slot → ℕ) (n : ℕ) → Idle S places → Idle S (places_after same places n P)

pub idle-none : (S : Set) → Keeps S []
unfolding places_after
idle-none S places n idle = idle

-- a constraint changes no place
pub idle-needs : (S : Set) (x : Term) (P : List (Command Slot)) → Keeps S P → Keeps S (needs x ∷ P)
unfolding places_after
idle-needs S x P keeps places n idle = keeps places (suc (next n x)) idle

pub idle-++ : (S : Set) (P Q : List (Command Slot)) → Keeps S P → Keeps S Q → Keeps S (P ++ Q)
idle-++ S P Q p q places n idle =
    subst (Idle S) (sym (places-++ same places n P Q)) (q (places_after same places n P) (next_after same n P) (p places n idle))

pub idle-upto : (S : Set) (f : ℕ → List (Command Slot)) → ((i : ℕ) → Keeps S (f i)) → (i : ℕ) → Keeps S (upto f i)
unfolding upto
idle-upto S f keeps zero = idle-none S
idle-upto S f keeps (suc i) = idle-++ S (upto f i) (f i) (idle-upto S f keeps i) (keeps i)

module _ (S : Set) (cs : List ℕ) (k : ℕ) where
  pub idle-entry : (kind : Kind) (a b : ℕ) → Keeps S (entry S cs k kind a b)
  unfolding places_after
  idle-entry kind a b places n idle =
      cond_both (λ (P : List (Command Slot)). Idle S (places_after same places n P)) (kept S cs k (shape kind) a b)
      (set-idle S cs k places n (slot kind a b) idle) idle

  pub idle-line : (kind : Kind) (a : ℕ) → Keeps S (line S cs k kind a)
  idle-line kind a = idle-upto S (entry S cs k kind a) (idle-entry kind a) (columns S cs k (shape kind) a)

  pub idle-block : (kind : Kind) → Keeps S (block S cs k kind)
  idle-block kind = idle-upto S (line S cs k kind) (idle-line kind) (rows S cs k (shape kind))

  pub idle_blocks : (j m : ℕ) → Keeps S (blocks S cs k j m)
  idle_blocks j m = idle-upto S (λ i. block S cs k (kind_at (j + i))) (λ i. idle-block (kind_at (j + i))) m

  pub idle-step : Keeps S (step S cs k)
  unfolding step
  idle-step =
      idle-++ S (blocks S cs k 0 11) (needs (ruled S cs k) ∷ blocks S cs k 11 25) (idle_blocks 0 11)
      (idle-needs S (ruled S cs k) (blocks S cs k 11 25) (idle_blocks 11 25))

-- the same of what is written
pub idle-written : (S : Set) (P : List (Command Slot)) → Keeps S P → (out slots : List ℕ) (n : ℕ) (out1 slots1 : List ℕ) (n1 : ℕ) →
    Writes P out slots n out1 slots1 n1 → Idle S (place_of slots) → Idle S (place_of slots1)
idle-written S P keeps out slots n out1 slots1 n1 w idle = subst (Idle S) (sym w.places) (keeps (place_of slots) n idle)

-- at the start
pub idle-start : (S : Set) (n : ℕ) → Idle S (place_of (replicate n 0))
idle-start S n = subst (Idle S) (sym (place-replicate n)) (record { no_load = λ t i e. refl; no_swap = λ t i e. refl; no_result = λ t i e. refl; no_test = λ t i e. refl; no_not_test = λ t i e. refl })

-- ---- to set such a value changes nothing

module _ (S : Set) (cs : List ℕ) (k : ℕ) (t i : ℕ) (out slots : List ℕ) (n : ℕ) where
  ref-none : (s c : Slot) → place_of slots s ≡ place_of slots c → Writes (sets s (ref c) ∷ []) out slots n out slots n
  unfolding written_at compiled records places_after next_after next root
  ref-none s c e = record { written = refl; places = put-none (place_of slots) s (place_of slots c) e; next = refl; slots_stay = refl }

  tree-none : (s c : Slot) (x : Term) → x ≡ ref c → place_of slots s ≡ place_of slots c → Writes (sets s x ∷ []) out slots n out slots n
  tree-none s c x e f = subst (λ (y : Term). Writes (sets s y ∷ []) out slots n out slots n) (sym e) (ref-none s c f)

  module _ (idle : Idle S (place_of slots)) where
    pub no-load : loads (S.statement t i).number ≡ false → Writes (entry S cs k loaded t i) out slots n out slots n
    no-load e = tree-none (slot loaded t i) word0 (tree S cs k loaded t i) (load_tree_lem S cs k t i e) (idle.no_load t i e)

    pub no_swap_lem : eqb (S.statement t i).number CAS ≡ false → Writes (entry S cs k swaps t i) out slots n out slots n
    no_swap_lem e = tree-none (slot swaps t i) (only bit_zero) (tree S cs k swaps t i) (swap_tree S cs k t i e) (idle.no_swap t i e)

    pub no_result_lem : sets_accu (S.statement t i).number ≡ false → Writes (entry S cs k result t i) out slots n out slots n
    no_result_lem e =
        tree-none (slot result t i) (slot loaded t i) (tree S cs k result t i) (result_tree_lem S cs k t i e)
        (idle.no_result t i e ∙ sym (idle.no_load t i (sets-loads (S.statement t i).number e)))

    pub no_test_lem : is_conditional (S.statement t i).number ≡ false → Writes (entry S cs k test t i) out slots n out slots n
    no_test_lem e = tree-none (slot test t i) (only bit_zero) (tree S cs k test t i) (test-tree S cs k t i e) (idle.no_test t i e)

    pub no-not-test : is_conditional (S.statement t i).number ≡ false → Writes (entry S cs k not_test t i) out slots n out slots n
    no-not-test e = tree-none (slot not_test t i) (only bit_zero) (tree S cs k not_test t i) (not-test-tree S cs k t i e) (idle.no_not_test t i e)
