-- First cells read: a step reads at most two cells and EXIT none, and every cell read has an address of 16 bits. Assumes nothing.
use Rattle.std.specs.Prelude.{Option, is_some}
use Prim.Native.Nat.{ℕ, ◌*◌, ◌≤◌, ◌<◌}
use mathlib.Core.Path.{◌≡◌, refl, ap, ap₂, fun_ext, subst⁻¹, ◌∙◌}
use mathlib.Core.Bool.{Bool, true, false, cond, not, ◌&&◌, ◌||◌}
use mathlib.Core.List.{List, [], ◌∷◌, ◌++◌}
use native.Mathlib.Omega.{arith}
use lib.Dec.{eqb}
use lib.ListN.{length}
use borrow.Author.Tests.{eqb-true}
use Rattle.base.specs.Below.{number}
use Rattle.base.proofs.Below.{number-none}
use Rattle.base.proofs.Choice.{cond_both, and_right, clash}
use Rattle.records.specs.Instructions.{LOAD, STORE, FENCE, ADD, ADDI, SUB, SUBI, MUL, MULI, MEM, CAS, HALT, EXIT, is_memory}
use Rattle.records.specs.Sets.{Set}
use Rattle.records.specs.declared.Statement.{Statement}
use Rattle.machine.specs.Machine.{State, current, actor, acted, written, reads, step, cell_of}
use Rattle.machine.specs.Machine.{forwards, load, address, takes_word, word_taken, reads_argument, reads_address, cells_read, row, executed, with_accu, cas_matches}
use Rattle.machine.specs.Runs.{after}
use Rattle.machine.specs.declared.Choice.{Choice}
use Rattle.machine.specs.declared.Choice.TheVariants.{Execute, Flush}
use Rattle.machine.specs.declared.Thread.{Thread}
use Rattle.records.specs.declared.Cell.{Cell}
use Rattle.encoding.specs.Checkpoints.{member}
use Rattle.encoding.proofs.Sorts.{Words}
use Rattle.decoding.specs.Decodings.{writes, reads_first}
use Rattle.decoding.proofs.Below.{number-fewer, number-either, number-among}

-- ---- how many

two-at-most : (b c : Bool) (x y : ℕ) → length (cond b (x ∷ []) [] ++ cond c (y ∷ []) []) ≤ 2
two-at-most true true x y = omega arith
two-at-most true false x y = omega arith
two-at-most false true x y = omega arith
two-at-most false false x y = omega arith

reads-few : (S : Set) (s : State) (c : Choice) → length (reads S s c) ≤ 2
unfolding reads cells_read
reads-few S s (Execute t) =
    let i = current S s t in
    let x = s.threads t in
    two-at-most (reads_argument i x) (reads_address i x (address i x s.memory)) i.argument (address i x s.memory)
reads-few S s (Flush t) = omega arith

pub first-few : (n : ℕ) (S : Set) (s : State) (run : List Choice) → number n (reads_first S s run) ≤ 2 * length run
unfolding reads_first
first-few n S s [] = omega (arith, number-none (λ a. false) n (λ i h. refl))
first-few n S s (c ∷ run) =
    omega (
      arith,
      number-either (λ a. member a (reads S s c)) (λ a. not (writes (written S s c) a) && reads_first S (step S s c) run a) n,
      number-among (reads S s c) n,
      reads-few S s c,
      number-fewer (λ a. not (writes (written S s c) a) && reads_first S (step S s c) run a) (reads_first S (step S s c) run) n
          (λ a e. and_right (not (writes (written S s c) a)) (reads_first S (step S s c) run a) e),
      first-few n S (step S s c) run,
    )

-- EXIT reads nothing
exit-reads : (i : Statement) (x : Thread) (memory : ℕ → ℕ) → i.number ≡ EXIT → cells_read i x memory ≡ []
unfolding cells_read
exit-reads i x memory e =
    let a = address i x memory in
    let none : is_memory i.number ≡ false = ap is_memory e in
    ap₂ (λ (p q : Bool). cond (p && eqb i.mode 1 && not (forwards x i.argument)) (i.argument ∷ []) []
    ++ cond (q && not (eqb i.number STORE) && (eqb i.number CAS || not (forwards x a))) (a ∷ []) []) none none

module _ (S : Set) (t : ℕ) where
  last-reads : (s : State) (a : ℕ) → (current S s t).number ≡ EXIT → reads_first S s (Execute t ∷ []) a ≡ false
  unfolding reads_first reads member
  last-reads s a e =
      ap (λ (xs : List ℕ). member a xs || not (writes (written S s (Execute t)) a) && false) (exit-reads (current S s t) (s.threads t) s.memory e)
      ∙ none (not (writes (written S s (Execute t)) a))
    where
      none : (b : Bool) → (b && false) ≡ false
      none true = refl
      none false = refl

  -- a last step that executes EXIT adds no first read
  before-reads : (s : State) (before : List Choice) (a : ℕ) → (current S (after S s before) t).number ≡ EXIT →
      reads_first S s (before ++ (Execute t ∷ [])) a ≡ reads_first S s before a
  unfolding after reads_first
  before-reads s [] a e = last-reads s a e
  before-reads s (c ∷ before) a e =
      ap (λ (b : Bool). member a (reads S s c) || not (writes (written S s c) a) && b) (before-reads (step S s c) before a e)

  pub exit-few : (n : ℕ) (s : State) (before : List Choice) → (current S (after S s before) t).number ≡ EXIT →
      number n (reads_first S s (before ++ (Execute t ∷ []))) ≤ 2 * length before
  exit-few n s before e =
      subst⁻¹ (λ (f : ℕ → Bool). number n f ≤ 2 * length before) (fun_ext (λ a. before-reads s before a e)) (first-few n S s before)

-- ---- words

-- what an address comes from has 16 bits: accu and val of each thread, and memory
pub record Register (x : Thread) : Type 0 where
  pub accu_is : x.accu < 65536
  pub val_is : x.val < 65536

abbrev pub Worded : State → Type 0
Worded s = ((t : ℕ) → Register (s.threads t)) × ((a : ℕ) → s.memory a < 65536)

module _ (i : Statement) (x : Thread) (memory : ℕ → ℕ) (argued : i.argument < 65536) (held : Register x) (words : (a : ℕ) → memory a < 65536) where
  load_word : (a : ℕ) → load x memory a < 65536
  load_word a = cond_both (λ (v : ℕ). v < 65536) (forwards x a) held.val_is (words a)

  address_word : address i x memory < 65536
  unfolding address
  address_word = cond_both (λ (v : ℕ). v < 65536) (is_memory i.number)
      (cond_both (λ (v : ℕ). v < 65536) (eqb i.mode 1) (load_word i.argument) argued) (omega arith)

  taken_word : word_taken i x memory < 65536
  unfolding word_taken
  taken_word = cond_both (λ (v : ℕ). v < 65536) (takes_word i.number)
      (cond_both (λ (v : ℕ). v < 65536) (eqb i.number CAS) (words (address i x memory)) (load_word (address i x memory))) (omega arith)

  row_word : (n a w : ℕ) → w < 65536 → Register (row n i.argument a w x)
  unfolding row
  row_word n a w h =
      both (eqb n LOAD) (kept h)
      (both (eqb n STORE) (record { accu_is = held.accu_is; val_is = held.accu_is })
      (both (eqb n FENCE) held
      (both (eqb n ADD) (kept (omega arith))
      (both (eqb n ADDI) (kept (omega arith))
      (both (eqb n SUB) (kept (omega arith))
      (both (eqb n SUBI) (kept (omega arith))
      (both (eqb n MUL) (kept (omega arith))
      (both (eqb n MULI) (kept (omega arith))
      (both (eqb n MEM) (record { accu_is = h; val_is = held.val_is })
      (both (eqb n CAS) (kept (cond_both (λ (v : ℕ). v < 65536) (eqb w x.mem) (omega arith) (omega arith)))
      (both (eqb n HALT) (record { accu_is = held.accu_is; val_is = held.val_is }) held)))))))))))
    where
      both : (b : Bool) {y z : Thread} → Register y → Register z → Register (cond b y z)
      both b p q = cond_both Register b p q

      kept : {v : ℕ} → v < 65536 → Register (with_accu v x)
      kept l = record { accu_is = l; val_is = held.val_is }

  executed-word : Register (executed i memory x)
  unfolding executed
  executed-word =
      let r = row_word i.number (address i x memory) (word_taken i x memory) taken_word in
      record { accu_is = r.accu_is; val_is = r.val_is }

  either-read : (b c : Bool) (y z a : ℕ) → y < 65536 → z < 65536 → member a (cond b (y ∷ []) [] ++ cond c (z ∷ []) []) ≡ true → a < 65536
  unfolding member
  either-read true true y z a p q e = go (eqb a y) refl (eqb a z) refl e
    where
      go : (b : Bool) → eqb a y ≡ b → (c : Bool) → eqb a z ≡ c → (eqb a y || (eqb a z || false)) ≡ true → a < 65536
      go true f c g h = omega (arith, eqb-true a y f)
      go false f true g h = omega (arith, eqb-true a z g)
      go false f false g h = clash h (ap₂ (λ (b c : Bool). b || (c || false)) f g)
  either-read true false y z a p q e = go (eqb a y) refl e
    where
      go : (b : Bool) → eqb a y ≡ b → (eqb a y || false) ≡ true → a < 65536
      go true f h = omega (arith, eqb-true a y f)
      go false f h = clash h (ap (λ (b : Bool). b || false) f)
  either-read false true y z a p q e = go (eqb a z) refl e
    where
      go : (b : Bool) → eqb a z ≡ b → (eqb a z || false) ≡ true → a < 65536
      go true f h = omega (arith, eqb-true a z f)
      go false f h = clash h (ap (λ (b : Bool). b || false) f)
  either-read false false y z a p q e = clash e refl

  read_word : (a : ℕ) → member a (cells_read i x memory) ≡ true → a < 65536
  unfolding cells_read
  read_word a e =
      either-read (reads_argument i x) (reads_address i x (address i x memory)) i.argument (address i x memory) a argued address_word e

module _ (S : Set) (argued : Words S) where
  reads_word : (s : State) → Worded s → (c : Choice) (a : ℕ) → member a (reads S s c) ≡ true → a < 65536
  unfolding reads member
  reads_word s (registers, words) (Execute t) a e =
      read_word (current S s t) (s.threads t) s.memory (argued t (s.threads t).pc) (registers t) words a e
  reads_word s (registers, words) (Flush t) a e = clash e refl

  acted-word : (s : State) → Worded s → (c : Choice) → Register (acted S s c)
  unfolding acted
  acted-word s (registers, words) (Execute t) =
      executed-word (current S s t) (s.threads t) s.memory (argued t (s.threads t).pc) (registers t) words
  acted-word s (registers, words) (Flush t) = record { accu_is = (registers t).accu_is; val_is = (registers t).val_is }

  written-word : (s : State) → Worded s → (c : Choice) → (cell_of (written S s c)).value < 65536
  unfolding written
  written-word s (registers, words) (Execute t) =
      cond_both (λ (w : Option Cell). (cell_of w).value < 65536) (cas_matches (current S s t) (s.threads t) s.memory) (registers t).accu_is (omega arith)
  written-word s (registers, words) (Flush t) = (registers t).val_is

  step-word : (s : State) (c : Choice) → Worded s → Worded (step S s c)
  unfolding step
  step-word s c h = (
    λ t. cond_both Register (eqb t (actor c)) (acted-word s h c) (h.0 t),
    λ a. cond_both (λ (v : ℕ). v < 65536) ((is_some (written S s c)) && eqb (cell_of (written S s c)).address a) (written-word s h c) (h.1 a),
  )

  pub first-words : (s : State) (run : List Choice) → Worded s → (a : ℕ) → reads_first S s run a ≡ true → a < 65536
  unfolding reads_first
  first-words s [] h a e = clash e refl
  first-words s (c ∷ run) h a e = go (λ f. first-words (step S s c) run (step-word s c h) a f) (member a (reads S s c)) refl e
    where
      go : (reads_first S (step S s c) run a ≡ true → a < 65536) → (b : Bool) → member a (reads S s c) ≡ b →
          (b || not (writes (written S s c) a) && reads_first S (step S s c) run a) ≡ true → a < 65536
      go rest true f g = reads_word s h c a f
      go rest false f g = rest (and_right (not (writes (written S s c) a)) (reads_first S (step S s c) run a) g)
