-- What a statement takes from its thread's buffer and from memory, case by case as the code goes. Assumes nothing.
use Prim.Native.Nat.{ℕ}
use mathlib.Core.Path.{◌≡◌, refl, ap, ap₂, sym, ◌∙◌}
use mathlib.Core.Bool.{Bool, true, false, cond, not, ◌&&◌, ◌||◌}
use mathlib.Core.List.{List, [], ◌∷◌, ◌++◌}
use borrow.Author.Tests.{eq-eqb, ne_eqb}
use Rattle.std.specs.Prelude.{Option, None}
use Rattle.std.specs.Bool.{then_some}
use lib.Dec.{eqb}
use Rattle.base.proofs.Choice.{chosen, passed, and_true, and_false, and_right_false, and_yes, or_true}
use Rattle.records.specs.Instructions.{STORE, CAS, is_memory}
use Rattle.records.specs.declared.Statement.{Statement}
use Rattle.machine.specs.Machine.{forwards, load, address, takes_word, word_taken, reads_argument, reads_address, cells_read}
use Rattle.machine.specs.Held.{cells_of, listed}
use Rattle.machine.specs.Maps.{knows_all}
use Rattle.machine.specs.declared.Thread.{Thread}

module _ (x : Thread) (memory : ℕ → ℕ) (known : ℕ → Bool) (a : ℕ) where
  -- ---- a load

  pub load_forwarded : forwards x a ≡ true → (true ≡ (forwards x a || known a)) × (x.val ≡ load x memory a) × (false ≡ not (forwards x a))
  load_forwarded f = (sym (or_true (known a) f), sym (chosen _ _ f), sym (ap not f))

  pub load_cell : forwards x a ≡ false → (known a ≡ (forwards x a || known a)) × (memory a ≡ load x memory a) × (true ≡ not (forwards x a))
  load_cell f = (sym (ap (λ (b : Bool). b || known a) f), sym (passed _ _ f), sym (ap not f))

not-not : (b c : Bool) → (not (not b) || c) ≡ (b || c)
not-not true c = refl
not-not false c = refl

module _ (i : Statement) (x : Thread) (memory : ℕ → ℕ) (known : ℕ → Bool) where
  -- ---- the address

  module _ (m : is_memory i.number ≡ true) where
    pub address-indirect : i.mode ≡ 1 →
        ((forwards x i.argument || known i.argument) ≡ (not (reads_argument i x) || known i.argument))
        × (load x memory i.argument ≡ address i x memory)
        × (not (forwards x i.argument) ≡ reads_argument i x)
    unfolding address
    address-indirect e = (
      sym (ap (λ (b : Bool). not (b && not (forwards x i.argument)) || known i.argument) (and_true m (eq-eqb _ _ e)) ∙ not-not (forwards x i.argument) (known i.argument)),
      sym (chosen _ _ m ∙ chosen _ _ (eq-eqb _ _ e)),
      sym (ap (λ (b : Bool). b && not (forwards x i.argument)) (and_true m (eq-eqb _ _ e))),
    )

    pub address_direct : (i.mode ≡ 1 → ⊥) →
        (true ≡ (not (reads_argument i x) || known i.argument)) × (i.argument ≡ address i x memory) × (false ≡ reads_argument i x)
    unfolding address
    address_direct f = (
      sym (ap (λ (b : Bool). not b || known i.argument) (and_false (not (forwards x i.argument)) (and_right_false (is_memory i.number) (ne_eqb _ _ f)))),
      sym (chosen _ _ m ∙ passed _ _ (ne_eqb _ _ f)),
      sym (and_false (not (forwards x i.argument)) (and_right_false (is_memory i.number) (ne_eqb _ _ f))),
    )

  -- ---- the cells read

  knows_both : (b c : Bool) (a e : ℕ) → knows_all known (cond b (a ∷ []) [] ++ cond c (e ∷ []) []) ≡ ((not b || known a) && (not c || known e))
  knows_both true true a e = ap (λ (z : Bool). known a && z) (and_yes (known e))
  knows_both true false a e = refl
  knows_both false true a e = and_yes (known e)
  knows_both false false a e = refl

  -- known where the address word is, and the word taken is
  pub knows-cells : knows_all known (cells_read i x memory)
      ≡ ((not (reads_argument i x) || known i.argument) && (not (reads_address i x (address i x memory)) || known (address i x memory)))
  unfolding cells_read
  knows-cells = knows_both (reads_argument i x) (reads_address i x (address i x memory)) i.argument (address i x memory)

  pub knows-from : (k l : Bool) → k ≡ (not (reads_argument i x) || known i.argument) →
      l ≡ (not (reads_address i x (address i x memory)) || known (address i x memory)) → (k && l) ≡ knows_all known (cells_read i x memory)
  knows-from k l p q = ap₂ (λ (b c : Bool). b && c) p q ∙ sym knows-cells

  -- as the code reports them
  listed_if : (r : Option ℕ) (b : Bool) (a : ℕ) → r ≡ then_some b a → listed r ≡ cond b (a ∷ []) []
  listed_if r true a e = ap listed e
  listed_if r false a e = ap listed e

  pub cells-word : (p q : Bool) (a : ℕ) (r s : Option ℕ) → p ≡ reads_argument i x → q ≡ reads_address i x (address i x memory) → a ≡ address i x memory →
      r ≡ then_some p i.argument → s ≡ then_some q a → cells_of (record { argument = r; word = s }) ≡ cells_read i x memory
  unfolding cells_read
  cells-word p q a r s e f g d h =
      ap₂ (λ (xs ys : List ℕ). xs ++ ys) (listed_if r p i.argument d) (listed_if s q a h) ∙ (λ k. cond (e k) (i.argument ∷ []) [] ++ cond (f k) (g k ∷ []) [])

  pub cells-none : (p : Bool) (r : Option ℕ) → p ≡ reads_argument i x → false ≡ reads_address i x (address i x memory) → r ≡ then_some p i.argument →
      cells_of (record { argument = r; word = None }) ≡ cells_read i x memory
  unfolding cells_read
  cells-none p r e f d =
      ap (λ (xs : List ℕ). xs ++ []) (listed_if r p i.argument d) ∙ (λ k. cond (e k) (i.argument ∷ []) [] ++ cond (f k) (address i x memory ∷ []) [])

  -- ---- the word taken

  -- a statement that takes no word
  pub word_none : takes_word i.number ≡ false →
      (true ≡ (not (reads_address i x (address i x memory)) || known (address i x memory))) × (0 ≡ word_taken i x memory) × (false ≡ reads_address i x (address i x memory))
  unfolding word_taken
  word_none f = (
    sym (or_true (known (address i x memory)) (ap not (and_false (eqb i.number CAS || not (forwards x (address i x memory))) f))),
    sym (passed _ _ f),
    sym (and_false (eqb i.number CAS || not (forwards x (address i x memory))) f),
  )

  module _ (m : takes_word i.number ≡ true) where
    pub word-cas : i.number ≡ CAS →
        (known (address i x memory) ≡ (not (reads_address i x (address i x memory)) || known (address i x memory)))
        × (memory (address i x memory) ≡ word_taken i x memory) × (true ≡ reads_address i x (address i x memory))
    unfolding word_taken
    word-cas e = (
      sym (ap (λ (b : Bool). not b || known (address i x memory)) (and_true m (or_true (not (forwards x (address i x memory))) (eq-eqb _ _ e)))),
      sym (chosen _ _ m ∙ chosen _ _ (eq-eqb _ _ e)),
      sym (and_true m (or_true (not (forwards x (address i x memory))) (eq-eqb _ _ e))),
    )

    pub word-load : (i.number ≡ CAS → ⊥) →
        ((forwards x (address i x memory) || known (address i x memory)) ≡ (not (reads_address i x (address i x memory)) || known (address i x memory)))
        × (load x memory (address i x memory) ≡ word_taken i x memory) × (not (forwards x (address i x memory)) ≡ reads_address i x (address i x memory))
    unfolding word_taken
    word-load f = (
      sym (ap (λ (b : Bool). not (b && (eqb i.number CAS || not (forwards x (address i x memory)))) || known (address i x memory)) m
          ∙ ap (λ (b : Bool). not (b || not (forwards x (address i x memory))) || known (address i x memory)) (ne_eqb _ _ f)
          ∙ not-not (forwards x (address i x memory)) (known (address i x memory))),
      sym (chosen _ _ m ∙ passed _ _ (ne_eqb _ _ f)),
      sym (ap (λ (b : Bool). b && (eqb i.number CAS || not (forwards x (address i x memory)))) m ∙ ap (λ (b : Bool). b || not (forwards x (address i x memory))) (ne_eqb _ _ f)),
    )

  -- a statement that is no memory word takes nothing at all
  pub plain : is_memory i.number ≡ false →
      (true ≡ knows_all known (cells_read i x memory)) × (0 ≡ address i x memory) × (0 ≡ word_taken i x memory) × ([] ≡ cells_read i x memory)
  unfolding address cells_read
  plain f =
      let t : takes_word i.number ≡ false = and_false (not (eqb i.number STORE)) f in
      let r : reads_argument i x ≡ false = and_false (not (forwards x i.argument)) (and_false (eqb i.mode 1) f) in (
        sym (knows-cells ∙ ap (λ (b : Bool). (not b || known i.argument) && (not (reads_address i x (address i x memory)) || known (address i x memory))) r ∙ sym (word_none t).0),
        sym (passed _ _ f),
        (word_none t).1,
        ap₂ (λ (b c : Bool). cond b (i.argument ∷ []) [] ++ cond c (address i x memory ∷ []) []) (sym r) (word_none t).2,
      )
