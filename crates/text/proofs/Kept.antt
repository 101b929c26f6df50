-- Laws of the threads that are kept in a draft. Assumes nothing.
use Prim.Native.Nat.{ℕ, ◌+◌, ◌-◌, ◌*◌, ◌≤◌, ◌<◌}
use mathlib.Core.Path.{◌≡◌, refl, ap, sym, ◌∙◌}
use mathlib.Core.List.{List}
use mathlib.Core.Bool.{Bool, true, false, cond, ◌&&◌, ◌||◌}
use native.Mathlib.Omega.{arith}
use native.Mathlib.Decide.{ℕ_discrete, dec_lt}
use lib.Dec.{eqb, ltb}
use lib.ListN.{length, get_or, set}
use lib.Seq.{get_or-set_same, get_or-set_other}
use borrow.Author.Tests.{eq-eqb, ne_eqb, lt-ltb, le-ltb}
use Rattle.base.proofs.Choice.{chosen, passed, and_false}
use Rattle.text_lines.specs.declared.Stated.{Stated}
use Rattle.text_drafts.specs.Blocks.{block_at}
use Rattle.text.specs.Drafts.{drafted, threads_in}
use Rattle.records.specs.Instructions.{is_last}
use Rattle.text.specs.Sections.{Threads, halt, added, is_complete, gained, closed}
use Rattle.text.proofs.Labels.{drafted-at}

-- a statement put into the block after the open section's last
module _ (d d' counts : List ℕ) (ended n : ℕ) (x : Stated)
    (four : ended < length counts) (n-is : n ≡ get_or counts ended 0) (room : n < 32)
    (bounded : (t : ℕ) → get_or counts t 0 ≤ 32)
    (put : (j : ℕ) → block_at d' j ≡ cond (eqb j (32 * ended + n)) x (block_at d j)) where
  count-is : (t : ℕ) → get_or (set counts ended (n + 1)) t 0 ≡ cond (eqb t ended) (get_or counts t 0 + 1) (get_or counts t 0)
  count-is t = elim (ℕ_discrete t ended) [
    | yes e ↦ rw e (get_or-set_same counts ended (n + 1) 0 four) ∙ ap (λ (k : ℕ). k + 1) (n-is ∙ ap (λ (i : ℕ). get_or counts i 0) (sym e)) ∙ sym (chosen _ _ (eq-eqb t ended e))
    | no f ↦ get_or-set_other counts ended t (n + 1) 0 f ∙ sym (passed _ _ (ne_eqb t ended f))
  ]

  -- a block of another statement is as it was
  other : (j : ℕ) → (j ≡ 32 * ended + n → ⊥) → block_at d' j ≡ block_at d j
  other j f = put j ∙ passed _ _ (ne_eqb j (32 * ended + n) f)

  this : block_at d' (32 * ended + n) ≡ x
  this = put (32 * ended + n) ∙ chosen _ _ (eq-eqb (32 * ended + n) (32 * ended + n) refl)

  -- the open section
  open_is : (p : ℕ) → drafted d' ended (n + 1) p ≡ cond (eqb p n) x (drafted d ended n p)
  unfolding drafted
  open_is p = elim (ℕ_discrete p n) [
    | yes e ↦ rw e (chosen _ _ (lt-ltb n (n + 1) (omega arith)) ∙ this) ∙ sym (chosen _ _ (eq-eqb p n e))
    | no f ↦ elim (dec_lt p n) [
      | yes l ↦ chosen _ _ (lt-ltb p (n + 1) (omega arith)) ∙ other (32 * ended + p) (λ e. f (omega arith)) ∙ sym (passed _ _ (ne_eqb p n f) ∙ chosen _ _ (lt-ltb p n l))
      | no l ↦ passed _ _ (le-ltb p (n + 1) (omega arith)) ∙ sym (passed _ _ (ne_eqb p n f) ∙ passed _ _ (le-ltb p n (omega arith)))
    ]
  ]

  -- another thread
  other-is : (t p : ℕ) → (t ≡ ended → ⊥) → drafted d' t (get_or counts t 0) p ≡ drafted d t (get_or counts t 0) p
  unfolding drafted
  other-is t p f = elim (dec_lt p (get_or counts t 0)) [
    | yes l ↦ ap (λ y. cond (ltb p (get_or counts t 0)) y halt) (other (32 * t + p) (λ e. let b = bounded t in f (omega arith)))
    | no l ↦ passed _ _ (le-ltb p (get_or counts t 0) (omega arith)) ∙ sym (passed _ _ (le-ltb p (get_or counts t 0) (omega arith)))
  ]

  statement-is : (t p : ℕ) → drafted d' t (get_or (set counts ended (n + 1)) t 0) p ≡ cond (eqb t ended && eqb p (get_or counts t 0)) x (drafted d t (get_or counts t 0) p)
  statement-is t p = elim (ℕ_discrete t ended) [
    | yes e ↦
        ap (λ (i : ℕ). drafted d' i (get_or (set counts ended (n + 1)) i 0) p) e
        ∙ ap (λ (m : ℕ). drafted d' ended m p) (get_or-set_same counts ended (n + 1) 0 four)
        ∙ open_is p
        ∙ ap (λ (m : ℕ). cond (eqb p m) x (drafted d ended m p)) n-is
        ∙ sym (ap (λ (i : ℕ). cond (eqb i ended && eqb p (get_or counts i 0)) x (drafted d i (get_or counts i 0) p)) e
        ∙ ap (λ (b : Bool). cond (b && eqb p (get_or counts ended 0)) x (drafted d ended (get_or counts ended 0) p)) (eq-eqb ended ended refl))
    | no f ↦
        ap (λ (m : ℕ). drafted d' t m p) (get_or-set_other counts ended t (n + 1) 0 f)
        ∙ other-is t p f
        ∙ sym (passed _ _ (and_false _ (ne_eqb t ended f)))
  ]

  pub added-kept : threads_in d' ended (set counts ended (n + 1)) ≡ added x (threads_in d ended counts)
  unfolding added
  added-kept = λ i. record { ended = ended; count = λ t. count-is t i; statement = λ t p. statement-is t p i }

  pub bounded-more : (t : ℕ) → get_or (set counts ended (n + 1)) t 0 ≤ 32
  bounded-more t = elim (ℕ_discrete t ended) [
    | yes e ↦ rw (e, get_or-set_same counts ended (n + 1) 0 four) (omega arith)
    | no f ↦ rw (get_or-set_other counts ended t (n + 1) 0 f) (bounded t)
  ]

-- ---- a section's end

module _ (d counts : List ℕ) (ended : ℕ) (some : 0 < get_or counts ended 0) where
  pub complete : is_complete (threads_in d ended counts) ≡ is_last (block_at d (32 * ended + (get_or counts ended 0 - 1))).number
  complete =
      ap (λ (b : Bool). b || is_last (drafted d ended (get_or counts ended 0) (get_or counts ended 0 - 1)).number) (ne_eqb (get_or counts ended 0) 0 (omega (arith, some)))
      ∙ ap (λ x. is_last x.number) (drafted-at d ended (get_or counts ended 0) (get_or counts ended 0 - 1) (omega (arith, some)))

  pub closed-complete : is_last (block_at d (32 * ended + (get_or counts ended 0 - 1))).number ≡ true → threads_in d (ended + 1) counts ≡ closed (threads_in d ended counts)
  unfolding closed gained
  closed-complete last = ap (λ (T : Threads). record { ended = T.ended + 1; count = T.count; statement = T.statement }) (sym (chosen (threads_in d ended counts) (added halt (threads_in d ended counts)) (complete ∙ last)))

  pub closed_gains : (d' counts' : List ℕ) → is_last (block_at d (32 * ended + (get_or counts ended 0 - 1))).number ≡ false →
      threads_in d' ended counts' ≡ added halt (threads_in d ended counts) → threads_in d' (ended + 1) counts' ≡ closed (threads_in d ended counts)
  unfolding closed gained
  closed_gains d' counts' last e =
      ap (λ (T : Threads). record { ended = T.ended + 1; count = T.count; statement = T.statement })
      (e ∙ sym (passed (threads_in d ended counts) (added halt (threads_in d ended counts)) (complete ∙ last)))
