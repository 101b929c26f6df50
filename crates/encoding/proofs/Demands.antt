-- What the steps and the goal of a table demand, one step after the other. Assumes nothing.
use Prim.Native.Nat.{ℕ, zero, suc, ◌+◌}
use mathlib.Core.Path.{◌≡◌, refl, ap, ap₂, sym, ◌∙◌}
use mathlib.Core.Bool.{Bool, true, not, ◌&&◌}
use mathlib.Core.List.{List, [], ◌∷◌, ◌++◌, append_assoc}
use native.Mathlib.Nat.{add-zero, zero-add}
use native.Mathlib.Omega.{arith}
use lib.Dec.{eqb}
use Rattle.base.proofs.Choice.{cond_both, and_true, and_yes}
use Rattle.records.specs.Sets.{Set}
use Rattle.table.specs.Programs.{tree_value, Command, needs, aims, upto, values_after, program_holds}
use Rattle.table.specs.Values.{Assignment, Value, as_bit, as_word}
use Rattle.table.proofs.Sequences.{values-++, holds-++}
use Rattle.encoding.specs.Slots.{Kind, code, Slot, same, kind_at}
use Rattle.encoding.specs.Encodings.{goal_tree}
use Rattle.encoding.specs.Steps.{only, word0, shape, rows, columns, kept, entry, line, block, blocks, ruled, step}

-- ---- blocks demand nothing

module _ (g : Assignment) where
  abbrev pub NoDemand : List (Command Slot) → Type 0
  NoDemand program = (slots : Slot → Value) → program_holds same g slots program ≡ true

  no_demand_upto : (f : ℕ → List (Command Slot)) (n : ℕ) → ((i : ℕ) → NoDemand (f i)) → NoDemand (upto f n)
  unfolding upto program_holds
  no_demand_upto f zero free slots = refl
  no_demand_upto f (suc n) free slots =
      holds-++ same g slots (upto f n) (f n) ∙ and_true (no_demand_upto f n free slots) (free n (values_after same g slots (upto f n)))

  module _ (S : Set) (cs : List ℕ) (k : ℕ) where
    entry_free : (kind : Kind) (a b : ℕ) → NoDemand (entry S cs k kind a b)
    unfolding program_holds
    entry_free kind a b = cond_both NoDemand (kept S cs k (shape kind) a b) (λ slots. refl) (λ slots. refl)

    pub block_free : (kind : Kind) → NoDemand (block S cs k kind)
    block_free kind = no_demand_upto (line S cs k kind) (rows S cs k (shape kind))
        (λ a. no_demand_upto (entry S cs k kind a) (columns S cs k (shape kind) a) (entry_free kind a))

    pub blocks_free : (j n : ℕ) → NoDemand (blocks S cs k j n)
    blocks_free j n = no_demand_upto (λ i. block S cs k (kind_at (j + i))) n (λ i. block_free (kind_at (j + i)))

-- ---- the steps from the front

module _ (S : Set) (cs : List ℕ) where
  -- the first n steps and the goal
  abbrev pub steps_and_goal : ℕ → List (Command Slot)
  steps_and_goal n = upto (step S cs) n ++ (aims goal_tree ∷ [])

  -- n steps from step k on, and the goal
  unfoldable pub steps_from : (k n : ℕ) → List (Command Slot)
  steps_from k zero = aims goal_tree ∷ []
  steps_from k (suc n) = step S cs k ++ steps_from (suc k) n

  from_front : (k n : ℕ) → upto (step S cs) k ++ steps_from k n ≡ steps_and_goal (k + n)
  unfolding steps_from upto
  from_front k zero = ap steps_and_goal (sym (add-zero k))
  from_front k (suc n) =
      let e : suc k + n ≡ k + suc n = omega arith in
      sym (append_assoc (upto (step S cs) k) (step S cs k) (steps_from (suc k) n))
      ∙ (from_front (suc k) n ∙ ap steps_and_goal e)

  pub all-steps : (n : ℕ) → steps_and_goal n ≡ steps_from 0 n
  unfolding upto
  all-steps n = ap steps_and_goal (sym (zero-add n)) ∙ sym (from_front 0 n)

  module _ (g : Assignment) where
    -- the values of step k where its constraint is read, and after it
    abbrev pub chosen_at : ℕ → (Slot → Value) → Slot → Value
    chosen_at k slots = values_after same g slots (blocks S cs k 0 11)

    abbrev pub next_at : ℕ → (Slot → Value) → Slot → Value
    next_at k slots = values_after same g (chosen_at k slots) (blocks S cs k 11 25)

    -- the constraint of step k
    abbrev pub rule : ℕ → (Slot → Value) → Bool
    rule k slots = as_bit (tree_value g (chosen_at k slots) (ruled S cs k))

    pub step-values : (k : ℕ) (slots : Slot → Value) → values_after same g slots (step S cs k) ≡ next_at k slots
    unfolding step values_after
    step-values k slots = values-++ same g slots (blocks S cs k 0 11) (needs (ruled S cs k) ∷ blocks S cs k 11 25)

    step-holds : (k : ℕ) (slots : Slot → Value) → program_holds same g slots (step S cs k) ≡ rule k slots
    unfolding step program_holds
    step-holds k slots =
        holds-++ same g slots (blocks S cs k 0 11) (needs (ruled S cs k) ∷ blocks S cs k 11 25)
        ∙ (ap₂ (λ (a b : Bool). a && (rule k slots && b)) (blocks_free g S cs k 0 11 slots) (blocks_free g S cs k 11 25 (chosen_at k slots))
        ∙ and_yes (rule k slots))

    pub steps_demand : (k n : ℕ) (slots : Slot → Value) →
        program_holds same g slots (steps_from k (suc n)) ≡ (rule k slots && program_holds same g (next_at k slots) (steps_from (suc k) n))
    unfolding steps_from
    steps_demand k n slots =
        holds-++ same g slots (step S cs k) (steps_from (suc k) n)
        ∙ ap₂ (λ (b : Bool) (after : Slot → Value). b && program_holds same g after (steps_from (suc k) n)) (step-holds k slots) (step-values k slots)

    pub goal_demand : (k : ℕ) (slots : Slot → Value) → program_holds same g slots (steps_from k 0) ≡ not (eqb (as_word (slots (only code))) (as_word (slots word0)))
    unfolding steps_from program_holds
    goal_demand k slots = and_yes (not (eqb (as_word (slots (only code))) (as_word (slots word0))))
