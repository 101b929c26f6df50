-- A step of a machine by value: what the acting thread's answer says of the outcome and of what is held. Assumes nothing.
use Prim.Native.Nat.{ℕ, ◌%◌, ◌≤◌}
use mathlib.Core.Path.{◌≡◌, refl, ap, ap₂, sym, ◌∙◌}
use mathlib.Core.Bool.{Bool, true, false, cond, not, ◌&&◌}
use mathlib.Core.List.{List}
use lib.Dec.{leb, ltb}
use lib.ListN.{length, get_or}
use borrow.Author.Tests.{ltb-true, le-leb}
use Rattle.base.proofs.Choice.{chosen, passed, clash}
use Rattle.records.specs.Sets.{set_by}
use Rattle.records.specs.declared.Layout.{Layout}
use Rattle.machine.specs.Held.{state_of, memory_of, known_of, held_of}
use Rattle.machine.specs.Machine.{actor, fresh, unmarked}
use Rattle.machine.specs.Maps.{outcome}
use Rattle.machine.specs.declared.Choice.{Choice}
use Rattle.machine.specs.declared.Machine.{Machine}
use Rattle.machine.specs.declared.Outcome.{Outcome}
use Rattle.machine.specs.declared.Outcome.TheVariants.{Taken, NotPermitted, Lacking}
use Rattle.step.specs.Acting.{can_step, outcome_by, statement_by, waits}
use Rattle.step.specs.Step.{has_room, on_taken}
use Rattle.step.specs.declared.acting.Stepped.{Stepped}
use Rattle.step.proofs.Steps.{Told, came-out, has_room_lem}

taken_is : (o : Outcome) → on_taken o true false ≡ true → o ≡ Taken
taken_is Taken e = refl
taken_is NotPermitted e = clash e refl
taken_is Lacking e = clash e refl

pub taken_so : {o : Outcome} {b : Bool} → b ≡ on_taken o true false → b ≡ true → o ≡ Taken
taken_so {o} p e = taken_is o (sym p ∙ e)

-- what is not taken is left
pub left : {A : Type 0} (o : Outcome) (x y : A) → on_taken o true false ≡ false → on_taken o x y ≡ y
left Taken x y e = clash refl e
left NotPermitted x y e = refl
left Lacking x y e = refl

module _ (set : List ℕ) (layout : Layout) (m : Machine) (addresses values : List ℕ) (filled : ℕ) (c : Choice) (few : layout.threads ≤ 4) where
  abbrev memory : ℕ → ℕ
  memory = memory_of addresses values filled

  abbrev known : ℕ → Bool
  known = known_of addresses filled

  abbrev pub can : Bool
  can = can_step layout m.ended (length addresses) (length values) filled c

  abbrev pub roomy : Bool
  roomy = has_room layout.threads (length addresses) (length values) filled

  room-is : (a b : Bool) → ltb filled (length addresses) ≡ a → ltb filled (length values) ≡ b → roomy ≡ (a && b)
  room-is a b p q = ap₂ (λ (x y : Bool). leb layout.threads 4 && x && y) p q ∙ ap (λ (z : Bool). z && a && b) (le-leb _ _ few)

  module _ (r : Stepped) (later : ℕ → ℕ) (knows : ℕ → Bool) (told : Told (set_by set layout) m memory known c few can (actor c % 4) filled r later knows) where
    no_room : can ≡ false → r.outcome ≡ NotPermitted
    no_room e = told.came ∙ ap (λ (b : Bool). outcome_by b c (statement_by (set_by set layout) c (get_or m.threads (actor c % 4) fresh)) (get_or m.threads (actor c % 4) fresh) (waits (set_by set layout) (λ u. get_or m.marks u unmarked) (get_or m.marks (actor c % 4) unmarked)) memory known) e

    -- the outcome is the definition's, where there is room
    pub came_so : r.outcome ≡ cond roomy (outcome (set_by set layout) (held_of m addresses values filled) c) NotPermitted
    came_so = go (ltb filled (length addresses)) refl (ltb filled (length values)) refl
      where
        go : (a : Bool) → ltb filled (length addresses) ≡ a → (b : Bool) → ltb filled (length values) ≡ b → r.outcome ≡ cond roomy (outcome (set_by set layout) (held_of m addresses values filled) c) NotPermitted
        go true p true q =
            came-out (set_by set layout) m memory known c few told (has_room_lem layout m.ended (length addresses) (length values) filled c (ltb-true _ _ p) (ltb-true _ _ q))
            ∙ sym (chosen _ _ (room-is true true p q))
        go true p false q = no_room (ap₂ (λ (x y : Bool). x && y && ltb (actor c) layout.threads && not m.ended) p q) ∙ sym (passed _ _ (room-is true false p q))
        go false p b q = no_room (ap (λ (x : Bool). x && ltb filled (length values) && ltb (actor c) layout.threads && not m.ended) p) ∙ sym (passed _ _ (room-is false b p q))

    -- a step that was taken had room
    pub had_room : r.outcome ≡ Taken → can ≡ (ltb (actor c) layout.threads && not m.ended)
    had_room t = go (ltb filled (length addresses)) refl (ltb filled (length values)) refl
      where
        none : can ≡ false → can ≡ (ltb (actor c) layout.threads && not m.ended)
        none e = let q : on_taken r.outcome true false ≡ false = ap (λ (o : Outcome). on_taken o true false) (no_room e) in clash (ap (λ (o : Outcome). on_taken o true false) t) q

        go : (a : Bool) → ltb filled (length addresses) ≡ a → (b : Bool) → ltb filled (length values) ≡ b → can ≡ (ltb (actor c) layout.threads && not m.ended)
        go true p true q = has_room_lem layout m.ended (length addresses) (length values) filled c (ltb-true _ _ p) (ltb-true _ _ q)
        go true p false q = none (ap₂ (λ (x y : Bool). x && y && ltb (actor c) layout.threads && not m.ended) p q)
        go false p b q = none (ap (λ (x : Bool). x && ltb filled (length values) && ltb (actor c) layout.threads && not m.ended) p)

    -- memory and known cells stay where it was not taken
    pub stays : on_taken r.outcome true false ≡ false → record { state = state_of m later; known = knows } ≡ held_of m addresses values filled
    stays e k = record {
      state = state_of m ((told.memory-is ∙ left {A = ℕ → ℕ} r.outcome _ memory e) k);
      known = (told.known_is ∙ left {A = ℕ → Bool} r.outcome _ known e) k;
    }
