-- The table of a set holds exactly where the first memory agrees with the map and the bits stand for a failing run. Assumes nothing.
use Prim.Native.Nat.{ℕ, zero, suc}
use mathlib.Core.Path.{◌≡◌, refl, ap, ap₂, sym, ◌∙◌}
use mathlib.Core.Bool.{Bool, true, false, cond, ◌&&◌}
use mathlib.Core.List.{List, ◌++◌}
use mathlib.Core.Logic.{◌↔◌}
use native.Mathlib.Omega.{arith}
use lib.Dec.{eqb, eqb-zero-suc, eqb-suc-zero}
use Rattle.base.specs.Below.{every}
use Rattle.base.proofs.Choice.{and_true, and_left, and_right, and_yes}
use Rattle.records.specs.Maps.{cells, address_at, value_at}
use Rattle.records.specs.Sets.{Set, WellFormedSet}
use Rattle.machine.specs.Machine.{State, start, permitted, step}
use Rattle.machine.specs.declared.Choice.{Choice}
use Rattle.table.specs.Programs.{upto, values_after, program_holds}
use Rattle.table.specs.Values.{Assignment, Value, bit, memory, as_memory, satisfies}
use Rattle.table.proofs.Meaning.{start_value}
use Rattle.table.proofs.Sequences.{values-++, holds-++}
use Rattle.encoding.specs.Encodings.{map_demand, starting, program, encoded}
use Rattle.encoding.specs.Slots.{Kind, shared_memory, val, adr, mem, accu, full, halted, flag, mark, ended, code, bit_zero, bit_one, word_zero, word_one, argument, Slot, slot, same, kind_number}
use Rattle.encoding.specs.Steps.{chain, only, block}
use Rattle.encoding.proofs.Begun.{start_values, begun}
use Rattle.encoding.proofs.Blocks.{others, settled}
use Rattle.encoding.proofs.Demands.{block_free, steps_and_goal, steps_from, all-steps, chosen_at, next_at}
use Rattle.encoding.proofs.Failing.{Live, StepLaws, Failing, Stands, to-run, of_run}
use Rattle.encoding.proofs.Marks.{Beyond, sound-start, sound-step}
use Rattle.encoding.proofs.Next.{next_values}
use Rattle.encoding.proofs.Over.{constants-last, ended-last, code-last}
use Rattle.encoding.proofs.Ruled.{ready, ruled_in, ruled_out, over-rule_in, over-rule-out}
use Rattle.encoding.proofs.Shown.{Complete, Bits, Constants, Shows}

-- ---- the laws of a step

module _ (S : Set) (cs : List ℕ) (g : Assignment) (well_formed : WellFormedSet S) (beyond : Beyond S) (complete : Complete S cs) where
  live_next_lem : (k : ℕ) (slots : Slot → Value) (s : State) (c : Choice) → Live S cs g slots s → permitted S s c ≡ true → Bits S g k c → Live S cs g (next_at S cs g k slots) (step S s c)
  live_next_lem k slots s c live p b =
      let r = next_values S cs g k (chosen_at S cs g k slots) s c well_formed beyond (ready S cs g k slots s live.constants live.shows) p b in
      record { constants = r.0; shows = r.1; sound = sound-step S beyond s live.sound c }

  pub step_laws : StepLaws S cs g
  step_laws = record {
    live_in = λ k slots s c live e p b. ruled_in S cs g k slots s live.constants live.shows beyond complete live.sound e c p b;
    live_out = λ k slots s live e r. ruled_out S cs g k slots s live.constants live.shows beyond complete live.sound e r;
    live_next = live_next_lem;
    over_in = λ k slots v over b. over-rule_in S cs g k slots over.constants over.ended_is b;
    over_out = λ k slots v over r. over-rule-out S cs g k slots over.constants over.ended_is r;
    over_next = λ k slots v over b. record {
      constants = constants-last S cs g k slots over.constants;
      ended_is = ended-last S cs g k slots b over.ended_is;
      code_is = code-last S cs g k slots b ∙ over.code_is;
    };
  }

-- ---- the start

module _ (S : Set) (cs : List ℕ) (g : Assignment) where
  abbrev begin : Slot → Value
  begin = start_values g

  abbrev with_unit : Slot → Value
  with_unit = values_after same g begin (block S cs 0 word_one)

  abbrev with_arguments : Slot → Value
  with_arguments = values_after same g with_unit (block S cs 0 argument)

  -- a slot whose kind the start values leave
  untouched : (l : Kind) (a b : ℕ) → eqb (kind_number l) (kind_number word_one) ≡ false → eqb (kind_number l) (kind_number argument) ≡ false →
      with_arguments (slot l a b) ≡ begin (slot l a b)
  untouched l a b p q = others g S cs 0 argument with_unit l a b q ∙ others g S cs 0 word_one begin l a b p

  begin-constants : Constants S with_arguments
  unfolding chain
  begin-constants = record {
    no_is = untouched bit_zero 0 0 refl refl;
    yes_is = untouched bit_one 0 0 refl refl;
    word_zero_is = untouched word_zero 0 0 refl refl;
    unit_is = others g S cs 0 argument with_unit word_one 0 0 refl ∙ settled g S cs 0 word_one begin 0 0 (omega arith) (omega arith) refl refl;
    argument_is = λ t i h l. settled g S cs 0 argument with_unit t i h l refl refl;
  }

  -- statement 0 of each thread is the next one
  begin-flag : (t i : ℕ) → begin (slot flag t i) ≡ bit (eqb 0 i)
  begin-flag t zero = refl
  begin-flag t (suc i) = ap (λ (b : Bool). start_value g (cond b 1 0)) (eqb-suc-zero i) ∙ ap bit (sym (eqb-zero-suc i))

  begin-shows : Shows S cs with_arguments (start g.first)
  begin-shows = record {
    memory_is = untouched shared_memory 0 0 refl refl;
    ended_is = untouched ended 0 0 refl refl;
    code_is = untouched code 0 0 refl refl;
    accu_is = λ t h. untouched accu t 0 refl refl;
    mem_is = λ t h. untouched mem t 0 refl refl;
    adr_is = λ t h. untouched adr t 0 refl refl;
    val_is = λ t h. untouched val t 0 refl refl;
    full_is = λ t h. untouched full t 0 refl refl;
    halted_is = λ t h. untouched halted t 0 refl refl;
    flag_is = λ t i h l. untouched flag t i refl refl ∙ begin-flag t i;
    mark_is = λ t p h l e. untouched mark t p refl refl;
  }

  begin_live : Live S cs g with_arguments (start g.first)
  begin_live = record { constants = begin-constants; shows = begin-shows; sound = sound-start S g.first }

  starting-values : values_after same g begin (starting S cs) ≡ with_arguments
  starting-values = values-++ same g begin (block S cs 0 word_one) (block S cs 0 argument)

  starting-holds : program_holds same g begin (starting S cs) ≡ true
  starting-holds =
      holds-++ same g begin (block S cs 0 word_one) (block S cs 0 argument)
      ∙ and_true (block_free g S cs 0 word_one begin) (block_free g S cs 0 argument with_unit)

  -- ---- the map

  module _ (map : List ℕ) where
    -- the first cell at map cell j's address has its value
    abbrev pub agrees_at : ℕ → Bool
    agrees_at j = eqb (g.first (address_at map j)) (value_at map j)

    map-values : (slots : Slot → Value) (n : ℕ) → values_after same g slots (upto (map_demand map) n) ≡ slots
    unfolding upto values_after
    map-values slots zero = refl
    map-values slots (suc n) = values-++ same g slots (upto (map_demand map) n) (map_demand map n) ∙ map-values slots n

    map-holds : (slots : Slot → Value) → slots (only shared_memory) ≡ memory g.first → (n : ℕ) → program_holds same g slots (upto (map_demand map) n) ≡ every n agrees_at
    unfolding upto program_holds every
    map-holds slots e zero = refl
    map-holds slots e (suc n) =
        holds-++ same g slots (upto (map_demand map) n) (map_demand map n)
        ∙ ap₂ ◌&&◌ (map-holds slots e n)
        (ap (λ (after : Slot → Value). program_holds same g after (map_demand map n)) (map-values slots n)
        ∙ (and_yes (eqb (as_memory (slots (only shared_memory)) (address_at map n)) (value_at map n))
        ∙ ap (λ (m : Value). eqb (as_memory m (address_at map n)) (value_at map n)) e))

    -- ---- the whole

    module _ (bound : ℕ) where
      program-holds : program_holds same g begin (program S cs map bound) ≡ (every (cells map) agrees_at && program_holds same g with_arguments (steps_from S cs 0 bound))
      unfolding program
      program-holds =
          holds-++ same g begin (starting S cs) _
          ∙ (ap₂ (λ (b : Bool) (after : Slot → Value). b && program_holds same g after (upto (map_demand map) (cells map) ++ steps_and_goal S cs bound)) starting-holds starting-values
          ∙ (holds-++ same g with_arguments (upto (map_demand map) (cells map)) _
          ∙ (λ z. map-holds with_arguments begin-shows.memory_is (cells map) z && program_holds same g (map-values with_arguments (cells map) z) (all-steps S cs bound z))))

      module _ (well_formed : WellFormedSet S) (beyond : Beyond S) (complete : Complete S cs) where
        pub meant : (satisfies g (encoded S cs map bound) ≡ true) ↔
            ((every (cells map) agrees_at ≡ true) × ((run : List Choice) × (Failing S cs g bound (start g.first) run × Stands S cs g 0 bound run)))
        meant =
            let agrees = every (cells map) agrees_at in
            let laws = step_laws S cs g well_formed beyond complete in
            let whole = begun g S cs map bound ∙ program-holds in (
              λ e.
                  let both = sym whole ∙ e in
                  (and_left agrees _ both, to-run S cs g laws bound 0 with_arguments (start g.first) begin_live (λ q. refl) (and_right agrees _ both)),
              λ r. whole ∙ and_true r.0 (of_run S cs g laws bound 0 with_arguments (start g.first) r.1.0 begin_live r.1.1.0 r.1.1.1),
            )
