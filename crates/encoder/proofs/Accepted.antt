-- What acceptance gives the code: limits, checkpoints, and the table as the definition has it. Assumes nothing.
use Prim.Native.Nat.{ℕ, ◌≤◌, ◌<◌}
use mathlib.Core.Path.{◌≡◌, ap, sym, ◌∙◌, subst}
use mathlib.Core.Bool.{true, false, ◌&&◌}
use mathlib.Core.List.{List}
use Rattle.std.specs.Prelude.{Result, Err}
use Rattle.std.specs.Result.{IsErrAnd}
use Rattle.std.proofs.lemmas.Result.{err_from_is_err_and}
use Rattle.records.specs.Maps.{cells}
use Rattle.records.proofs.Maps.{few-cells}
use Rattle.records.specs.declared.refusals.Refusal.{Refusal}
use native.Mathlib.Decide.{dec_lt}
use native.Mathlib.Omega.{arith}
use borrow.Author.Tests.{lt-ltb, le-ltb, lt-leb, le-leb, leb-true}
use lib.Dec.{ltb, leb}
use lib.ListN.{take, replicate, length-replicate}
use lib.Seq.{take_all}
use Rattle.base.proofs.Choice.{chosen, passed, and_true, and_false, and_right_false, and_right}
use Rattle.records.specs.Maps.{map_accepted, set_cells}
use Rattle.records.specs.Sets.{Set, set_of, set_by, set_accepted, layout_of}
use Rattle.records.specs.declared.Layout.{Layout}
use Rattle.records.specs.Refusals.{of_call}
use Rattle.records.specs.declared.refusals.Refusal.TheVariants.{Records, Bound}
use Rattle.records.specs.declared.refusals.Refused.{Refused}
use Rattle.records.proofs.Sets.{well-formed}
use Rattle.records.proofs.Layouts.{few-threads, set-read}
use Rattle.encoding.specs.Checkpoints.{checkpoints}
use Rattle.encoding.specs.Encodings.{encoded, table_of}
use Rattle.encoding.specs.Slots.{Slot}
use Rattle.encoding.proofs.Begun.{start-below}
use Rattle.encoding.proofs.Distinct.{first-checkpoints_differ}
use Rattle.encoding.proofs.Listed.{few}
use Rattle.set_index.specs.ListTables.{Distinct, ListTable}
use Rattle.encoder_slots.specs.Places.{size}
use Rattle.set_index.specs.Points.{listed}
use Rattle.set_index.specs.declared.points.Points.{Points}
use Rattle.encoder_slots.proofs.Starts.{place-replicate}
use Rattle.encoder.specs.Answers.{bound_fits, checked, table_output}
use Rattle.encoder.specs.Accepted.{IsAccepted}
use Rattle.encoder_slots.specs.Pieces.{Ready}
use Rattle.encoder_slots.proofs.Idle.{idle-start}
use Rattle.encoder_size.specs.Sizes.{Limits}
use Rattle.set_index.specs.Members.{Members}

module _ (set : List ℕ) (layout : Layout) (points : Points) (ok : set_accepted set ≡ true) (l : layout ≡ layout_of set)
    (p : listed points ≡ take 8 (checkpoints (set_by set layout))) where
  read : set_by set layout ≡ set_of set
  read = set-read set layout l ok

  pub points_are : listed points ≡ checkpoints (set_of set)
  points_are = p ∙ (ap (λ (S : Set). take 8 (checkpoints S)) read ∙ take_all 8 (checkpoints (set_of set)) (few set ok))

  -- each is listed once
  pub points_differ : Distinct (listed points)
  points_differ = subst Distinct (sym p) (first-checkpoints_differ 8 (set_by set layout))

  counts : (t : ℕ) → (set_of set).count t ≤ 32
  counts t = elim (dec_lt t (set_of set).threads) [
    | yes h ↦ (well-formed set ok).few_statements t h
    | no h ↦ let e = (well-formed set ok).no_thread t (omega (arith, h)) in omega arith
  ]

  -- before a record is written every slot lies at its start
  pub limits : Limits layout
  limits = record { four_threads = few-threads set layout l ok; few_statements = λ (t : ℕ). subst (λ (S : Set). S.count t ≤ 32) (sym read) (counts t) }

  pub table_is : (map : List ℕ) (bound : ℕ) → encoded (set_by set layout) (listed points) map bound ≡ table_of set map bound
  unfolding table_of
  table_is map bound = λ i. encoded (read i) (points_are i) map bound

-- ---- before the first step

pub ready-start : {S : Set} {cs members lists : List ℕ} → Members S members → ListTable S cs lists → Ready S cs members lists (replicate size 0) 4
ready-start {S} by_class by_name = record {
  by_class = by_class;
  by_name = by_name;
  all_places = length-replicate {A = ℕ} size 0;
  below = λ (s : Slot). subst (λ (places : Slot → ℕ). places s < 4) (sym (place-replicate size)) (start-below s);
  idle = idle-start S size;
}

-- ---- the refusals before the table

-- a bound past 64, and none
pub bound-zero : (bound : ℕ) → bound ≡ 0 → bound_fits bound ≡ false
bound-zero bound e = and_false (leb bound 64) (le-ltb 0 bound (omega arith))

pub bound-large : (bound : ℕ) → 64 < bound → bound_fits bound ≡ false
bound-large bound h = and_right_false (ltb 0 bound) (lt-leb bound 64 h)

pub bound-fits : (bound : ℕ) → (bound ≡ 0 → ⊥) → bound ≤ 64 → bound_fits bound ≡ true
bound-fits bound f h = and_true (lt-ltb 0 bound (omega (arith, f))) (le-leb bound 64 h)

module _ (set map : List ℕ) (bound : ℕ) (rest : Result ℕ Refused) where
  pub records-refused : (set_accepted set && map_accepted set_cells map) ≡ false → Err (of_call Records) ≡ checked set map bound rest
  records-refused e = sym (passed _ _ e)

  pub bound-refused : (set_accepted set && map_accepted set_cells map) ≡ true → bound_fits bound ≡ false → Err (of_call Bound) ≡ checked set map bound rest
  bound-refused e f = sym (chosen _ _ e ∙ passed _ _ f)

  -- what is not refused
  pub passes : (layout : Layout) (steps : ℕ) → IsAccepted set map bound layout steps → rest ≡ checked set map bound rest
  passes layout steps w = sym (chosen _ _ (and_true w.accepted_set w.accepted_map) ∙ chosen _ _ w.accepted_bound)

  -- how the refusal of a call is told
  pub refused : (r : Result ℕ Refused) (k : Refusal) → IsErrAnd r (λ e. e ≡ of_call k) → Err (of_call k) ≡ checked set map bound rest → r ≡ checked set map bound rest
  refused r k told e = let w = err_from_is_err_and r told in w.1 ∙ (ap Err w.2 ∙ e)

-- it leaves the output as it was
pub kept : (r : Result ℕ Refused) (k : Refusal) → IsErrAnd r (λ e. e ≡ of_call k) → (set map : List ℕ) (bound : ℕ) (out : List ℕ) → out ≡ table_output r set map bound out
kept r k told set map bound out = let w = err_from_is_err_and r told in sym (ap (λ (x : Result ℕ Refused). table_output x set map bound out) w.1)

module _ (set map : List ℕ) (bound : ℕ) (layout : Layout) (steps : ℕ) (w : IsAccepted set map bound layout steps) (points : Points)
    (p : listed points ≡ take 8 (checkpoints (set_by set layout))) where
  pub limited : Limits layout
  limited = limits set layout points w.accepted_set w.layout_is p

  pub few-steps : steps ≤ 64
  few-steps = let e = w.steps_are in let h = leb-true bound 64 (and_right (ltb 0 bound) (leb bound 64) w.accepted_bound) in omega arith

  pub short-map : cells map ≤ set_cells
  short-map = few-cells set_cells map w.accepted_map

  pub encoded_is : encoded (set_by set layout) (listed points) map steps ≡ table_of set map bound
  encoded_is = ap (encoded (set_by set layout) (listed points) map) w.steps_are ∙ table_is set layout points w.accepted_set w.layout_is p map bound

  pub differ : Distinct (listed points)
  differ = points_differ set layout points w.accepted_set w.layout_is p
