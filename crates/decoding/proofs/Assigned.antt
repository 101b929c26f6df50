-- Models and assignments: what a model of bytes assigns, and the model whose assignment stands for a run from a map's first memory.
-- Assumes nothing.
use Prim.Native.Nat.{ℕ, zero, suc, ◌+◌, ◌*◌, ◌≤◌, ◌<◌}
use mathlib.Core.Path.{◌≡◌, refl, ap, sym, fun_ext, subst⁻¹, ◌∙◌}
use mathlib.Core.Bool.{Bool, true, false, ◌&&◌}
use mathlib.Core.List.{List, [], ◌∷◌, ◌++◌}
use native.Mathlib.Omega.{arith}
use native.Mathlib.Decide.{ℕ_discrete}
use native.Mathlib.Nat.{mul-suc, mul-zero, mul-le-mul_left}
use lib.Dec.{eqb, ltb}
use lib.ListN.{length, get_or, length-append, get_or-append}
use lib.Seq.{get_or-append-add, get_or-append_seam, get_or-drop, drop_at}
use borrow.Author.Tests.{ltb-true, lt-ltb, le-leb, eqb-true, eq-eqb}
use Rattle.base.proofs.Below.{every-all}
use Rattle.base.proofs.Choice.{and_true, and_left, and_right}
use Rattle.records.specs.Maps.{map_accepted, map_value, run_cells}
use Rattle.records.specs.Sets.{Set}
use Rattle.machine.specs.Machine.{State}
use Rattle.machine.specs.Runs.{is_run}
use Rattle.machine.specs.Traces.{bit}
use Rattle.machine.specs.declared.Choice.{Choice}
use Rattle.encoding.specs.Assignments.{bits_of, assignment_of}
use Rattle.encoding.proofs.Assigned.{bits_inside}
use Rattle.encoding.proofs.Bytes.{Bytes}
use Rattle.encoding.proofs.Tests.{same_tests}
use Rattle.decoding.specs.Models.{bits, bit_index, listed_cells, model_fits, assigned}
use Rattle.decoding.proofs.Below.{append_below}

-- ---- what a model assigns

-- the cells after a model's bits are bytes too
pub listed-bytes : (threads bound : ℕ) (model : List ℕ) → Bytes model → Bytes (listed_cells threads bound model)
listed-bytes threads bound model h i = subst⁻¹ (λ (b : ℕ). b < 256) (get_or-drop (bits threads bound) model i 0) (h (bits threads bound + i))

pub assigned-inside : (threads bound : ℕ) (model : List ℕ) (k kind t : ℕ) → (assigned threads bound model).choice k kind t ≡ true →
    (k < bound) × ((kind < 2) × (t < threads))
unfolding assigned
assigned-inside threads bound model k kind t e =
    let a = ltb k bound in
    let b = ltb kind 2 in
    let c = ltb t threads in
    let d = eqb (get_or model (bit_index threads k kind t) 0) 1 in
    let abc = and_left (a && b && c) d e in
    let ab = and_left (a && b) c abc in
    (ltb-true k bound (and_left a b ab), (ltb-true kind 2 (and_right a b ab), ltb-true t threads (and_right (a && b) c abc)))

-- ---- bits written out

-- n bits
unfoldable pub bit_row : (ℕ → Bool) → ℕ → List ℕ
bit_row f zero = []
bit_row f (suc n) = bit_row f n ++ (bit (f n) ∷ [])

length-row : (f : ℕ → Bool) (n : ℕ) → length (bit_row f n) ≡ n
unfolding bit_row
length-row f zero = refl
length-row f (suc n) = length-append (bit_row f n) (bit (f n) ∷ []) ∙ omega (arith, length-row f n)

row_at : (f : ℕ → Bool) (n i : ℕ) → i < n → get_or (bit_row f n) i 0 ≡ bit (f i)
unfolding bit_row
row_at f zero i h = absurd (omega arith)
row_at f (suc n) i h = elim (ℕ_discrete i n) [
  | yes e ↦
      let here : i ≡ length (bit_row f n) = e ∙ sym (length-row f n) in
      ap (λ (j : ℕ). get_or (bit_row f n ++ (bit (f n) ∷ [])) j 0) here ∙ get_or-append_seam (bit_row f n) (bit (f n)) [] 0 ∙ ap (λ (j : ℕ). bit (f j)) (sym e)
  | no g ↦ get_or-append (bit_row f n) (bit (f n) ∷ []) 0 i (omega (arith, length-row f n)) ∙ row_at f n i (omega arith)
]

bit_below : (b : Bool) → bit b < 2
bit_below true = omega arith
bit_below false = omega arith

row_below : (f : ℕ → Bool) (n i : ℕ) → get_or (bit_row f n) i 0 < 2
unfolding bit_row
row_below f zero i = omega arith
row_below f (suc n) i = append_below 2 (bit_row f n) (bit (f n) ∷ []) (row_below f n) one i
  where
    one : (i : ℕ) → get_or (bit (f n) ∷ []) i 0 < 2
    one zero = bit_below (f n)
    one (suc i) = omega arith

module _ (threads : ℕ) (f : ℕ → ℕ → ℕ → Bool) where
  -- the bits of step k: executes, then flushes
  abbrev step_bits : ℕ → List ℕ
  step_bits k = bit_row (f k 0) threads ++ bit_row (f k 1) threads

  -- those of the first n steps
  unfoldable pub all_bits : ℕ → List ℕ
  all_bits zero = []
  all_bits (suc n) = all_bits n ++ step_bits n

  length-step : (k : ℕ) → length (step_bits k) ≡ 2 * threads
  length-step k =
      length-append (bit_row (f k 0) threads) (bit_row (f k 1) threads)
      ∙ omega (arith, length-row (f k 0) threads, length-row (f k 1) threads)

  length-all : (n : ℕ) → length (all_bits n) ≡ bits threads n
  unfolding all_bits
  length-all zero = sym (mul-zero (2 * threads))
  length-all (suc n) =
      length-append (all_bits n) (step_bits n) ∙ omega (arith, length-all n, length-step n, mul-suc (2 * threads) n)

  all-below : (n i : ℕ) → get_or (all_bits n) i 0 < 2
  unfolding all_bits
  all-below zero i = omega arith
  all-below (suc n) i = append_below 2 (all_bits n) (step_bits n) (all-below n)
      (append_below 2 (bit_row (f n 0) threads) (bit_row (f n 1) threads) (row_below (f n 0) threads) (row_below (f n 1) threads)) i

  step-at : (k kind t : ℕ) → kind < 2 → t < threads → get_or (step_bits k) (threads * kind + t) 0 ≡ bit (f k kind t)
  step-at k zero t h l =
      let e : threads * 0 + t ≡ t = omega arith in
      ap (λ (i : ℕ). get_or (step_bits k) i 0) e
      ∙ get_or-append (bit_row (f k 0) threads) (bit_row (f k 1) threads) 0 t (omega (arith, length-row (f k 0) threads))
      ∙ row_at (f k 0) threads t l
  step-at k (suc zero) t h l =
      let e : threads * 1 + t ≡ length (bit_row (f k 0) threads) + t = omega (arith, length-row (f k 0) threads) in
      ap (λ (i : ℕ). get_or (step_bits k) i 0) e
      ∙ get_or-append-add (bit_row (f k 0) threads) (bit_row (f k 1) threads) t 0
      ∙ row_at (f k 1) threads t l
  step-at k (suc (suc kind)) t h l = absurd (omega arith)

  inside-step : (kind t : ℕ) → kind < 2 → t < threads → threads * kind + t < 2 * threads
  inside-step zero t h l = omega arith
  inside-step (suc zero) t h l = omega arith
  inside-step (suc (suc kind)) t h l = absurd (omega arith)

  all-at : (n k kind t : ℕ) → k < n → kind < 2 → t < threads → get_or (all_bits n) (bit_index threads k kind t) 0 ≡ bit (f k kind t)
  unfolding all_bits
  all-at zero k kind t h l m = absurd (omega arith)
  all-at (suc n) k kind t h l m = elim (ℕ_discrete k n) [
    | yes e ↦
        let here : bit_index threads k kind t ≡ length (all_bits n) + (threads * kind + t)
        = ap (λ (j : ℕ). 2 * threads * j + (threads * kind + t)) e ∙ ap (λ (j : ℕ). j + (threads * kind + t)) (sym (length-all n)) in
        ap (λ (i : ℕ). get_or (all_bits n ++ step_bits n) i 0) here
        ∙ get_or-append-add (all_bits n) (step_bits n) (threads * kind + t) 0 ∙ step-at n kind t l m ∙ ap (λ (j : ℕ). bit (f j kind t)) (sym e)
    | no g ↦
        let few : suc k ≤ n = omega arith in
        get_or-append (all_bits n) (step_bits n) 0 (bit_index threads k kind t)
        (omega (arith, length-all n, inside-step kind t l m, mul-suc (2 * threads) k, mul-le-mul_left (2 * threads) few))
        ∙ all-at n k kind t (omega arith) l m
  ]

-- ---- the model of a run and a map

unfoldable pub model_of : (threads bound : ℕ) → List Choice → List ℕ → List ℕ
model_of threads bound run map = all_bits threads (bits_of run) bound ++ map

module _ (threads bound : ℕ) (run : List Choice) (map : List ℕ) where
  abbrev front : List ℕ
  front = all_bits threads (bits_of run) bound

  pub listed-map : listed_cells threads bound (model_of threads bound run map) ≡ map
  unfolding model_of
  listed-map = drop_at front map (bits threads bound) (length-all threads (bits_of run) bound)

  pub model-bytes : Bytes map → Bytes (model_of threads bound run map)
  unfolding model_of
  model-bytes h = append_below 256 front map (λ i. let b = all-below threads (bits_of run) bound i in omega arith) h

  pub model-fits : map_accepted run_cells map ≡ true → model_fits threads bound (model_of threads bound run map) ≡ true
  unfolding model_fits model_of
  model-fits ok = and_true
      (and_true (le-leb (bits threads bound) (length (front ++ map)) (omega (arith, length-append front map, length-all threads (bits_of run) bound)))
      (every-all (λ i. ltb (get_or (front ++ map) i 0) 2) (bits threads bound) small))
      (ap (map_accepted run_cells) (drop_at front map (bits threads bound) (length-all threads (bits_of run) bound)) ∙ ok)
    where
      small : (i : ℕ) → i < bits threads bound → ltb (get_or (front ++ map) i 0) 2 ≡ true
      small i h = lt-ltb (get_or (front ++ map) i 0) 2
          (omega (arith, get_or-append front map 0 i (omega (arith, length-all threads (bits_of run) bound)), all-below threads (bits_of run) bound i))

  model_at : (k kind t : ℕ) → k < bound → kind < 2 → t < threads → get_or (model_of threads bound run map) (bit_index threads k kind t) 0 ≡ bit (bits_of run k kind t)
  unfolding model_of
  model_at k kind t h l m =
      let next : suc k ≤ bound = omega arith in
      get_or-append front map 0 (bit_index threads k kind t)
      (omega (
        arith,
        length-all threads (bits_of run) bound,
        inside-step threads (bits_of run) kind t l m,
        mul-suc (2 * threads) k,
        mul-le-mul_left (2 * threads) next,
      ))
      ∙ all-at threads (bits_of run) bound k kind t h l m

bit-one : (b : Bool) → bit b ≡ 1 → b ≡ true
bit-one true e = refl
bit-one false e = absurd (omega arith)

-- its assignment stands for the run from the map's first memory
module _ (S : Set) (bound : ℕ) (s : State) (run : List Choice) (map : List ℕ) (permitted : is_run S s run ≡ true) (few : length run ≤ bound) where
  abbrev model : List ℕ
  model = model_of S.threads bound run map

  model-choice : (k kind t : ℕ) → (assigned S.threads bound model).choice k kind t ≡ bits_of run k kind t
  unfolding assigned
  model-choice k kind t = same_tests _ (bits_of run k kind t) there back
    where
      value : ℕ
      value = get_or model (bit_index S.threads k kind t) 0

      there : (ltb k bound && ltb kind 2 && ltb t S.threads && eqb value 1) ≡ true → bits_of run k kind t ≡ true
      there e =
          let r = and_left (ltb k bound && ltb kind 2 && ltb t S.threads) (eqb value 1) e in
          let q = and_left (ltb k bound && ltb kind 2) (ltb t S.threads) r in
          let at = model_at S.threads bound run map k kind t (ltb-true k bound (and_left (ltb k bound) (ltb kind 2) q))
          (ltb-true kind 2 (and_right (ltb k bound) (ltb kind 2) q)) (ltb-true t S.threads (and_right (ltb k bound && ltb kind 2) (ltb t S.threads) r)) in
          bit-one (bits_of run k kind t) (sym at ∙ eqb-true value 1 (and_right (ltb k bound && ltb kind 2 && ltb t S.threads) (eqb value 1) e))

      back : bits_of run k kind t ≡ true → (ltb k bound && ltb kind 2 && ltb t S.threads && eqb value 1) ≡ true
      back e =
          let r = bits_inside S s run permitted k kind t e in
          let h : k < bound = omega (arith, r.0) in
          and_true (and_true (and_true (lt-ltb k bound h) (lt-ltb kind 2 r.1.0)) (lt-ltb t S.threads r.1.1))
          (eq-eqb value 1 (model_at S.threads bound run map k kind t h r.1.0 r.1.1 ∙ ap bit e))

  pub model-assigned : assigned S.threads bound model ≡ assignment_of (map_value map) run
  unfolding assigned
  model-assigned i = record {
    choice = fun_ext (λ k. fun_ext (λ kind. fun_ext (λ t. model-choice k kind t))) i;
    first = map_value (listed-map S.threads bound run map i);
  }
