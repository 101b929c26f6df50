-- A step that is written by repeating the one before it is the step of the table. Assumes nothing.
use Prim.Native.Nat.{ℕ, zero, suc, ◌+◌, ◌-◌, ◌*◌, ◌/◌, ◌≤◌, ◌<◌}
use mathlib.Core.Path.{◌≡◌, refl, ap, sym, ◌∙◌, subst}
use mathlib.Core.Bool.{true, cond}
use mathlib.Core.List.{List, [], ◌∷◌, ◌++◌, map, append_assoc}
use native.Mathlib.Nat.{suc-mul, mul-le-mul_right}
use native.Mathlib.Numerals.{add-one}
use native.Mathlib.Omega.{arith}
use lib.Dec.{ltb}
use lib.ListN.{length, length-append, replicate}
use Rattle.records.specs.Sets.{Set}
use Rattle.table.specs.declared.Formula.{Formula}
use Rattle.table.specs.Formulas.{written_at}
use Rattle.table.specs.Programs.{aims, choice_bit, leaf_formula, upto, next_after, places_after, compiled}
use Rattle.table.specs.Repeats.{moved_by, repeated, repeated_at, last_index}
use Rattle.table.proofs.Numbered.{upto-length}
use Rattle.table.proofs.Renamed.{renamed, AllBounded}
use Rattle.table.proofs.Repeated.{AllInRange, all-repeated-renamed, part-written}
use Rattle.table.proofs.Sequences.{upto-last, compiled-++, compiled-length, program-grows}
use Rattle.table.proofs.Written.{written-++, written-length}
use Rattle.encoding.specs.Encodings.{goal_tree, firsts, encoded}
use Rattle.encoding.specs.Slots.{Slot, same, code}
use Rattle.encoding.specs.Steps.{only, step}
use Rattle.encoding.proofs.Leaves.{AllOperate, rest_operates}
use Rattle.encoding.proofs.Repeats.{stride as stride_of, both, after_choices, step-next, step-size, step-records, places_at, index_at, index-at, limit, bounded, repeats, far_ahead}
use Rattle.encoding.proofs.Sources.{steady}
use Rattle.encoding.proofs.Split.{chosen_places, rest, choice_leaf}
use Rattle.encoder_slots.specs.Places.{place_of, size}
use Rattle.encoder_slots.specs.Pieces.{Writes}
use Rattle.encoder.specs.Repeating.{Started, Stepped, Ended}
use Rattle.encoder_slots.proofs.Pieces.{written-cut}
use Rattle.encoder.proofs.Sizes.{early, encoded-bytes, steps-end}

-- ---- the records of a step

-- what has operands, all below a number of 32 bits, fits into its bytes
in_range : (S : Set) (cs : List ℕ) (most : ℕ) → most ≤ 4294967296 → (xs : List Formula) → AllOperate S cs xs → AllBounded most xs → AllInRange xs
in_range S cs most small [] o b = tt
in_range S cs most small (x ∷ xs) o b =
    let r = b.0 o.0 in
    let u = r.bounded_a in
    let v = r.bounded_b in
    let w = r.bounded_c in
    let z = r.constantless in
    (record { constant_fits = omega arith; fits_a = omega arith; fits_b = omega arith; fits_c = omega arith }, in_range S cs most small xs o.1 b.1)

module _ (S : Set) (cs : List ℕ) (start : Slot → ℕ) (threads first stride : ℕ) (s : Started S cs start threads first stride) where
  -- the step's own number of records, as the laws of `encoding` have it
  stride-is : stride_of S cs ≡ stride
  stride-is = let e = step-size S cs 0 0 in let f = s.stride_is 0 0 in omega arith

  -- the choice bits are some of them
  pub bits_fit : threads + threads ≤ stride
  bits_fit =
      let e = step-next S cs 0 0 start in
      let f = s.stride_is 0 0 in
      let g = program-grows same (rest S cs) (0 + both S cs) in
      let t = s.threads_are in
      omega arith

  positive : 0 < first
  positive = let l = s.low (only code) in omega arith

  -- choice bits of step k
  abbrev bits : ℕ → List Formula
  bits k = upto (λ j. leaf_formula (choice_leaf S cs k j) ∷ []) (both S cs)

  -- the records after them
  abbrev others : ℕ → List Formula
  others k = after_choices S cs (places_at S cs start first s.low k) (index_at S cs start first s.low k)

  -- the first k steps
  abbrev all : ℕ → List Formula
  all k = compiled same start first (upto (step S cs) k)

  one_more : (k : ℕ) → all (suc k) ≡ all k ++ (bits k ++ others k)
  one_more k =
      ap (compiled same start first) (upto-last (step S cs) k)
      ∙ (compiled-++ same start first (upto (step S cs) k) (step S cs k)
      ∙ ap (λ x. all k ++ x) (step-records S cs k (index_at S cs start first s.low k) (places_at S cs start first s.low k)))

  bits-length : (k : ℕ) → length (bits k) ≡ both S cs
  bits-length k = upto-length (λ j. leaf_formula (choice_leaf S cs k j)) (both S cs)

  -- where step k starts
  all-length : (k : ℕ) → first + length (all k) ≡ index_at S cs start first s.low k
  all-length k = compiled-length same start first (upto (step S cs) k)

  pub starts : (k : ℕ) → index_at S cs start first s.low k ≡ first + k * stride
  starts k = index-at S cs start first s.low k ∙ ap (λ (d : ℕ). first + k * d) stride-is

  -- ---- one step more

  module _ (k : ℕ) (out now : List ℕ) (n : ℕ) (w : Stepped S cs start first (suc (suc k)) out now n) where
    -- the step before the one that is written
    abbrev i : ℕ
    i = suc k

    n-is : n ≡ first + suc i * stride
    n-is = w.next ∙ starts (suc i)

    others-length : length (others i) ≡ stride - (threads + threads)
    others-length =
        let e = compiled-length same (chosen_places (places_at S cs start first s.low i) (index_at S cs start first s.low i) (both S cs)) (index_at S cs start first s.low i + both S cs) (rest S cs) in
        let f = step-next S cs 0 (index_at S cs start first s.low i) start in
        let g = s.stride_is (index_at S cs start first s.low i) 0 in
        let t = s.threads_are in
        omega arith

    others-range : n ≤ 4294967296 → AllInRange (others i)
    others-range small =
        in_range S cs (limit S cs start first s.low positive k) (let e = w.next in omega arith) (others i)
        (rest_operates S cs (chosen_places (places_at S cs start first s.low i) (index_at S cs start first s.low i) (both S cs)) (index_at S cs start first s.low i + both S cs))
        (bounded S cs start first s.low positive k)

    -- what is written once the choice bits are
    bits-written : (begun : List ℕ) → begun ≡ written_at now n (bits (suc i)) → begun ≡ written_at out first ((all i ++ bits i) ++ (others i ++ bits (suc i)))
    bits-written begun e =
        let at : n ≡ first + length (all (suc i)) = let a = all-length (suc i) in let b = w.next in omega arith in
        e
        ∙ ((λ j. written_at (w.written j) (at j) (bits (suc i)))
        ∙ (sym (written-++ out first (all (suc i)) (bits (suc i)))
        ∙ ap (written_at out first)
        (ap (λ x. x ++ bits (suc i)) (one_more i)
        ∙ (append_assoc (all i) (bits i ++ others i) (bits (suc i))
        ∙ (ap (λ x. all i ++ x) (append_assoc (bits i) (others i) (bits (suc i)))
        ∙ sym (append_assoc (all i) (bits i) (others i ++ bits (suc i))))))))

    pub repeated-more : (begun after : List ℕ) → begun ≡ written_at now n (bits (suc i)) →
        after ≡ repeated_at begun (n + (threads + threads)) (stride - (threads + threads)) first stride →
        16 * (n + stride) ≤ length out → n + stride ≤ last_index → Stepped S cs start first (suc (suc i)) out after (n + stride)
    repeated-more begun after e f room small = record { written = bytes; next = index }
      where
        index : n + stride ≡ next_after same first (upto (step S cs) (suc (suc i)))
        index = let a = n-is in let b = starts (suc (suc i)) in let c = suc-mul (suc i) stride in omega arith

        bits-here : length (bits i) ≡ threads + threads
        bits-here = let b = bits-length i in let t = s.threads_are in omega arith

        from : n + (threads + threads) - stride ≡ first + length (all i ++ bits i)
        from =
            let a = all-length i in
            let b = starts i in
            let c = n-is in
            let d = suc-mul i stride in
            let l = length-append (all i) (bits i) in
            let m = bits-here in
            omega arith

        moved : map (repeated first stride) (others i) ≡ others (suc i)
        moved =
            all-repeated-renamed first stride (others i)
            ∙ (ap (λ (d : ℕ). map (renamed (moved_by first d)) (others i)) (sym stride-is) ∙ sym (repeats S cs start first s.low positive k))

        again : after ≡ written_at begun (n + (threads + threads)) (others (suc i))
        again =
            let l = others-length in
            let m = bits_fit in
            let c = n-is in
            let d = suc-mul i stride in
            f
            ∙ (ap (λ (d : ℕ). repeated_at begun (n + (threads + threads)) d first stride) (sym l)
            ∙ (part-written out begun first (n + (threads + threads) - stride) (all i ++ bits i) (others i) (bits (suc i)) (bits-written begun e) from (omega arith) (others-range (omega arith))
            (n + (threads + threads)) first stride (omega arith) (omega arith) (omega arith) (omega arith)
            ∙ ap (written_at begun (n + (threads + threads))) moved))

        bytes : after ≡ written_at out first (all (suc (suc i)))
        bytes =
            let b : n + (threads + threads) ≡ n + length (bits (suc i)) = (let b = bits-length (suc i) in let t = s.threads_are in omega arith) in
            let at : n ≡ first + length (all (suc i)) = (let a = all-length (suc i) in let c = w.next in omega arith) in
            again
            ∙ ((λ j. written_at (e j) (b j) (others (suc i)))
            ∙ (sym (written-++ now n (bits (suc i)) (others (suc i)))
            ∙ ((λ j. written_at (w.written j) (at j) (bits (suc i) ++ others (suc i)))
            ∙ (sym (written-++ out first (all (suc i)) (bits (suc i) ++ others (suc i)))
            ∙ ap (written_at out first) (sym (one_more (suc i)))))))

  -- as the code has it: the choice bits by the number of threads, the step by its number
  pub repeated-next : (k : ℕ) → 2 ≤ k → (out now begun after : List ℕ) (n : ℕ) → Stepped S cs start first k out now n →
      begun ≡ written_at now n (upto (λ j. leaf_formula (cond (ltb j threads) (choice_bit k 0 j) (choice_bit k 1 (j - threads))) ∷ []) (threads + threads)) →
      after ≡ repeated_at begun (n + 2 * threads) (stride - 2 * threads) first stride →
      16 * (n + stride) ≤ length out → n + stride ≤ last_index → Stepped S cs start first (k + 1) out after (n + stride)
  repeated-next zero h out now begun after n w e f room small = absurd (omega arith)
  repeated-next (suc zero) h out now begun after n w e f room small = absurd (omega arith)
  repeated-next (suc (suc k)) h out now begun after n w e f room small =
      let twice : 2 * threads ≡ threads + threads = omega arith in
      let named : begun ≡ written_at now n (bits (suc (suc k))) =
      e ∙ ap (λ (T : ℕ). written_at now n (upto (λ j. leaf_formula (cond (ltb j T) (choice_bit (suc (suc k)) 0 j) (choice_bit (suc (suc k)) 1 (j - T))) ∷ []) (T + T))) (sym s.threads_are) in
      subst (λ (m : ℕ). Stepped S cs start first m out after (n + stride)) (sym (add-one (suc (suc k))))
      (repeated-more k out now n w begun after named (f ∙ ap (λ (b : ℕ). repeated_at begun (n + b) (stride - b) first stride) twice) room small)

  -- there is room for one step more
  pub room-more : (k bound n size : ℕ) (out now : List ℕ) → Stepped S cs start first k out now n → k < bound → 16 * (first + bound * stride) ≤ size → 16 * (n + stride) ≤ size
  room-more k bound n size out now w l h =
      let e = w.next in
      let f = starts k in
      let g = suc-mul k stride in
      let m : suc k * stride ≤ bound * stride = mul-le-mul_right stride l in
      omega arith

-- ---- all steps

-- what two steps say of the size of one
two_steps : (S : Set) (cs : List ℕ) (start : Slot → ℕ) (first next : ℕ) → next ≡ next_after same first (upto (step S cs) 2) → ((s : Slot) → start s < first) → next ≡ first + (stride_of S cs + stride_of S cs)
two_steps S cs start first next e low = let f = index-at S cs start first low 2 in let g : 2 * stride_of S cs ≡ stride_of S cs + stride_of S cs = omega arith in omega arith

pub two-steps-room : (S : Set) (cs : List ℕ) (start : Slot → ℕ) (first next : ℕ) → next ≡ next_after same first (upto (step S cs) 2) → ((s : Slot) → start s < first) → first + 4 * S.threads ≤ next
two-steps-room S cs start first next e low =
    let f = two_steps S cs start first next e low in
    let g = bits_fit S cs start S.threads first (stride_of S cs) (record { threads_are = refl; low = low; stride_is = λ m k. step-size S cs k m }) in
    omega arith

pub two-steps_started : (S : Set) (cs : List ℕ) (start : Slot → ℕ) (threads first next : ℕ) → next ≡ next_after same first (upto (step S cs) 2) → S.threads ≡ threads → ((s : Slot) → start s < first) →
    Started S cs start threads first ((next - first) / 2)
two-steps_started S cs start threads first next e t low =
    let f = two_steps S cs start first next e low in
    let g : (next - first) / 2 ≡ stride_of S cs = omega arith in
    record { threads_are = t; low = low; stride_is = λ m k. let h = step-size S cs k m in omega arith }

module _ (S : Set) (cs : List ℕ) (start : Slot → ℕ) (threads first stride : ℕ) (s : Started S cs start threads first stride) (bound : ℕ) (late : 2 ≤ bound) where
  -- where a value that stays lies after the last step
  pub last-place : (x : Slot) → steady x ≡ true → (at : ℕ) → at ≡ places_after same start first (upto (step S cs) 2) x →
      moved_by first ((bound - 2) * stride) at ≡ places_after same start first (upto (step S cs) bound) x
  last-place x still at e =
      let d : bound - 2 + 2 ≡ bound = omega arith in
      ap (moved_by first ((bound - 2) * stride)) e
      ∙ (ap (λ (m : ℕ). moved_by first ((bound - 2) * m) (places_after same start first (upto (step S cs) 2) x)) (sym (stride-is S cs start threads first stride s))
      ∙ (sym (far_ahead S cs start first s.low (bound - 2) x still) ∙ ap (λ (k : ℕ). places_after same start first (upto (step S cs) k) x) d))

  -- the room that the steps need
  pub steps-room : (size : ℕ) → 16 * next_after same first (upto (step S cs) bound) ≤ size → 16 * (first + bound * stride) ≤ size
  steps-room size h = let e = starts S cs start threads first stride s bound in omega arith

-- ---- the whole table

pub encoded-ended : (S : Set) (cs map : List ℕ) (bound : ℕ) (out begun out1 slots1 : List ℕ) (first : ℕ) (out2 : List ℕ) (next code_at word_zero_at : ℕ) (out3 : List ℕ) →
    begun ≡ written_at out 0 firsts → Writes (early S cs map) begun (replicate size 0) 4 out1 slots1 first → Ended S cs (place_of slots1) first bound out1 out2 next code_at word_zero_at →
    out3 ≡ written_at out2 next (compiled same (places_after same (place_of slots1) first (upto (step S cs) bound)) next (aims goal_tree ∷ [])) →
    out3 ≡ written_at out 0 (encoded S cs map bound)
encoded-ended S cs map bound out begun out1 slots1 first out2 next code_at word_zero_at out3 b w e g =
    let rest = upto (step S cs) bound ++ (aims goal_tree ∷ []) in
    encoded-bytes S cs map bound out begun out3 b
    (written-cut (early S cs map) rest (place_of (replicate size 0)) begun 4 out1 first out3 w.written w.next
    (written-cut (upto (step S cs) bound) (aims goal_tree ∷ []) (place_of slots1) out1 first out2 next out3 e.stepped.written e.stepped.next g
    ∙ ap (λ (f : Slot → ℕ). written_at out1 first (compiled same f first rest)) w.places))

-- the bytes that the steps need are there
pub ended-room : (S : Set) (cs map : List ℕ) (bound : ℕ) (out begun out1 slots1 : List ℕ) (first : ℕ) →
    begun ≡ written_at out 0 firsts → Writes (early S cs map) begun (replicate size 0) 4 out1 slots1 first → 16 * length (encoded S cs map bound) ≤ length out →
    16 * next_after same first (upto (step S cs) bound) ≤ length out1
ended-room S cs map bound out begun out1 slots1 first b w room =
    let e = steps-end S cs map bound first w.next in
    let f = ap length b ∙ written-length out 0 firsts in
    let g = ap length w.written ∙ written-length begun 4 (compiled same (place_of (replicate size 0)) 4 (early S cs map)) in
    omega arith
