-- A step has as many records as its closed form says. Assumes nothing.
use Prim.Native.Nat.{ℕ, ◌+◌, ◌*◌, ◌≤◌, ◌<◌}
use mathlib.Core.Path.{◌≡◌, refl, ap, sym, ◌∙◌}
use mathlib.Core.Bool.{false, cond}
use mathlib.Core.List.{List, [], ◌∷◌}
use native.Mathlib.Decide.{dec_lt}
use native.Mathlib.Omega.{arith}
use borrow.Author.Tests.{eqb-true, ne_eqb}
use lib.Dec.{eqb, ltb, T, ltb→lt}
use lib.ListN.{length, get_or-eq_default}
use Rattle.base.specs.Below.{every}
use Rattle.base.proofs.Below.{every-at}
use Rattle.records.specs.Instructions.{STORE, MEM, CAS, HALT, EXIT}
use Rattle.records.specs.Sets.{Set}
use Rattle.machine.specs.Machine.{needs_empty}
use Rattle.table.specs.Programs.{next, needs, next_after}
use Rattle.encoding.specs.Slots.{kinds, kind_at, same}
use Rattle.encoding.specs.Steps.{loads, sets_accu, is_conditional, rests, block, blocks, ruled, step}
use Rattle.encoder_size.specs.Sizes.{total, own_list, own_records, lead_records, check_records, statement_records, marks_of, thread_records, step_records}
use Rattle.encoder_size.proofs.Sums.{total_ext, total-plus, total-same, total-times, total-number}
use Rattle.encoder_size.proofs.Counted.{counted, counted-at, counted-++, counted-upto}
use Rattle.encoder_size.proofs.Blocks.{ones, result_size, test_size, number_of, over, sized, marked, marks, size_of, size-choice, size_active, size_opening, size-shut, size_barred, size-held, size-waits, size_may, size_none, size-fit, size-one, size-address, size_loaded, size_swaps, size_result, size-test, size-not-test, size_flush_to, size_write_to, size_flush_value, size_write_value, size-exits, size_codes, size-memory, size_val, size_adr, size-mem, size_accu, size-full, size_halted, size_mark, size_halts, size-ended, size-code}
use Rattle.encoder_size.proofs.Flags.{over_ext, over-plus, over_zero, size-flag, size_raised}

-- ---- by instruction

-- the parts of a statement by its instruction, in the order of the kinds
abbrev parts : List (ℕ → ℕ)
parts =
    (λ n. 1) ∷ ones needs_empty ∷ (λ n. cond (loads n) 4 0) ∷ (λ n. cond (eqb n CAS) 3 0) ∷ result_size ∷ test_size ∷ ones is_conditional
    ∷ ones (λ n. eqb n CAS) ∷ ones (λ n. eqb n CAS) ∷ ones (λ n. eqb n EXIT) ∷ ones (λ n. eqb n EXIT)
    ∷ ones (λ n. eqb n STORE) ∷ ones (λ n. eqb n STORE) ∷ ones (λ n. eqb n MEM) ∷ ones sets_accu ∷ ones (λ n. eqb n STORE) ∷ ones (λ n. eqb n HALT)
    ∷ (λ n. cond (rests n) 0 1) ∷ []

-- their sum
abbrev summed : List (ℕ → ℕ) → ℕ → ℕ
summed [] n = 0
summed (g ∷ gs) n = g n + summed gs n

own-small : (n : ℕ) → n < 20 → summed parts n ≡ own_records n
unfolding every own_list
own-small n h = eqb-true _ _ (every-at (λ m. eqb (summed parts m) (own_records m)) 20 n refl h)

-- no instruction has this number
own_large : (n : ℕ) → 20 ≤ n → summed parts n ≡ 2
own_large n h =
    simp (past 0 tt, past 1 tt, past 2 tt, past 3 tt, past 4 tt, past 5 tt, past 6 tt, past 7 tt, past 8 tt, past 9 tt, past 10 tt, past 11 tt, past 12 tt, past 13 tt, past 14 tt, past 15 tt, past 16 tt, past 17 tt, past 18 tt)
  where
    past : (k : ℕ) → T (ltb k 20) → eqb n k ≡ false
    past k l = let m = ltb→lt k 20 l in ne_eqb n k (λ e. absurd (omega arith))

own-size : (n : ℕ) → summed parts n ≡ own_records n
unfolding own_list
own-size n = elim (dec_lt n 20) [
  | yes h ↦ own-small n h
  | no h ↦ let l : length own_list ≤ n = omega (arith, h) in own_large n l ∙ sym (get_or-eq_default own_list 2 l)
]

module _ (S : Set) where
  -- the sizes of the parts, each over all statements
  abbrev separate : List (ℕ → ℕ) → ℕ
  separate [] = 0
  separate (g ∷ gs) = sized S g + separate gs

  summed-size : (gs : List (ℕ → ℕ)) → separate gs ≡ sized S (summed gs)
  unfolding sized
  summed-size [] = sym (over_zero S)
  summed-size (g ∷ gs) = ap (λ (y : ℕ). sized S g + y) (summed-size gs) ∙ sym (over-plus S (λ t i. g (number_of S t i)) (λ t i. summed gs (number_of S t i)))

  own-sizes : separate parts ≡ sized S own_records
  unfolding sized
  own-sizes = summed-size parts ∙ over_ext S (λ t i. summed parts (number_of S t i)) (λ t i. own_records (number_of S t i)) (λ t i l. own-size (number_of S t i))

module _ (S : Set) (cs : List ℕ) where
  -- ---- the closed form, taken apart

  marks-size : total (marks_of S cs) S.threads ≡ marks S cs
  unfolding marks
  marks-size = total_ext (marks_of S cs) (λ t. total (marked S cs t) (length cs)) S.threads (λ t l. total-number _ (length cs))

  statements-size : over S (λ t i. statement_records cs (S.count t) i (S.statement t i)) ≡ sized S own_records
      + over S (λ t i. cond (eqb (S.statement t i).mode 1) 4 0)
      + over S (λ t i. lead_records (number_of S t i) (S.statement t i).argument i (S.count t))
      + over S (λ t i. check_records cs (number_of S t i) (S.statement t i).argument)
  unfolding sized
  statements-size =
      let own : ℕ → ℕ → ℕ = λ t i. own_records (number_of S t i) in
      let indirect : ℕ → ℕ → ℕ = λ t i. cond (eqb (S.statement t i).mode 1) 4 0 in
      let lead : ℕ → ℕ → ℕ = λ t i. lead_records (number_of S t i) (S.statement t i).argument i (S.count t) in
      let check : ℕ → ℕ → ℕ = λ t i. check_records cs (number_of S t i) (S.statement t i).argument in
      over-plus S (λ t i. own t i + indirect t i + lead t i) check
      ∙ ap (λ (y : ℕ). y + over S check) (over-plus S (λ t i. own t i + indirect t i) lead
      ∙ ap (λ (y : ℕ). y + over S lead) (over-plus S own indirect))

  closed-size : step_records S cs ≡ over S (λ t i. statement_records cs (S.count t) i (S.statement t i)) + 4 * marks S cs + 15 * S.threads + length cs + 5
  unfolding step_records thread_records over
  closed-size =
      let statements : ℕ → ℕ = λ t. total (λ i. statement_records cs (S.count t) i (S.statement t i)) (S.count t) in
      let parted = total-plus (λ t. statements t + 4 * marks_of S cs t) (λ t. 15) S.threads in
      let again = total-plus statements (λ t. 4 * marks_of S cs t) S.threads in
      let four = total-times (marks_of S cs) 4 S.threads in
      let fifteen = total-same 15 S.threads in
      let e = marks-size in
      omega arith

module _ (S : Set) (cs : List ℕ) (k : ℕ) where
  -- ---- a step, by kinds

  -- the n kinds from number j on
  blocks-size : (j n : ℕ) → counted (blocks S cs k j n) ≡ total (λ i. size_of S cs k (kind_at (j + i))) n
  unfolding size_of
  blocks-size j n = counted-upto (λ i. block S cs k (kind_at (j + i))) (λ i. counted (block S cs k (kind_at (j + i)))) (λ i. refl) n

  rest-size : counted (needs (ruled S cs k) ∷ blocks S cs k 11 25) ≡ 2 + counted (blocks S cs k 11 25)
  unfolding next_after next
  rest-size = counted-at 2 (blocks S cs k 11 25)

  parts-size : counted (step S cs k) ≡ total (λ i. size_of S cs k (kind_at (0 + i))) 11 + 2 + total (λ i. size_of S cs k (kind_at (11 + i))) 25
  unfolding step
  parts-size =
      let cut = counted-++ (blocks S cs k 0 11) (needs (ruled S cs k) ∷ blocks S cs k 11 25) in
      let first = blocks-size 0 11 in
      let rest = rest-size in
      let last = blocks-size 11 25 in
      omega arith

  kinds-size : total (λ i. size_of S cs k (kind_at (0 + i))) 11 + 2 + total (λ i. size_of S cs k (kind_at (11 + i))) 25
      ≡ separate S parts
      + over S (λ t i. cond (eqb (S.statement t i).mode 1) 4 0)
      + over S (λ t i. lead_records (number_of S t i) (S.statement t i).argument i (S.count t))
      + over S (λ t i. check_records cs (number_of S t i) (S.statement t i).argument)
      + 4 * marks S cs + 15 * S.threads + length cs + 5
  unfolding total kinds
  kinds-size =
      omega (arith, size-choice S cs k, size_active S cs k, size_opening S cs k, size-shut S cs k, size_barred S cs k, size-held S cs k, size-waits S cs k, size_may S cs k, size_none S cs k, size-fit S cs k, size-one S cs k, size-address S cs k, size_loaded S cs k, size_swaps S cs k, size_result S cs k, size-test S cs k, size-not-test S cs k, size_flush_to S cs k, size_write_to S cs k, size_flush_value S cs k, size_write_value S cs k, size_raised S cs k, size-exits S cs k, size_codes S cs k, size-memory S cs k, size_val S cs k, size_adr S cs k, size-mem S cs k, size_accu S cs k, size-full S cs k, size_halted S cs k, size-flag S cs k, size_mark S cs k, size_halts S cs k, size-ended S cs k, size-code S cs k)

  -- whatever record it starts at
  pub step-size : (m : ℕ) → next_after same m (step S cs k) ≡ m + step_records S cs
  step-size m =
      let whole = counted-at m (step S cs k) in
      let cut = parts-size in
      let each = kinds-size in
      let own = own-sizes S in
      let statements = statements-size S cs in
      let closed = closed-size S cs in
      omega arith
