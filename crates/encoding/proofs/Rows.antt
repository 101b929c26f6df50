-- The machine's table of instructions, row by row: what a statement makes of each register. Assumes nothing.
use Prim.Native.Nat.{ℕ, zero, suc, ◌≤◌}
use mathlib.Core.Path.{◌≡◌, refl}
use mathlib.Core.Bool.{Bool, true, false, cond, not, ◌&&◌, ◌||◌}
use native.Mathlib.Omega.{arith}
use lib.Dec.{eqb}
use Rattle.base.specs.Words.{plus, minus, times, top_bit}
use Rattle.records.specs.Instructions.{STORE, ADD, ADDI, SUB, SUBI, MUL, MULI, JZ, JNZ, JS, JNS, JNZNS, MEM, CAS, HALT}
use Rattle.records.specs.declared.Statement.{Statement}
use Rattle.machine.specs.Machine.{load, address, word_taken, row, next_pc, executed, cas_matches}
use Rattle.machine.specs.declared.Thread.{Thread}
use Rattle.encoding.specs.Steps.{loads, sets_accu, is_conditional}

-- by cases on the instruction number; 20 is none
pub by_number : (P : ℕ → Type 0)
    → P 0 → P 1 → P 2 → P 3 → P 4 → P 5 → P 6 → P 7 → P 8 → P 9 → P 10 → P 11 → P 12 → P 13 → P 14 → P 15 → P 16 → P 17 → P 18 → P 19 → P 20
    → (n : ℕ) → n ≤ 20 → P n
by_number P p0 p1 p2 p3 p4 p5 p6 p7 p8 p9 p10 p11 p12 p13 p14 p15 p16 p17 p18 p19 p20 zero h = p0
by_number P p0 p1 p2 p3 p4 p5 p6 p7 p8 p9 p10 p11 p12 p13 p14 p15 p16 p17 p18 p19 p20 (suc zero) h = p1
by_number P p0 p1 p2 p3 p4 p5 p6 p7 p8 p9 p10 p11 p12 p13 p14 p15 p16 p17 p18 p19 p20 (suc (suc zero)) h = p2
by_number P p0 p1 p2 p3 p4 p5 p6 p7 p8 p9 p10 p11 p12 p13 p14 p15 p16 p17 p18 p19 p20 (suc (suc (suc zero))) h = p3
by_number P p0 p1 p2 p3 p4 p5 p6 p7 p8 p9 p10 p11 p12 p13 p14 p15 p16 p17 p18 p19 p20 (suc (suc (suc (suc zero)))) h = p4
by_number P p0 p1 p2 p3 p4 p5 p6 p7 p8 p9 p10 p11 p12 p13 p14 p15 p16 p17 p18 p19 p20 (suc (suc (suc (suc (suc zero))))) h = p5
by_number P p0 p1 p2 p3 p4 p5 p6 p7 p8 p9 p10 p11 p12 p13 p14 p15 p16 p17 p18 p19 p20 (suc (suc (suc (suc (suc (suc zero)))))) h = p6
by_number P p0 p1 p2 p3 p4 p5 p6 p7 p8 p9 p10 p11 p12 p13 p14 p15 p16 p17 p18 p19 p20 (suc (suc (suc (suc (suc (suc (suc zero))))))) h = p7
by_number P p0 p1 p2 p3 p4 p5 p6 p7 p8 p9 p10 p11 p12 p13 p14 p15 p16 p17 p18 p19 p20 (suc (suc (suc (suc (suc (suc (suc (suc zero)))))))) h = p8
by_number P p0 p1 p2 p3 p4 p5 p6 p7 p8 p9 p10 p11 p12 p13 p14 p15 p16 p17 p18 p19 p20 (suc (suc (suc (suc (suc (suc (suc (suc (suc zero))))))))) h = p9
by_number P p0 p1 p2 p3 p4 p5 p6 p7 p8 p9 p10 p11 p12 p13 p14 p15 p16 p17 p18 p19 p20 (suc (suc (suc (suc (suc (suc (suc (suc (suc (suc zero)))))))))) h = p10
by_number P p0 p1 p2 p3 p4 p5 p6 p7 p8 p9 p10 p11 p12 p13 p14 p15 p16 p17 p18 p19 p20 (suc (suc (suc (suc (suc (suc (suc (suc (suc (suc (suc zero))))))))))) h = p11
by_number P p0 p1 p2 p3 p4 p5 p6 p7 p8 p9 p10 p11 p12 p13 p14 p15 p16 p17 p18 p19 p20 (suc (suc (suc (suc (suc (suc (suc (suc (suc (suc (suc (suc zero)))))))))))) h = p12
by_number P p0 p1 p2 p3 p4 p5 p6 p7 p8 p9 p10 p11 p12 p13 p14 p15 p16 p17 p18 p19 p20 (suc (suc (suc (suc (suc (suc (suc (suc (suc (suc (suc (suc (suc zero))))))))))))) h = p13
by_number P p0 p1 p2 p3 p4 p5 p6 p7 p8 p9 p10 p11 p12 p13 p14 p15 p16 p17 p18 p19 p20 (suc (suc (suc (suc (suc (suc (suc (suc (suc (suc (suc (suc (suc (suc zero)))))))))))))) h = p14
by_number P p0 p1 p2 p3 p4 p5 p6 p7 p8 p9 p10 p11 p12 p13 p14 p15 p16 p17 p18 p19 p20 (suc (suc (suc (suc (suc (suc (suc (suc (suc (suc (suc (suc (suc (suc (suc zero))))))))))))))) h = p15
by_number P p0 p1 p2 p3 p4 p5 p6 p7 p8 p9 p10 p11 p12 p13 p14 p15 p16 p17 p18 p19 p20 (suc (suc (suc (suc (suc (suc (suc (suc (suc (suc (suc (suc (suc (suc (suc (suc zero)))))))))))))))) h = p16
by_number P p0 p1 p2 p3 p4 p5 p6 p7 p8 p9 p10 p11 p12 p13 p14 p15 p16 p17 p18 p19 p20 (suc (suc (suc (suc (suc (suc (suc (suc (suc (suc (suc (suc (suc (suc (suc (suc (suc zero))))))))))))))))) h = p17
by_number P p0 p1 p2 p3 p4 p5 p6 p7 p8 p9 p10 p11 p12 p13 p14 p15 p16 p17 p18 p19 p20 (suc (suc (suc (suc (suc (suc (suc (suc (suc (suc (suc (suc (suc (suc (suc (suc (suc (suc zero)))))))))))))))))) h = p18
by_number P p0 p1 p2 p3 p4 p5 p6 p7 p8 p9 p10 p11 p12 p13 p14 p15 p16 p17 p18 p19 p20 (suc (suc (suc (suc (suc (suc (suc (suc (suc (suc (suc (suc (suc (suc (suc (suc (suc (suc (suc zero))))))))))))))))))) h = p19
by_number P p0 p1 p2 p3 p4 p5 p6 p7 p8 p9 p10 p11 p12 p13 p14 p15 p16 p17 p18 p19 p20 (suc (suc (suc (suc (suc (suc (suc (suc (suc (suc (suc (suc (suc (suc (suc (suc (suc (suc (suc (suc zero)))))))))))))))))))) h = p20
by_number P p0 p1 p2 p3 p4 p5 p6 p7 p8 p9 p10 p11 p12 p13 p14 p15 p16 p17 p18 p19 p20 (suc (suc (suc (suc (suc (suc (suc (suc (suc (suc (suc (suc (suc (suc (suc (suc (suc (suc (suc (suc (suc n))))))))))))))))))))) h = absurd (omega arith)

-- what accu becomes by instruction n: from accu, the word loaded, the argument, a CAS that matches
abbrev pub result_of : (n accu loaded argument : ℕ) → Bool → ℕ
result_of n accu loaded argument match =
    cond (eqb n ADD) (plus accu loaded)
    (cond (eqb n ADDI) (plus accu argument)
    (cond (eqb n SUB) (minus accu loaded)
    (cond (eqb n SUBI) (minus accu argument)
    (cond (eqb n MUL) (times accu loaded)
    (cond (eqb n MULI) (times accu argument)
    (cond (eqb n CAS) (cond match 1 0)
    loaded))))))

-- a conditional jump's test
abbrev pub test_of : (n accu : ℕ) → Bool
test_of n accu =
    cond (eqb n JZ || eqb n JNZ) (eqb accu 0)
    (cond (eqb n JS || eqb n JNS) (top_bit accu)
    (cond (eqb n JNZNS) (top_bit accu || eqb accu 0)
    false))

abbrev pub not_test_of : (n accu : ℕ) → Bool
not_test_of n accu = cond (is_conditional n) (not (test_of n accu)) false

-- a statement's mode and argument, a thread and memory
module _ (mode argument : ℕ) (memory : ℕ → ℕ) (x : Thread) where
  abbrev statement_of : ℕ → Statement
  statement_of n = record { number = n; mode = mode; argument = argument }

  -- where a memory word reads or writes
  abbrev pub target : ℕ
  target = cond (eqb mode 1) (load x memory argument) argument

  abbrev pub loaded_of : ℕ → ℕ
  loaded_of n = cond (loads n) (load x memory target) 0

  abbrev pub match_of : Bool
  match_of = eqb (memory target) x.mem

  pub accu_row : (n : ℕ) → n ≤ 20 → cond (sets_accu n) (result_of n x.accu (loaded_of n) argument match_of) x.accu ≡ (executed (statement_of n) memory x).accu
  unfolding executed row address word_taken next_pc
  accu_row = by_number (λ n. cond (sets_accu n) (result_of n x.accu (loaded_of n) argument match_of) x.accu ≡ (executed (statement_of n) memory x).accu) refl refl refl refl refl refl refl refl refl refl refl refl refl refl refl refl refl refl refl refl refl

  pub mem-row : (n : ℕ) → n ≤ 20 → cond (eqb n MEM) (loaded_of n) x.mem ≡ (executed (statement_of n) memory x).mem
  unfolding executed row address word_taken next_pc
  mem-row = by_number (λ n. cond (eqb n MEM) (loaded_of n) x.mem ≡ (executed (statement_of n) memory x).mem) refl refl refl refl refl refl refl refl refl refl refl refl refl refl refl refl refl refl refl refl refl

  pub adr_row : (n : ℕ) → n ≤ 20 → cond (eqb n STORE) target x.adr ≡ (executed (statement_of n) memory x).adr
  unfolding executed row address word_taken next_pc
  adr_row = by_number (λ n. cond (eqb n STORE) target x.adr ≡ (executed (statement_of n) memory x).adr) refl refl refl refl refl refl refl refl refl refl refl refl refl refl refl refl refl refl refl refl refl

  pub val_row : (n : ℕ) → n ≤ 20 → cond (eqb n STORE) x.accu x.val ≡ (executed (statement_of n) memory x).val
  unfolding executed row address word_taken next_pc
  val_row = by_number (λ n. cond (eqb n STORE) x.accu x.val ≡ (executed (statement_of n) memory x).val) refl refl refl refl refl refl refl refl refl refl refl refl refl refl refl refl refl refl refl refl refl

  pub full-row : (n : ℕ) → n ≤ 20 → cond (eqb n STORE) true x.full ≡ (executed (statement_of n) memory x).full
  unfolding executed row address word_taken next_pc
  full-row = by_number (λ n. cond (eqb n STORE) true x.full ≡ (executed (statement_of n) memory x).full) refl refl refl refl refl refl refl refl refl refl refl refl refl refl refl refl refl refl refl refl refl

  pub halted_row : (n : ℕ) → n ≤ 20 → cond (eqb n HALT) true x.halted ≡ (executed (statement_of n) memory x).halted
  unfolding executed row address word_taken next_pc
  halted_row = by_number (λ n. cond (eqb n HALT) true x.halted ≡ (executed (statement_of n) memory x).halted) refl refl refl refl refl refl refl refl refl refl refl refl refl refl refl refl refl refl refl refl refl

  pub cas-row : (n : ℕ) → n ≤ 20 → cas_matches (statement_of n) x memory ≡ (eqb n CAS && match_of)
  unfolding cas_matches word_taken address
  cas-row = by_number (λ n. cas_matches (statement_of n) x memory ≡ (eqb n CAS && match_of)) refl refl refl refl refl refl refl refl refl refl refl refl refl refl refl refl refl refl refl refl refl

  pub cas-address : (n : ℕ) → n ≤ 20 → cond (eqb n CAS) (address (statement_of n) x memory) target ≡ target
  unfolding address
  cas-address = by_number (λ n. cond (eqb n CAS) (address (statement_of n) x memory) target ≡ target) refl refl refl refl refl refl refl refl refl refl refl refl refl refl refl refl refl refl refl refl refl
