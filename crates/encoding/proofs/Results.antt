-- What holds of each tree that a statement's result can be holds of the one that it is; likewise of its test. Assumes nothing.
use Prim.Native.Nat.{ℕ}
use mathlib.Core.Bool.{◌||◌}
use mathlib.Core.List.{List}
use lib.Dec.{eqb}
use Rattle.base.proofs.Choice.{cond_both}
use Rattle.records.specs.Instructions.{ADD, ADDI, SUB, SUBI, MUL, MULI, JZ, JNZ, JS, JNS, JNZNS, CAS}
use Rattle.records.specs.Sets.{Set}
use Rattle.table.specs.Formulas.{word_sort}
use Rattle.table.specs.Programs.{Binary, plus2, minus2, times2, or2, equal2, top1, if3, ref, unary, binary, ternary}
use Rattle.encoding.specs.Slots.{Term, slot, accu, loaded, argument, swaps, word_one, bit_zero}
use Rattle.encoding.specs.Steps.{only, word0, result_tree, test_tree}

module _ (S : Set) (cs : List ℕ) (k : ℕ) (P : Term → Type 0) (n t : ℕ) where
  pub result_each : (i : ℕ) → ((o : Binary) → P (binary o (ref (slot accu t 0)) (ref (slot loaded t i)))) → ((o : Binary) → P (binary o (ref (slot accu t 0)) (ref (slot argument t i)))) →
      P (ternary (if3 word_sort) (ref (slot swaps t i)) (ref (only word_one)) (ref word0)) → P (ref (slot loaded t i)) → P (result_tree S cs k n t i)
  result_each i word own swap load =
      cond_both P (eqb n ADD) (word plus2) (cond_both P (eqb n ADDI) (own plus2) (cond_both P (eqb n SUB) (word minus2) (cond_both P (eqb n SUBI) (own minus2)
      (cond_both P (eqb n MUL) (word times2) (cond_both P (eqb n MULI) (own times2) (cond_both P (eqb n CAS) swap load))))))

  pub test-each : P (binary equal2 (ref (slot accu t 0)) (ref word0)) → P (unary top1 (ref (slot accu t 0))) →
      P (binary or2 (unary top1 (ref (slot accu t 0))) (binary equal2 (ref (slot accu t 0)) (ref word0))) → P (ref (only bit_zero)) → P (test_tree S cs k n t)
  test-each zero top either none = cond_both P (eqb n JZ || eqb n JNZ) zero (cond_both P (eqb n JS || eqb n JNS) top (cond_both P (eqb n JNZNS) either none))
