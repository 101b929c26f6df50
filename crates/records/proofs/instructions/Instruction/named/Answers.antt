-- `records::instructions::Instruction::named` meets its contract: an arm for each first letter of a word. Assumes nothing.
use Rattle.std.proofs.Common.{[], ◌∷◌, arith, refl, sym, ◌∙◌}
use Rattle.std.proofs.lemmas.Bool.Decides.{nat_tests}
use Rattle.base.specs.Below.{every}
use Rattle.records.specs.Instructions.{words, word_of}
use Rattle.records.specs.declared.instructions.Instruction.TheVariants.{Load, Store, Fence, Add, Addi, Sub, Subi, Mul, Muli, Jmp, Jz, Jnz, Js, Jns, Jnzns, Mem, Cas, Halt, Exit, Check}
use Rattle.records.proofs.Words.{among, by_letter, is_letter, other_letter}
use Rattle.records.proofs.instructions.Instruction.named.Goals as goal

pub returns-in-65 : goal.returns-in-65
unfolding every among words word_of
returns-in-65 c = by_letter _ _ (Add ∷ Addi ∷ []) _ (sym c.byte_at.ensures ∙ c.in-65.is) refl c.one_of.ensures

pub returns-in-67 : goal.returns-in-67
unfolding every among words word_of
returns-in-67 c = by_letter _ _ (Cas ∷ Check ∷ []) _ (sym c.byte_at.ensures ∙ c.in-67.is) refl c.one_of-in-67.ensures

pub returns-in-69 : goal.returns-in-69
unfolding every among words word_of
returns-in-69 c = by_letter _ _ (Exit ∷ []) _ (sym c.byte_at.ensures ∙ c.in-69.is) refl c.one_of-in-69.ensures

pub returns-in-70 : goal.returns-in-70
unfolding every among words word_of
returns-in-70 c = by_letter _ _ (Fence ∷ []) _ (sym c.byte_at.ensures ∙ c.in-70.is) refl c.one_of-in-70.ensures

pub returns-in-72 : goal.returns-in-72
unfolding every among words word_of
returns-in-72 c = by_letter _ _ (Halt ∷ []) _ (sym c.byte_at.ensures ∙ c.in-72.is) refl c.one_of-in-72.ensures

pub returns-in-74 : goal.returns-in-74
unfolding every among words word_of
returns-in-74 c = by_letter _ _ (Jmp ∷ Jz ∷ Jnz ∷ Js ∷ Jns ∷ Jnzns ∷ []) _ (sym c.byte_at.ensures ∙ c.in-74.is) refl c.one_of-in-74.ensures

pub returns-in-76 : goal.returns-in-76
unfolding every among words word_of
returns-in-76 c = by_letter _ _ (Load ∷ []) _ (sym c.byte_at.ensures ∙ c.in-76.is) refl c.one_of-in-76.ensures

pub returns-in-77 : goal.returns-in-77
unfolding every among words word_of
returns-in-77 c = by_letter _ _ (Mul ∷ Muli ∷ Mem ∷ []) _ (sym c.byte_at.ensures ∙ c.in-77.is) refl c.one_of-in-77.ensures

pub returns-in-83 : goal.returns-in-83
unfolding every among words word_of
returns-in-83 c = by_letter _ _ (Store ∷ Sub ∷ Subi ∷ []) _ (sym c.byte_at.ensures ∙ c.in-83.is) refl c.one_of-in-83.ensures

pub returns-in_default : goal.returns-in_default
unfolding is_letter
returns-in_default c = other_letter _ (grind (arith, nat_tests, c.byte_at.ensures))
