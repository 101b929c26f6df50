-- Laws of the instructions' numbers. Assumes nothing.
use Rattle.std.proofs.Common.{◌≡◌, false, leb, refl}
use Rattle.records.specs.Instructions.{instructions}
use Rattle.records.specs.Numbers.{number}
use Rattle.records.specs.declared.instructions.Instruction.{Instruction}
use Rattle.records.specs.declared.instructions.Instruction.TheVariants.{Load, Store, Fence, Add, Addi, Sub, Subi, Mul, Muli, Jmp, Jz, Jnz, Js, Jns, Jnzns, Mem, Cas, Halt, Exit, Check}

-- an instruction's number is one of the twenty
pub known : (i : Instruction) → leb instructions (number i) ≡ false
known Load = refl
known Store = refl
known Fence = refl
known Add = refl
known Addi = refl
known Sub = refl
known Subi = refl
known Mul = refl
known Muli = refl
known Jmp = refl
known Jz = refl
known Jnz = refl
known Js = refl
known Jns = refl
known Jnzns = refl
known Mem = refl
known Cas = refl
known Halt = refl
known Exit = refl
known Check = refl
