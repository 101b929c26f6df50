-- The numbers of the instructions as the code names them; each is that of Instructions. This serves the code; no call's promise needs it. Assumes nothing.
use Rattle.std.specs.Prelude.{ℕ, ◌≡◌, ◌≤◌, Result, MatchResult}
use Rattle.records.specs.Instructions.{LOAD, STORE, FENCE, ADD, ADDI, SUB, SUBI, MUL, MULI, JMP, JZ, JNZ, JS, JNS, JNZNS, MEM, CAS, HALT, EXIT, CHECK, instructions}
use Rattle.records.specs.declared.instructions.Instruction.{Instruction}
use Rattle.records.specs.declared.instructions.Instruction.TheVariants.{Load, Store, Fence, Add, Addi, Sub, Subi, Mul, Muli, Jmp, Jz, Jnz, Js, Jns, Jnzns, Mem, Cas, Halt, Exit, Check}
use Rattle.records.specs.declared.instructions.NoInstruction.{NoInstruction}

abbrev pub number : Instruction → ℕ
number Load = LOAD
number Store = STORE
number Fence = FENCE
number Add = ADD
number Addi = ADDI
number Sub = SUB
number Subi = SUBI
number Mul = MUL
number Muli = MULI
number Jmp = JMP
number Jz = JZ
number Jnz = JNZ
number Js = JS
number Jns = JNS
number Jnzns = JNZNS
number Mem = MEM
number Cas = CAS
number Halt = HALT
number Exit = EXIT
number Check = CHECK

-- the instruction of a number; none from 20 on
abbrev pub Numbered : ℕ → Result Instruction NoInstruction → Type 0
Numbered n r = MatchResult r (λ i. number i ≡ n) (λ _. instructions ≤ n)
