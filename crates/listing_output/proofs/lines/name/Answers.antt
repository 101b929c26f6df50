-- `listing_output::lines::name` meets its contract. Assumes nothing.
use Rattle.std.proofs.Common.{ap, arith, refl, sym, ◌∙◌, ◌≡◌}
use Rattle.records.specs.Instructions.{word_of}
use Rattle.records.specs.Numbers.{number}
use Rattle.records.specs.declared.instructions.Instruction.{Instruction}
use Rattle.records.specs.declared.instructions.Instruction.TheVariants.{Load, Store, Fence, Add, Addi, Sub, Subi, Mul, Muli, Jmp, Jz, Jnz, Js, Jns, Jnzns, Mem, Cas, Halt, Exit, Check}
use Rattle.listing_output.specs.Listings.{name}
use Rattle.listing_output.proofs.StepLines.{name-none}
use Rattle.listing_output.proofs.Texts.{prints_as}
use Rattle.listing_output.proofs.lines.name.Goals as goal

-- no instruction has FLUSH's number
named : (i : Instruction) → word_of (number i) ≡ name (number i)
unfolding name
named Load = refl
named Store = refl
named Fence = refl
named Add = refl
named Addi = refl
named Sub = refl
named Subi = refl
named Mul = refl
named Muli = refl
named Jmp = refl
named Jz = refl
named Jnz = refl
named Js = refl
named Jns = refl
named Jnzns = refl
named Mem = refl
named Cas = refl
named Halt = refl
named Exit = refl
named Check = refl

pub returns-in-Ok : goal.returns-in-Ok
returns-in-Ok c = prints_as (c.word_of.ensures ∙ named c.in-Ok.instruction ∙ ap name c.in-Ok.ensures) c.put.ensures

pub returns-in-Err : goal.returns-in-Err
unfolding name
returns-in-Err c = prints_as (sym (ap name c.if-n-eq-INSTRUCTIONS.true)) c.put-in-Err.ensures

pub returns-in-Err-2 : goal.returns-in-Err-2
returns-in-Err-2 c =
    let far = c.in-Err-2.ensures in
    let other = c.if-n-eq-INSTRUCTIONS.false in
    prints_as (sym (name-none c.args.n (omega (arith, far, other)))) c.put-in-Err-2.ensures
