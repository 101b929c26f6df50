-- The code's operations and sorts by number (document 01, "Records"). This serves the code; no call's promise needs it. Assumes nothing.
use Rattle.std.specs.Prelude.{◌≡◌, ℕ, ◌<◌, ◌⊎◌, Result, MatchResult}
use Rattle.table.specs.Formulas.{no_sort, bit_sort, word_sort, memory_sort, CHOICE, FIRST, CONSTANT, NOT, AND, OR, EQUAL, IF, PLUS, MINUS, TIMES, READ, WRITE, TOP, CONSTRAINT, GOAL}
use Rattle.table.specs.declared.operations.Operation.{Operation}
use Rattle.table.specs.declared.operations.Operation.TheVariants.{Choice, First, Constant, Not, And, Or, Equal, If, Plus, Minus, Times, Read, Write, Top, Constraint, Goal}
use Rattle.table.specs.declared.operations.Sort.{Sort}
use Rattle.table.specs.declared.operations.Sort.TheVariants.{None, Bit, Word, Memory}
use Rattle.table.specs.declared.operations.UnknownOperation.{UnknownOperation}

abbrev pub operation_number : Operation → ℕ
operation_number Choice = CHOICE
operation_number First = FIRST
operation_number Constant = CONSTANT
operation_number Not = NOT
operation_number And = AND
operation_number Or = OR
operation_number Equal = EQUAL
operation_number If = IF
operation_number Plus = PLUS
operation_number Minus = MINUS
operation_number Times = TIMES
operation_number Read = READ
operation_number Write = WRITE
operation_number Top = TOP
operation_number Constraint = CONSTRAINT
operation_number Goal = GOAL

abbrev pub sort_number : Sort → ℕ
sort_number None = no_sort
sort_number Bit = bit_sort
sort_number Word = word_sort
sort_number Memory = memory_sort

-- the operation with this number, or an error with a byte that numbers none
abbrev pub Decodes : ℕ → Result Operation UnknownOperation → Type 0
Decodes number r = MatchResult r (λ operation. operation_number operation ≡ number) (λ e. (e.0 ≡ number) × ((number ≡ 0) ⊎ (GOAL < number)))
