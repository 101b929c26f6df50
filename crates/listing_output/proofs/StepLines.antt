-- Laws of a step's line: the words, and the line that a trace step's bytes give. Assumes nothing.
use Rattle.std.specs.Prelude.{Option, Some, None, is_some, cond, eqb}
use Prim.Native.Nat.{ℕ, ◌+◌, ◌*◌, ◌/◌, ◌%◌, ◌≤◌}
use mathlib.Core.List.{[], ◌++◌}
use mathlib.Core.Path.{◌≡◌, refl, ap₂, ◌∙◌}
use native.Mathlib.Nat.{div-add-mod'}
use native.Mathlib.Omega.{arith}
use lib.ListN.{get_or-eq_default}
use borrow.Author.Tests.{ne_eqb}
use Rattle.base.proofs.Choice.{passed}
use Rattle.records.specs.Instructions.{words, word_of}
use Rattle.records.specs.Sets.{Set}
use Rattle.records.specs.declared.Statement.{Statement}
use Rattle.machine.specs.Machine.{State, actor, cell_of}
use Rattle.machine.specs.Traces.{bit, shown, step_bytes, trace_step}
use Rattle.machine.specs.declared.Choice.{Choice}
use Rattle.machine.specs.declared.Thread.{Thread}
use Rattle.records.specs.declared.Cell.{Cell}
use Rattle.listing_output.specs.Listings.{text, decimal, item, name, argument, pair, cell, line_of, line}
use Rattle.listing_output.specs.Outputs.{line_at}

-- no word past FLUSH
pub name-none : (n : ℕ) → 21 ≤ n → name n ≡ []
unfolding name word_of words
name-none n h = let k : 20 ≤ n = omega arith in passed _ _ (ne_eqb n 20 (omega arith)) ∙ get_or-eq_default words [] k

-- a word by its two bytes
two_bytes : (n : ℕ) → n % 256 + 256 * (n / 256) ≡ n
two_bytes n = omega (arith, div-add-mod' n 256)

-- a written cell by its bytes
cell_by_bytes : (w : Option Cell) → let v = cell_of w in
    cond (eqb (bit (is_some w)) 1) (pair (v.address % 256 + 256 * (v.address / 256)) (v.value % 256 + 256 * (v.value / 256))) (text "{}") ≡ cell w
unfolding cell
cell_by_bytes None = refl
cell_by_bytes (Some w) = ap₂ pair (two_bytes w.address) (two_bytes w.value)

-- the bytes of a trace step give its line
line_of_bytes : (t : ℕ) (i : Statement) (x : Thread) (w : Option Cell) → line_at (step_bytes t i x w) ≡ line_of t i x w
unfolding line_at line_of step_bytes
line_of_bytes t i x w =
    λ k.
    (item (decimal t) ++ item (decimal (two_bytes x.pc k)) ++ item (name i.number)
    ++ item (argument (record { number = i.number; mode = i.mode; argument = two_bytes i.argument k })))
    ++ (item (decimal (two_bytes x.accu k)) ++ item (decimal (two_bytes x.mem k)) ++ item (decimal (two_bytes x.adr k))
    ++ item (decimal (two_bytes x.val k)) ++ item (decimal (bit x.full)))
    ++ cell_by_bytes w k
    ++ text "\n"

pub line_of_step : (S : Set) (s : State) (w : Option Cell) (c : Choice) → line_at (trace_step S s w c) ≡ line S s w c
unfolding trace_step line
line_of_step S s w c = line_of_bytes (actor c) (shown S s c) (s.threads (actor c)) w
