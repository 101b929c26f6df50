-- `table::repeats::repeat` meets its contract. Assumes nothing.
use Rattle.std.proofs.Common.{List, [], ap, arith, length, refl, sym, ℕ, ◌*◌, ◌+◌, ◌-◌, ◌∙◌, ◌∷◌, ◌≡◌}
use Rattle.base.specs.Bytes.{placed}
use Rattle.table.specs.Repeats.{repeated}
use Rattle.table.specs.Programs.{upto}
use Rattle.table.specs.Formulas.{formula_bytes, written_at, formula_at}
use Rattle.table.specs.declared.Formula.{Formula}
use Rattle.table.proofs.Repeated.{record_before, repeatable-room, repeats, repeats-nothing}
use Rattle.table.proofs.Numbered.{numbered-none, numbered_more}
use Rattle.table.proofs.repeats.repeat.Invariants.{record_of}
use Rattle.table.proofs.repeats.repeat.Goals as goal

pub returns-then-not-can_repeat : goal.returns-then-not-can_repeat
returns-then-not-can_repeat c =
    let a = c.args in
    let r = c.can_repeat in
    sym (repeats-nothing a.out.now a.at a.count a.first a.stride (sym r.ensures ∙ c.if-not-can_repeat.true))

pub loop-j-init : goal.loop-j-init
loop-j-init c =
    let a = c.args in
    let r = c.can_repeat in
    let room = repeatable-room (length a.out.now) a.at a.count a.stride (sym r.ensures ∙ c.if-not-can_repeat.false) in
    let f = record_of a.out.now a.at a.first a.stride in
    (omega arith, room.0, room.1, room.2, room.3, refl, numbered-none f a.out.now a.at)

pub loop-j-preserved : goal.loop-j-preserved
loop-j-preserved c =
    let a = c.args in
    let l = c.loop-j in
    let i = a.at - a.stride + l.j in
    let f = record_of a.out.now a.at a.first a.stride in
    let old : formula_at l.out i ≡ formula_at a.out.now i = ap (λ (o : List ℕ). formula_at o i) l.invariant.6 ∙ record_before a.out.now a.at (upto (λ k. f k ∷ []) l.j) i (omega arith) in
    let formula : repeated a.first a.stride (formula_at l.out i) ≡ f l.j = ap (repeated a.first a.stride) old in (
      omega arith,
      l.invariant.1,
      l.invariant.2,
      l.invariant.3,
      l.invariant.4,
      c.repeat_record.auto.out ∙ l.invariant.5,
      c.repeat_record.ensures
          ∙ (ap (λ (x : Formula). placed l.out (16 * (a.at + l.j)) (formula_bytes x)) formula
          ∙ numbered_more f a.out.now l.out a.at l.j l.invariant.6),
    )

pub returns : goal.returns
returns c =
    let a = c.args in
    let l = c.loop-j in
    let j-is : l.j ≡ a.count = omega arith in
    let f = record_of a.out.now a.at a.first a.stride in
    l.invariant.6
    ∙ (ap (λ (n : ℕ). written_at a.out.now a.at (upto (λ i. f i ∷ []) n)) j-is
    ∙ sym (repeats a.out.now a.at a.count a.first a.stride l.invariant.1 l.invariant.2 l.invariant.3 l.invariant.4))
