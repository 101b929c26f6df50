-- `step::acting::put` meets its contract. Assumes nothing.
use Rattle.std.proofs.Common.{arith, eqb, get_or, length-take-le, rules, sym, ◌<◌, ◌∙◌, ◌≡◌, ◌≤◌}
use Rattle.records.specs.Maps.{cell_at}
use Rattle.step.proofs.Cells.{prefix_cell, hit-memory, hit-known, miss_memory, miss_known}
use Rattle.base.proofs.Below.{least-below}
use Rattle.step.proofs.acting.put.Goals as goal

pub slice_bounds-cell_at-end-2 : goal.slice_bounds-cell_at-end-2
slice_bounds-cell_at-end-2 c = let a = c.args in sym (length-take-le a.filled a.addresses.now (omega arith))

pub offset_bounds-values-i : goal.offset_bounds-values-i
offset_bounds-values-i c =
    let found : let a = c.args in c.cell_at-i.result ≡ cell_at (λ k. get_or a.addresses.now k 0) a.filled a.a = let a = c.args in
    c.cell_at-i.ensures ∙ prefix_cell a.addresses.now a.values.now a.filled (omega arith) a.a in
    let at : c.cell_at-i.result ≤ c.args.filled = let a = c.args in
    rw found (least-below (λ k. eqb (get_or a.addresses.now k 0) a.a) a.filled) in
    omega (arith, at)

pub bounds-values-i : goal.bounds-values-i
bounds-values-i c =
    let found : let a = c.args in c.cell_at-i.result ≡ cell_at (λ k. get_or a.addresses.now k 0) a.filled a.a = let a = c.args in
    c.cell_at-i.ensures ∙ prefix_cell a.addresses.now a.values.now a.filled (omega arith) a.a in
    let at : c.cell_at-i.result ≤ c.args.filled = let a = c.args in
    rw found (least-below (λ k. eqb (get_or a.addresses.now k 0) a.a) a.filled) in
    omega (arith, at)

pub returns-then-i-filled : goal.returns-then-i-filled
returns-then-i-filled c =
    let found : let a = c.args in c.cell_at-i.result ≡ cell_at (λ k. get_or a.addresses.now k 0) a.filled a.a = let a = c.args in
    c.cell_at-i.ensures ∙ prefix_cell a.addresses.now a.values.now a.filled (omega arith) a.a in
    let a = c.args in
    let e = found in
    let f : cell_at (λ k. get_or a.addresses.now k 0) a.filled a.a < a.filled = omega arith in (
      rw e (hit-memory a.addresses.now a.values.now a.filled a.a a.v (omega arith) f),
      hit-known a.addresses.now a.values.now a.filled a.a a.v (omega arith) f,
      search rules,
    )

pub offset_bounds-addresses-i : goal.offset_bounds-addresses-i
offset_bounds-addresses-i c =
    let found : let a = c.args in c.cell_at-i.result ≡ cell_at (λ k. get_or a.addresses.now k 0) a.filled a.a = let a = c.args in
    c.cell_at-i.ensures ∙ prefix_cell a.addresses.now a.values.now a.filled (omega arith) a.a in
    let at : c.cell_at-i.result ≤ c.args.filled = let a = c.args in
    rw found (least-below (λ k. eqb (get_or a.addresses.now k 0) a.a) a.filled) in
    omega (arith, at)

pub bounds-addresses-i : goal.bounds-addresses-i
bounds-addresses-i c =
    let found : let a = c.args in c.cell_at-i.result ≡ cell_at (λ k. get_or a.addresses.now k 0) a.filled a.a = let a = c.args in
    c.cell_at-i.ensures ∙ prefix_cell a.addresses.now a.values.now a.filled (omega arith) a.a in
    let at : c.cell_at-i.result ≤ c.args.filled = let a = c.args in
    rw found (least-below (λ k. eqb (get_or a.addresses.now k 0) a.a) a.filled) in
    omega (arith, at)

pub returns : goal.returns
returns c =
    let found : let a = c.args in c.cell_at-i.result ≡ cell_at (λ k. get_or a.addresses.now k 0) a.filled a.a = let a = c.args in
    c.cell_at-i.ensures ∙ prefix_cell a.addresses.now a.values.now a.filled (omega arith) a.a in
    let at : c.cell_at-i.result ≤ c.args.filled = let a = c.args in
    rw found (least-below (λ k. eqb (get_or a.addresses.now k 0) a.a) a.filled) in
    let a = c.args in
    let e = found in
    let b = at in
    let r : c.cell_at-i.result ≡ a.filled = omega arith in
    let f : cell_at (λ k. get_or a.addresses.now k 0) a.filled a.a ≡ a.filled = sym e ∙ r in (
      rw r (miss_memory a.addresses.now a.values.now a.filled a.a a.v (omega arith) (omega arith) f),
      rw r (miss_known a.addresses.now a.values.now a.filled a.a a.v (omega arith) (omega arith) f),
      search rules,
    )
