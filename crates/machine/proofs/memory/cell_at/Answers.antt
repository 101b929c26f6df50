-- `machine::memory::cell_at` meets its contract. Assumes nothing.
use Rattle.base.specs.Below.{least}
use Rattle.std.proofs.Common.{refl, ap, arith, drop, eqb, get_or, get_or-drop, get_or-take, length, length-drop, length-take-le, subst, sym, take, ℕ, ◌*◌, ◌+◌, ◌-◌, ◌/◌, ◌∙◌, ◌≡◌}
use Rattle.machine.proofs.Groups.{least_group}
use Rattle.records.specs.Maps.{cell_at}
use Rattle.machine.proofs.memory.cell_at.Goals as goal

pub loop-k-init : goal.loop-k-init
unfolding least
loop-k-init c = refl

pub cell_from-requires : goal.cell_from-requires
cell_from-requires c = (omega (arith, c.loop-k-test.true), c.loop-k.invariant)

pub loop-k-preserved : goal.loop-k-preserved
loop-k-preserved c =
    let l = c.loop-k in
    let a = c.args in
    let xs = a.addresses.now in
    let i = 16 * l.k in
    let n = i + 16 - i in
    let p : n ≡ 16 = omega arith in
    let group = take n (drop i xs) in
    let size : length group ≡ n = length-take-le n (drop i xs) (omega (arith, c.loop-k-test.true, length-drop i xs)) in
    let e : i + length group ≡ 16 * (l.k + 1) = omega (arith, size, p) in
    ap (λ (k : ℕ). cell_at (λ j. get_or xs j 0) k a.a) (sym e)
    ∙ least_group (λ j. eqb (get_or xs j 0) a.a) (λ j. eqb (get_or group j 0) a.a) i (length group) l.invariant (sym c.among.ensures ∙ c.if-among.false)
    (λ k s. ap (λ (v : ℕ). eqb v a.a) (sym (get_or-take n (drop i xs) k 0 (omega (arith, s, size)) ∙ get_or-drop i xs k 0)))
    ∙ e

pub cell_from-requires-2 : goal.cell_from-requires-2
cell_from-requires-2 c =
    let whole : c.loop-k.k ≡ length c.args.addresses.now / 16 = omega (arith, c.loop-k-test.false, c.loop-k.auto.k-end) in
    (omega arith, subst (λ (k : ℕ). cell_at (λ j. get_or c.args.addresses.now j 0) (16 * k) c.args.a ≡ 16 * k) whole c.loop-k.invariant)
