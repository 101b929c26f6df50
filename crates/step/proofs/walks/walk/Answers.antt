-- `step::walks::walk` meets its contract. Assumes nothing.
use Rattle.std.proofs.Common.{Bool, List, Err, refl, ap, ap₂, arith, leb, leb-true, subst, sym, true, false, ℕ, ◌&&◌, ◌∙◌, ◌≡◌, ◌≤◌}
use Rattle.base.proofs.Choice.{chosen, passed, and_left, and_right}
use Rattle.records.specs.Maps.{cells, map_value}
use Rattle.records.specs.Sets.{Set, set_by}
use Rattle.records.specs.declared.Layout.{Layout}
use Rattle.records.specs.declared.refusals.Refusal.TheVariants.{LacksCell, Length}
use Rattle.records.specs.declared.refusals.Refused.{Refused}
use Rattle.machine.specs.Held.{state_of, memory_of, held_of}
use Rattle.machine.specs.Machine.{State, start, no_write}
use Rattle.machine.specs.Maps.{Held, begin}
use Rattle.machine.specs.Traces.{trace}
use Rattle.step.specs.Runs.{Begins, Lacks, limits}
use Rattle.step.specs.Walks.{walked, walked_over, walked_lacks, choices_from}
use Rattle.step.proofs.Steps.{begun, all-cells}
use Rattle.step.proofs.walks.walk.Goals as goal

-- what the test of a run's limits says
module _ (threads map steps : ℕ) (e : (leb threads 4 && leb map 256 && leb steps 64) ≡ true) where
  few : threads ≤ 4
  few = leb-true _ _ (and_left (leb threads 4) (leb map 256) (and_left (leb threads 4 && leb map 256) (leb steps 64) e))

  few-cells : map ≤ 256
  few-cells = leb-true map 256 (and_right (leb threads 4) (leb map 256) (and_left (leb threads 4 && leb map 256) (leb steps 64) e))

  few-steps : steps ≤ 64
  few-steps = leb-true _ _ (and_right (leb threads 4 && leb map 256) (leb steps 64) e)

-- the same of the layout, the map and the steps
module _ (layout : Layout) (map : List ℕ) (n count : ℕ) (b : Bool) (e : (leb layout.threads 4 && leb (cells map) 256 && leb n 64) ≡ b) (n-is : n ≡ count) where
  tested : (S : Set) → S.threads ≡ layout.threads → limits S map count ≡ b
  tested S t = ap₂ (λ (k m : ℕ). leb k 4 && leb (cells map) 256 && leb m 64) t (sym n-is) ∙ e

pub run-requires : goal.run-requires
run-requires g c =
    let a = c.args in
    let n = cells a.map.now in
    let e = c.if-not-within.false in
    let count = c.count.ensures in
    let small = few-cells a.layout.threads n c.count.result e in
    let steps = few-steps a.layout.threads n c.count.result e in
    let filled : c.begin-filled.result ≡ n = all-cells n 320 320 c.begin-filled.result c.begin-filled.ensures.0 (omega (arith, small)) (omega (arith, small)) in
    (few a.layout.threads n c.count.result e, omega (arith, steps, count), omega (arith, filled, small, steps, count), omega (arith, filled, small, steps, count))

pub returns-then-not-within : goal.returns-then-not-within
unfolding walked_over
returns-then-not-within g c =
    let a = c.args in
    let is = c.into.ensures in (
      ap (λ (r : Refused). Err r) is ∙ sym (passed _ _ (tested a.layout a.map.now c.count.result _ false c.if-not-within.true c.count.ensures (set_by a.set.now a.layout) refl)),
      λ e. let z : Length ≡ LacksCell = ap (λ (r : Refused). r.refusal) (sym is) ∙ e in cc,
      λ fits. tt,
    )

pub returns : goal.returns
unfolding walked_over begin
returns g c =
    let a = c.args in
    let S = set_by a.set.now a.layout in
    let n = cells a.map.now in
    let e = c.if-not-within.false in
    let small = few-cells a.layout.threads n c.count.result e in
    let filled : c.begin-filled.result ≡ n = all-cells n 320 320 c.begin-filled.result c.begin-filled.ensures.0 (omega (arith, small)) (omega (arith, small)) in
    let starts : held_of c.fresh_machine.result c.begin-filled.new.addresses c.begin-filled.new.values c.begin-filled.result ≡ begin a.map.now =
    begun a.map.now c.fresh_machine.result c.begin-filled.new.addresses c.begin-filled.new.values c.begin-filled.result c.fresh_machine.ensures c.begin-filled.ensures.1 c.begin-filled.ensures.2 filled in
    let first : state_of c.fresh_machine.result (memory_of c.begin-filled.new.addresses c.begin-filled.new.values c.begin-filled.result) ≡ start (map_value a.map.now) = ap (λ (h : Held). h.state) starts in
    let choice = g.T.Steps.choice a.steps.now in
    let count = g.T.Steps.count a.steps.now in (
      c.run.ensures.0
          ∙ ap (λ (h : Held). walked S choice (g.T.Steps.agrees a.steps.now) h no_write 0 count) starts
          ∙ sym (chosen _ _ (tested a.layout a.map.now c.count.result _ true e c.count.ensures S refl)),
      subst (λ (h : Held). Lacks c.run.result (walked_lacks S choice h 0 count)) starts c.run.ensures.1,
      λ fits. subst (λ (s : State). Begins c.run.result (trace S s no_write (choices_from choice 0 count)) c.run.new.trace) first (c.run.ensures.2 fits),
    )
