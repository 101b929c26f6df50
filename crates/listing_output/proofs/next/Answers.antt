-- `listing_output::next` meets its contract. The loop's invariant: none of the j candidates before this one is permitted. Assumes nothing.
use Rattle.std.proofs.Common.{Bool, List, ap, arith, length, length-set, not, refl, rules, set, subst, sym, take, ℕ, ◌+◌, ◌<◌, ◌∙◌, ◌≡◌}
use lib.Seq.{take-set-le}
use Rattle.base.specs.Below.{least}
use Rattle.base.proofs.Below.{least_more, least-hit}
use Rattle.machine.specs.Traces.{longest_trace}
use Rattle.simulation.specs.Simulation.{simulated}
use Rattle.listing_output.specs.Schedules.{candidate, denies, allows, next_byte}
use Rattle.listing_output.proofs.Runs.{stored}
use Rattle.listing_output.proofs.next.Goals as goal

-- whether candidate j is permitted is judged by the schedule with its byte
judged : (set-of map schedule tried : List ℕ) (k j byte : ℕ) (answer : Bool) → take k tried ≡ take k schedule → length tried ≡ 64 → k < 64 → byte ≡ candidate j →
    answer ≡ denies (simulated set-of map (take (k + 1) (set tried k byte)) longest_trace) → allows set-of map (take k schedule) j ≡ not answer
judged set-of map schedule tried k j byte answer same long l is e =
    ap (λ (run : List ℕ). not (denies (simulated set-of map run longest_trace)))
    (sym (stored (take k schedule) tried k (candidate j) same (omega (arith, long, l))) ∙ ap (λ (b : ℕ). take (k + 1) (set tried k b)) (sym is))
    ∙ sym (ap not e)

pub loop-j-init : goal.loop-j-init
unfolding least
loop-j-init c = (search rules, refl, refl)

pub returns-then-not-denied : goal.returns-then-not-denied
unfolding next_byte
returns-then-not-denied c =
    let a = c.args in
    let l = c.loop-j in
    let allowed = judged a.set.now a.map.now a.schedule l.tried a.k l.j c.candidate-byte.result c.denied.result l.invariant.1 l.invariant.0 c.requires c.candidate-byte.ensures c.denied.ensures in
    c.candidate-byte.ensures ∙ ap candidate (sym (least-hit (allows a.set.now a.map.now (take a.k a.schedule)) 7 l.j l.invariant.2 (allowed ∙ ap not c.if-not-denied.true) c.loop-j-test.true))

pub loop-j-preserved : goal.loop-j-preserved
loop-j-preserved c =
    let a = c.args in
    let l = c.loop-j in
    let allowed = judged a.set.now a.map.now a.schedule l.tried a.k l.j c.candidate-byte.result c.denied.result l.invariant.1 l.invariant.0 c.requires c.candidate-byte.ensures c.denied.ensures in (
      length-set l.tried a.k c.candidate-byte.result ∙ l.invariant.0,
      take-set-le a.k l.tried a.k c.candidate-byte.result (omega arith) ∙ l.invariant.1,
      least_more (allows a.set.now a.map.now (take a.k a.schedule)) l.j l.invariant.2 (allowed ∙ ap not c.if-not-denied.false),
    )

pub returns : goal.returns
unfolding next_byte
returns c =
    let a = c.args in
    let l = c.loop-j in
    let e : l.j ≡ 7 = omega (arith, c.loop-j-test.false, l.auto.j-end) in
    c.candidate.ensures ∙ ap candidate (sym (subst (λ (n : ℕ). least n (allows a.set.now a.map.now (take a.k a.schedule)) ≡ n) e l.invariant.2))
