-- `encoder_size::checks` meets its contract. Assumes nothing.
use Rattle.std.proofs.Common.{Bool, ap, arith, eq-eqb, eqb, get_or, length, length-set, ne_eqb, refl, rules, subst, sym, ℕ, ◌+◌, ◌∙◌, ◌≡◌}
use Rattle.set_index.proofs.Counted.{listed-most}
use Rattle.encoder_size.proofs.Seen.{notes_none, notes_more, notes_same}
use Rattle.encoder_size.specs.Seen.{Notes}
use Rattle.set_index.specs.Points.{listed}
use Rattle.base.proofs.Below.{number-none, number_more, number_same}
use Rattle.encoder_size.proofs.checks.Goals as goal
use Rattle.encoder_size.proofs.checks.Goals.{then-c-checkpoint, else-c-checkpoint}

pub loop-p-init : goal.loop-p-init
loop-p-init c =
    let a = c.args in
    let eight : length a.points.numbers ≡ 8 = search rules in
    let few = listed-most a.points eight in
    let e = c.points_count-p-end.ensures in
    (omega arith, omega arith, sym (number-none _ 0 (λ i l. absurd (omega arith))), refl, c.requires, notes_none _ _)

pub loop-p-preserved : goal.loop-p-preserved
loop-p-preserved c =
    let a = c.args in
    let l = c.loop-p in
    let e = c.checkpoint.ensures in
    let test : ℕ → Bool = λ q. eqb a.c (get_or (listed a.points) q 0) in
    let going = c.loop-p-test.true in
    let few = l.invariant.0 in
    let room = l.invariant.4 in
    elim c.if-c-checkpoint.branch [
      | then-c-checkpoint w ↦
          let hit = eq-eqb _ _ (w.if-c-checkpoint.true ∙ e) in
          let same = ap length w.seen-is ∙ length-set l.seen _ _ in (
            few,
            omega arith,
            w.found-is ∙ ap (λ (k : ℕ). k + 1) l.invariant.2 ∙ sym (number_more test l.p hit),
            same ∙ l.invariant.3,
            same ∙ room,
            subst (Notes (l.p + 1) test a.seen.now) (sym w.seen-is) (notes_more l.p test a.seen.now l.seen _ (omega arith) (omega arith) hit l.invariant.5),
          )
      | else-c-checkpoint w ↦
          let other = ne_eqb _ _ (λ p. w.if-c-checkpoint.false (p ∙ sym e)) in (
            few,
            omega arith,
            w.found-is ∙ l.invariant.2 ∙ sym (number_same test l.p other),
            ap length w.seen-is ∙ l.invariant.3,
            ap length w.seen-is ∙ room,
            subst (Notes (l.p + 1) test a.seen.now) (sym w.seen-is) (notes_same l.p test a.seen.now l.seen other l.invariant.5),
          )
    ]
