-- `text_lines::items::value` meets its contract. Assumes nothing.
use Rattle.std.proofs.Common.{ℕ, ◌+◌, ◌*◌, drop, min, ap, sym, refl, arith, ◌∙◌}
use native.Mathlib.Nat.{min-eq_left}
use Rattle.text_lines.specs.Characters.{value_after}
use Rattle.text_lines.proofs.Values.{value-capped, value_on, value_stopped, value-ended}
use Rattle.text_lines.proofs.items.value.Goals as goal

pub loop-b-init : goal.loop-b-init
loop-b-init c = record { most = omega arith; same = refl }

pub returns-then-not-is_ascii_digit : goal.returns-then-not-is_ascii_digit
returns-then-not-is_ascii_digit c =
    let l = c.loop-b in
    sym (l.invariant.same ∙ ap (λ (n : ℕ). min n 65536) (value_stopped _ _ l.v c.loop-b-test.true (sym c.is_ascii_digit.ensures.value ∙ c.if-not-is_ascii_digit.true)) ∙ min-eq_left l.invariant.most)

pub overflow_mul-v : goal.overflow_mul-v
overflow_mul-v c = omega (arith, c.loop-b.invariant.most)

pub overflow_add-v : goal.overflow_add-v
overflow_add-v c = omega (arith, c.loop-b.invariant.most, c.from.type_inv)

pub loop-b-preserved : goal.loop-b-preserved
loop-b-preserved c =
    let s = c.args.s.now in
    let l = c.loop-b in
    let digit = sym c.is_ascii_digit.ensures.value ∙ c.if-not-is_ascii_digit.false in
    record {
      most = omega (arith, c.min-v.ensures);
      same = l.invariant.same ∙ ap (λ (n : ℕ). min n 65536) (value_on s l.b-index l.v c.loop-b-test.true digit)
          ∙ sym (value-capped (drop (l.b-index + 1) s) _) ∙ ap (λ (n : ℕ). min (value_after n (drop (l.b-index + 1) s)) 65536) (sym (c.min-v.ensures ∙ ap (λ (n : ℕ). min (l.v * 10 + n) 65536) c.from.ensures));
    }

pub returns : goal.returns
returns c =
    let s = c.args.s.now in
    let l = c.loop-b in
    sym (l.invariant.same ∙ ap (λ (n : ℕ). min n 65536) (value-ended s l.b-index l.v (omega arith)) ∙ min-eq_left l.invariant.most)
