-- `step::acting::next_pc` meets its contract. Assumes nothing.
use Rattle.std.proofs.Common.{Bool, add-one, ap, ap₂, leb, ltb, not, sym, true, false, refl, ℕ, ◌∙◌, ◌||◌, ◌≡◌}
use Rattle.base.proofs.Choice.{chosen, passed, ltb-not}
use Rattle.machine.specs.Machine.{next_pc}
use Rattle.step.proofs.acting.next_pc.Goals as goal

-- what stays at its pc, by the tests as the code has them
twice : (b : Bool) → not (not b) ≡ b
twice true = refl
twice false = refl

stays : (a b : Bool) (n m : ℕ) (r t : Bool) → a ≡ r → b ≡ t → (a || b || leb n m) ≡ (r || t || not (ltb m n))
stays a b n m r t p q =
    ap₂ (λ (c d : Bool). c || d || leb n m) p q ∙ ap (λ (c : Bool). r || t || c) (sym (ap not (ltb-not m n) ∙ twice (leb n m)))

pub returns-then-is-i : goal.returns-then-is-i
unfolding next_pc
returns-then-is-i c = sym (chosen _ _ (sym (stays _ _ 20 c.args.i.number _ _ c.is.ensures c.is-2.ensures) ∙ c.if-is-i.true))

pub returns-then-jumps : goal.returns-then-jumps
unfolding next_pc
returns-then-jumps c =
    sym (passed _ _ (sym (stays _ _ 20 c.args.i.number _ _ c.is.ensures c.is-2.ensures) ∙ c.if-is-i.false) ∙ chosen _ _ (sym c.jumps.ensures ∙ c.if-jumps.true))

pub returns : goal.returns
unfolding next_pc
returns c =
    rw add-one (sym (passed _ _ (sym (stays _ _ 20 c.args.i.number _ _ c.is.ensures c.is-2.ensures) ∙ c.if-is-i.false) ∙ passed _ _ (sym c.jumps.ensures ∙ c.if-jumps.false)))
