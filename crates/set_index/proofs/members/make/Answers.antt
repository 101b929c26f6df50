-- `set_index::members::make` meets its contract. Assumes nothing.
use Rattle.std.proofs.Common.{arith, refl, replicate, subst, sym, ℕ, ◌∙◌, ◌≡◌}
use Rattle.records.specs.Sets.{set_by}
use Rattle.set_index.specs.Members.{Filled, members_length}
use Rattle.set_index.proofs.Filling.{filled_none, filled-all}
use Rattle.set_index.proofs.members.make.Goals as goal

pub loop-t-init : goal.loop-t-init
loop-t-init c = (refl, λ f. f)

pub loop-t-preserved : goal.loop-t-preserved
loop-t-preserved c =
    let l = c.loop-t in
    let one = c.make_thread.ensures in
    let going = c.loop-t-test.true in
    (one.0 ∙ l.invariant.0, λ f. one.1 (omega arith) (l.invariant.1 f))

pub returns : goal.returns
returns c =
    let a = c.args in
    let l = c.loop-t in
    let S = set_by a.set.now a.layout in
    let four : l.t ≡ 4 = omega arith in (
      l.invariant.0,
      λ (e : a.members.now ≡ replicate members_length 0) few.
          filled-all S l.members (subst (λ (t : ℕ). Filled S t 0 0 l.members) four (l.invariant.1 (subst (Filled S 0 0 0) (sym e) (filled_none S few)))),
    )
