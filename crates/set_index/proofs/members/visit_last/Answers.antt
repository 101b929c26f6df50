-- `set_index::members::visit_last` meets its contract. Assumes nothing.
use Rattle.std.proofs.Common.{ap, arith, ◌∙◌, ◌≡◌}
use Rattle.records.specs.Sets.{Set}
use Rattle.set_index.specs.Members.{in_class}
use Rattle.set_index.proofs.members.visit_last.Goals as goal

pub returns : goal.returns
returns c =
    let a = c.args in (
      c.visit-2.ensures.0 ∙ c.visit.ensures.0,
      λ (S : Set) p q (e : a.n ≡ (S.statement a.t a.i).number) f.
          let next1 = c.visit.ensures.1 S (omega arith) p q (c.has.ensures ∙ ap (in_class 9) e) f in
          c.visit-2.ensures.1 S (omega arith) p q (c.has-2.ensures ∙ ap (in_class 10) e) next1,
    )
