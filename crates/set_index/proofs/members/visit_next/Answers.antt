-- `set_index::members::visit_next` meets its contract. Assumes nothing.
use Rattle.std.proofs.Common.{ap, arith, ◌∙◌, ◌≡◌}
use Rattle.records.specs.Sets.{Set}
use Rattle.set_index.specs.Members.{in_class}
use Rattle.set_index.proofs.members.visit_next.Goals as goal

pub returns : goal.returns
returns c =
    let a = c.args in (
      c.visit-4.ensures.0 ∙ (c.visit-3.ensures.0 ∙ (c.visit-2.ensures.0 ∙ c.visit.ensures.0)),
      λ (S : Set) p q (e : a.n ≡ (S.statement a.t a.i).number) f.
          let next1 = c.visit.ensures.1 S (omega arith) p q (c.has.ensures ∙ ap (in_class 5) e) f in
          let next2 = c.visit-2.ensures.1 S (omega arith) p q (c.has-2.ensures ∙ ap (in_class 6) e) next1 in
          let next3 = c.visit-3.ensures.1 S (omega arith) p q (c.has-3.ensures ∙ ap (in_class 7) e) next2 in
          c.visit-4.ensures.1 S (omega arith) p q (c.has-4.ensures ∙ ap (in_class 8) e) next3,
    )
