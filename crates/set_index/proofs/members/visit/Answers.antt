-- `set_index::members::visit` meets its contract. Assumes nothing.
use Rattle.std.proofs.Common.{arith, lt-length-set, refl, sym, ◌+◌, ◌<◌, ◌∙◌}
use Rattle.records.specs.Sets.{Set}
use Rattle.set_index.specs.Members.{row_index, Filled, class_count, class_number}
use Rattle.set_index.proofs.Filling.{put-length, filled_add, filled-many, filled-pass}
use Rattle.set_index.proofs.members.visit.Goals as goal

pub bounds-members-row : goal.bounds-members-row
bounds-members-row c =
    let a = c.args in
    lt-length-set a.members.now (c.row-row.result + 1 + c.from.result) _ (omega arith)

pub returns-then-at-members : goal.returns-then-at-members
returns-then-at-members c =
    let a = c.args in
    let b = c.byte_at-many in
    let many = rw c.row-row.ensures at b.ensures in
    rw (c.row-row.ensures, c.from.ensures) (
      put-length a.members.now (row_index (class_number a.class) a.t) b.result a.i,
      λ (S : Set) p q h e f. filled_add S a.t a.i (class_number a.class) a.members.now p q h f b.result many (sym c.if-belongs.true ∙ e),
    )

pub returns-else-many-lt-STATEMENTS : goal.returns-else-many-lt-STATEMENTS
returns-else-many-lt-STATEMENTS c =
    let a = c.args in
    let b = c.byte_at-many in (
      refl,
      λ (S : Set) (p : (class_number a.class) < class_count) (q : a.t < 4) (h : a.i < 32) e (f : Filled S a.t a.i (class_number a.class) a.members.now).
          let few = filled-many S a.t a.i (class_number a.class) a.members.now p q h f in
          let many = rw c.row-row.ensures at b.ensures in
          absurd (omega arith),
    )

pub returns-else-belongs : goal.returns-else-belongs
returns-else-belongs c =
    let a = c.args in
    (refl, λ (S : Set) p q h e f. filled-pass S a.t a.i (class_number a.class) a.members.now p q h f (sym c.if-belongs.false ∙ e))
