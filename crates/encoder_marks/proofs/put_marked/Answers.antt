-- `encoder_marks::put_marked` meets its contract. Assumes nothing.
use Rattle.std.proofs.Common.{ap, List, arith, refl, ℕ}
use Rattle.encoder_marks.proofs.Marked.{put-at, marked-last}
use Rattle.encoder_slots.proofs.Numbers.{other-number}
use Rattle.encoder_slots.specs.declared.kinds.Kind.TheVariants.{Held, Raised}
use Rattle.encoder_slots.specs.Kinds.{number_of}
use Rattle.encoder_slots.specs.Places.{place_of}
use Rattle.encoding.specs.Slots.{kinds, kind_number, held, raised, mark}
use Rattle.records.specs.Sets.{Set}
use Rattle.encoder_marks.proofs.put_marked.Goals as goal

pub returns-in-Held : goal.returns-in-Held
unfolding kinds
returns-in-Held c =
    let a = c.args in
    let g = c.put_base in (
      λ (S : Set) (cs : List ℕ) threads is room.
          put-at S cs a.step a.t a.p (place_of a.slots.now) a.out.now _ a.n g.result (number_of a.kind) (kind_number held) (ap number_of c.in-Held.is) (g.ensures.0 S cs threads refl (λ e. absurd (omega arith)) room),
      g.ensures.1,
    )

pub returns-in-Raised : goal.returns-in-Raised
unfolding kinds
returns-in-Raised c =
    let a = c.args in
    let g = c.put_base-in-Raised in (
      λ (S : Set) (cs : List ℕ) threads is room.
          put-at S cs a.step a.t a.p (place_of a.slots.now) a.out.now _ a.n g.result (number_of a.kind) (kind_number raised) (ap number_of c.in-Raised.is) (g.ensures.0 S cs threads refl (λ e. absurd (omega arith)) room),
      g.ensures.1,
    )

pub returns-in_default : goal.returns-in_default
unfolding kinds
returns-in_default c =
    let a = c.args in
    let g = c.put_base-in_default in (
      λ (S : Set) (cs : List ℕ) threads is room.
          put-at S cs a.step a.t a.p (place_of a.slots.now) a.out.now _ a.n g.result (number_of a.kind) (kind_number mark) (marked-last (number_of a.kind) is (other-number a.kind Held c.in_default.not-Held) (other-number a.kind Raised c.in_default.not-Raised)) (g.ensures.0 S cs threads refl (λ e. absurd (omega arith)) room),
      g.ensures.1,
    )
