-- `encoder_slots::set_place` meets its contract. Assumes nothing.
use Rattle.std.proofs.Common.{arith, length, length-set, set, sym, ◌%◌, ◌+◌, ◌<◌, ◌∙◌, ◌≡◌}
use Rattle.encoder_slots.specs.Kinds.{number_of}
use Rattle.encoder_slots.specs.Places.{width, place_of, size}
use Rattle.encoder_slots.proofs.Stores.{place-put}
use Rattle.encoding.specs.Slots.{kind_count}
use Rattle.encoder_slots.proofs.set_place.Goals as goal

pub returns-then-fits-slots : goal.returns-then-fits-slots
returns-then-fits-slots g c =
    let a = c.args in
    let k = number_of c.in-Ok.kind in
    let at = c.index_of.ensures in
    rw (sym c.in-Ok.ensures) (
      length-set a.slots.now _ _,
      λ (n : length a.slots.now ≡ size) (h : k < kind_count) (p : a.a < 4) (q : a.b < width k) (small : a.index < 4294967295).
          let whole : (a.index % 4294967296 + 1) % 4294967296 ≡ a.index + 1 = omega arith in
          (λ z. place_of (set a.slots.now (at.0 z) (whole z)))
          ∙ place-put a.slots.now k a.a a.b a.index p q (omega arith) h,
    )
