-- `encoder_flags::each_flag` meets its contract. Assumes nothing.
use Rattle.std.proofs.Common.{List, arith, eqb, false, refl, rules, subst, sym, ℕ, ◌∙◌, ◌≡◌}
use Rattle.encoder_slots.proofs.Entries.{row-others}
use Rattle.encoder_slots.proofs.Pieces.{writes-row, writes_more}
use Rattle.encoder_slots.proofs.Ready.{ready-entry}
use Rattle.encoder_slots.specs.Pieces.{Writes}
use Rattle.encoder_slots.specs.Places.{place_of}
use Rattle.encoding.specs.Steps.{entry}
use Rattle.encoding.specs.Slots.{Kind, kind_number, choice, flag, bit_zero, slot}
use Rattle.table.specs.Programs.{upto}
use Rattle.records.specs.Sets.{Set}
use Rattle.encoder_flags.proofs.each_flag.Goals as goal

pub loop-j-init : goal.loop-j-init
loop-j-init c =
    let a = c.args in (
      omega arith,
      refl,
      refl,
      λ (S : Set) (cs members : List ℕ) (k : ℕ) row stands ready. (writes-row (entry S cs k flag a.t) a.out.now a.slots.now a.n, ready),
    )

pub loop-j-preserved : goal.loop-j-preserved
loop-j-preserved c =
    let a = c.args in
    let l = c.loop-j in
    let r = c.flag-next in
    let choice-place = c.place-executes in
    let no_place = c.place-zero in
    let more = r.ensures.1 in (
      omega arith,
      search rules,
      search rules,
      λ (S : Set) (cs members : List ℕ) (k : ℕ) row stands ready.
          let f = entry S cs k flag a.t in
          let so_far = l.invariant.3 S cs members k row stands ready in
          let kept : (other : Kind) (x y : ℕ) → eqb (kind_number other) (kind_number flag) ≡ false → place_of a.slots.now (slot other x y) ≡ place_of l.slots (slot other x y) =
          λ other x y apart. sym (row-others S cs k flag a.t other x y apart l.j a.out.now a.slots.now a.n l.out l.slots l.next so_far.0) in
          let w = r.ensures.0 S cs members k row stands so_far.1 ((rw c.from.ensures at choice-place.ensures) ∙ kept choice 0 a.t refl) (no_place.ensures ∙ kept bit_zero 0 0 refl) in
          (writes_more f l.j a.out.now a.slots.now a.n _ _ _ _ _ _ so_far.0 w, ready-entry k flag a.t l.j w so_far.1),
    )

pub returns : goal.returns
returns c =
    let a = c.args in
    let l = c.loop-j in
    let few = c.requires.1 in
    let j-is : l.j ≡ a.count = omega arith in (
      λ (S : Set) (cs members : List ℕ) (k : ℕ) row stands ready.
          subst (λ (i : ℕ). Writes (upto (entry S cs k flag a.t) i) a.out.now a.slots.now a.n l.out l.slots l.next)
          (j-is ∙ sym stands.count_is) (l.invariant.3 S cs members k row stands ready).0,
      omega arith,
    )
