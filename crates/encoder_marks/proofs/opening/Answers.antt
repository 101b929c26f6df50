-- `encoder_marks::opening` meets its contract. Assumes nothing.
use Rattle.std.proofs.Common.{List, arith, refl, ℕ}
use Rattle.encoder_slots.specs.Pieces.{WritesTree, Ready}
use Rattle.encoder_slots.specs.Places.{place_of}
use Rattle.encoder_slots.proofs.Entries.{entry_kept, tree_of}
use Rattle.encoder_bases.proofs.Given.{put_written}
use Rattle.encoding.specs.Steps.{base}
use Rattle.encoding.specs.Slots.{kinds, opening}
use Rattle.encoder_slots.proofs.Ready.{ready-root}
use Rattle.records.specs.Sets.{Set}
use Rattle.encoder_marks.proofs.opening.Goals as goal

pub returns : goal.returns
unfolding kinds
returns c =
    let a = c.args in
    let q = c.requires in
    let places = place_of a.slots.now in
    let limit = q.0 in
    let within = q.1 in
    let g = c.put_base-base in
    let r = c.opening_chain-tree in
    let p = c.set_place.ensures in
    let most = g.ensures.1 in
    let links = r.ensures.1 in (
      λ (S : Set) (cs members : List ℕ) row column (ready : Ready S cs members a.table.now a.slots.now a.n).
          let put = g.ensures.0 S cs row refl (λ e. absurd (omega arith)) (omega arith) in
          let w : WritesTree places (tree_of S cs a.step opening 0 a.p) a.out.now a.n _ r.result.next r.result.at =
          r.ensures.0 S cs members (base S cs a.step opening 0 a.p) a.out.now a.n row column (omega arith) ready
          (put_written g.result places a.n (base S cs a.step opening 0 a.p) a.out.now _ put) in
          entry_kept S cs a.step opening 0 a.p a.out.now a.slots.now a.n _ _ r.result.next r.result.at refl w
          (p.1 ready.all_places (omega arith) (omega arith) (omega arith) (ready-root ready w (omega arith))) p.0,
      omega arith,
    )
