-- `encoder_step::given_entry` meets its contract. Assumes nothing.
use Rattle.std.proofs.Common.{List, arith, subst, sym, ℕ, ◌+◌, ◌<◌, ◌≤◌}
use Rattle.records.specs.Sets.{Set}
use Rattle.encoder_slots.specs.Kinds.{number_of}
use Rattle.encoder_slots.proofs.Ready.{ready-root}
use Rattle.encoding.specs.Slots.{Term, kind_at}
use Rattle.encoding.specs.Steps.{chain, base}
use Rattle.encoder_slots.specs.Places.{place_of, width}
use Rattle.encoder_slots.proofs.Rows.{width-least}
use Rattle.encoder_slots.specs.Pieces.{WritesTree, chain_room}
use Rattle.encoder_slots.proofs.Entries.{entry_kept, tree_of}
use Rattle.encoder_bases.proofs.Given.{put_written}
use Rattle.table.specs.Repeats.{last_index}
use Rattle.encoder_step.proofs.given_entry.Goals as goal

pub returns : goal.returns
returns c =
    let a = c.args in
    let q = c.requires in
    let b = c.put_base-base in
    let r = c.given_chain-tree in
    let p = c.set_place.ensures in
    let most = b.ensures.1 in
    let last = r.ensures.1 in
    let little = q.0 in
    let room : a.n ≤ last_index = omega arith in
    let few : a.n + b.result.count + chain_room ≤ last_index = omega arith in
    let column : a.b < width (number_of a.kind) = let most = q.2 in let least = width-least (number_of a.kind) in omega arith in (
      λ (S : Set) (cs lists : List ℕ) threads row e ready.
          let places = place_of a.slots.now in
          let root = base S cs a.step (kind_at (number_of a.kind)) a.a a.b in
          let g = b.ensures.0 S cs threads e.plain e.no_flag room in
          let w : WritesTree places (tree_of S cs a.step (kind_at (number_of a.kind)) a.a a.b) a.out.now a.n _ r.result.next r.result.at =
          subst (λ (t : Term). WritesTree places t a.out.now a.n r.new.out r.result.next r.result.at) (λ z. chain (sym e.linked z) (sym e.counted z) root)
          (r.ensures.0 S cs lists root a.out.now a.n row few ready (put_written b.result places a.n root a.out.now _ g)) in
          entry_kept S cs a.step (kind_at (number_of a.kind)) a.a a.b a.out.now a.slots.now a.n _ _ r.result.next r.result.at e.there w
          (p.1 ready.all_places e.known q.1 column (ready-root ready w (omega arith))) p.0,
      omega arith,
    )
