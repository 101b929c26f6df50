-- `encoder_step::single_block` meets its contract. Assumes nothing.
use Rattle.std.proofs.Common.{List, ap, arith, true, ℕ, ◌+◌, ◌<◌, ◌≡◌, ◌≤◌}
use Rattle.records.specs.Sets.{Set}
use Rattle.encoder_slots.specs.Kinds.{number_of}
use Rattle.encoder_slots.proofs.Ready.{ready-root}
use Rattle.encoding.specs.Slots.{kind_at}
use Rattle.encoding.specs.Steps.{Shape, shape, base, rows, columns, kept}
use Rattle.encoder_slots.specs.Places.{place_of, width}
use Rattle.encoder_slots.specs.Pieces.{WritesTree, chain_room}
use Rattle.encoder_slots.proofs.Entries.{entry_kept, tree_of}
use Rattle.encoder_slots.proofs.Rows.{width-least}
use Rattle.encoder_bases.proofs.Given.{put_written}
use Rattle.encoder_step.proofs.Loops.{one_value}
use Rattle.table.specs.Repeats.{last_index}
use Rattle.encoder_step.proofs.single_block.Goals as goal

pub returns : goal.returns
returns c =
    let a = c.args in
    let q = c.requires in
    let b = c.put_base-base in
    let r = c.single_chain-tree in
    let p = c.set_place.ensures in
    let most = b.ensures.1 in
    let last = r.ensures.1 in
    let little = q.0 in
    let room : a.n ≤ last_index = omega arith in
    let few : a.n + b.result.count + chain_room ≤ last_index = omega arith in
    let column : 0 < width (number_of a.kind) = let least = width-least (number_of a.kind) in omega arith in (
      λ (S : Set) (cs members lists : List ℕ) threads chained single ready.
          let places = place_of a.slots.now in
          let root = base S cs a.step (kind_at (number_of a.kind)) 0 0 in
          let g = b.ensures.0 S cs threads q.2 q.3 room in
          let w : WritesTree places (tree_of S cs a.step (kind_at (number_of a.kind)) 0 0) a.out.now a.n _ r.result.next r.result.at =
          r.ensures.0 S cs members lists root a.out.now a.n threads chained few ready (put_written b.result places a.n root a.out.now _ g) in
          let there : kept S cs 0 (shape (kind_at (number_of a.kind))) 0 0 ≡ true = ap (λ (s : Shape). kept S cs 0 s 0 0) single in
          one_value S cs a.step (number_of a.kind) _ _ _ _ _ _ (ap (rows S cs a.step) single) (ap (λ (s : Shape). columns S cs a.step s 0) single)
          (entry_kept S cs a.step (kind_at (number_of a.kind)) 0 0 a.out.now a.slots.now a.n _ _ r.result.next r.result.at there w
          (p.1 ready.all_places q.1 (omega arith) column (ready-root ready w (omega arith))) p.0),
      omega arith,
    )
