-- `encoder_step::bare_entry` meets its contract. Assumes nothing.
use Rattle.std.proofs.Common.{List, arith, ℕ, ◌+◌, ◌<◌, ◌≤◌}
use Rattle.records.specs.Sets.{Set}
use Rattle.encoding.specs.Slots.{kind_at}
use Rattle.encoding.specs.Steps.{base}
use Rattle.encoder_slots.specs.Kinds.{number_of}
use Rattle.encoder_slots.specs.Places.{place_of, width}
use Rattle.encoder_slots.proofs.Ready.{ready-root}
use Rattle.encoder_slots.proofs.Rows.{width-least}
use Rattle.encoder_slots.proofs.Entries.{entry_kept}
use Rattle.encoder_bases.proofs.Given.{put_written}
use Rattle.encoder_step.proofs.Loops.{bare-written}
use Rattle.table.specs.Repeats.{last_index}
use Rattle.encoder_step.proofs.bare_entry.Goals as goal

pub returns : goal.returns
returns c =
    let a = c.args in
    let q = c.requires in
    let g = c.put_base-base in
    let p = c.set_place.ensures in
    let room : a.n ≤ last_index = let m = q.0 in omega arith in
    let most = g.ensures.1 in
    let column : a.b < width (number_of a.kind) = let most = q.2 in let least = width-least (number_of a.kind) in omega arith in (
      λ (S : Set) (cs members lists : List ℕ) threads bare ready.
          let places = place_of a.slots.now in
          let t = base S cs a.step (kind_at (number_of a.kind)) a.a a.b in
          let put = g.ensures.0 S cs threads bare.plain bare.no_flag room in
          let w = put_written g.result places a.n t a.out.now _ put in
          entry_kept S cs a.step (kind_at (number_of a.kind)) a.a a.b a.out.now a.slots.now a.n _ _ (a.n + g.result.count) g.result.root bare.there
          (bare-written S cs a.step (number_of a.kind) a.a a.b bare places a.out.now a.n _ _ _ w)
          (p.1 ready.all_places bare.known q.1 column (ready-root ready w (omega arith))) p.0,
      omega arith,
    )
