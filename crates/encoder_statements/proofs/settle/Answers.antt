-- `encoder_statements::settle` meets its contract. Assumes nothing.
use Rattle.std.proofs.Common.{arith, ◌+◌, ◌<◌}
use Rattle.table.proofs.Sequences.{inside}
use Rattle.encoding.specs.Slots.{kind_at}
use Rattle.encoding.specs.Steps.{base}
use Rattle.encoder_slots.specs.Kinds.{number_of}
use Rattle.encoder_slots.specs.Places.{place_of}
use Rattle.encoder_slots.proofs.Entries.{entry_kept}
use Rattle.encoder_bases.proofs.Given.{put_written}
use Rattle.encoder_statements.proofs.Values.{statement-width, statement-kept, statement-written}
use Rattle.encoder_statements.proofs.settle.Goals as goal

pub returns : goal.returns
returns c =
    let a = c.args in
    let q = c.requires in
    let p = c.set_place.ensures in (
      (λ S cs k out after h of row column all below put.
          let places = place_of a.slots.now in
          let wide = statement-width (number_of a.kind) h of in
          let t = base S cs k (kind_at (number_of a.kind)) a.t a.i in
          let small : a.tree.root < 4294967295 =
          let i = inside places t a.n below in
          let e = put.root_put in
          let f = put.count_put in
          let few = put.few_put in
          let room = q.0 in
          omega arith in
          entry_kept S cs k (kind_at (number_of a.kind)) a.t a.i out a.slots.now a.n after _ (a.n + a.tree.count) a.tree.root (statement-kept S cs a.t a.i (number_of a.kind) h of)
          (statement-written S cs a.t a.i (number_of a.kind) h of k places out a.n after _ _ (put_written a.tree places a.n t out after put)) (p.1 all h row (omega arith) small) p.0),
      p.0,
      (let few = q.1 in omega arith),
    )
