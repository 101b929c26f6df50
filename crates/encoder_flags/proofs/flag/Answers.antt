-- `encoder_flags::flag` meets its contract. Assumes nothing.
use Rattle.std.proofs.Common.{List, arith, refl, sym, ℕ, ◌∙◌, ◌≤◌}
use Rattle.encoder_flags.proofs.Written.{flag-chained}
use Rattle.encoder_bases.proofs.Given.{put_written}
use Rattle.encoder_slots.proofs.Entries.{entry_kept, tree_of}
use Rattle.encoder_slots.specs.Pieces.{WritesTree}
use Rattle.encoder_slots.specs.Places.{place_of}
use Rattle.encoding.specs.Steps.{base}
use Rattle.encoding.specs.Slots.{kinds, flag}
use Rattle.encoder_slots.proofs.Ready.{ready-root}
use Rattle.records.specs.Sets.{Set}
use Rattle.table.specs.Repeats.{last_index}
use Rattle.encoder_flags.proofs.Lists.{read_on}
use Rattle.encoder_flags.proofs.flag.Goals as goal

pub returns : goal.returns
unfolding kinds
returns c =
    let a = c.args in
    let q = c.requires in
    let within = q.2 in
    let room : a.n ≤ last_index = let p = q.4 in omega arith in
    let g = c.put_flag-base in
    let s = c.statement_at-statement in
    let r = c.flag_links-tree in
    let p = c.set_place.ensures in
    let most = g.ensures.1 in
    let links = r.ensures.1 in (
      λ (S : Set) (cs members : List ℕ) (k : ℕ) row stands ready executes-is no-is.
          let places = place_of a.slots.now in
          let put = g.ensures.0 S cs k (read_on a.set.now a.first s.ensures c.from.ensures ∙ sym (stands.statement_is a.j (omega arith))) executes-is no-is room in
          let w : WritesTree places (tree_of S cs k flag a.t a.j) a.out.now a.n _ r.result.next r.result.at =
          flag-chained S cs k a.t a.j a.count (sym stands.count_is) places a.out.now a.n _ r.result.next r.result.at
          (r.ensures.0 S cs members (base S cs k flag a.t a.j) a.out.now a.n row stands ready
          (put_written g.result places a.n (base S cs k flag a.t a.j) a.out.now _ put)) in
          entry_kept S cs k flag a.t a.j a.out.now a.slots.now a.n _ _ r.result.next r.result.at refl w
          (p.1 ready.all_places (omega arith) q.3 (omega arith) (ready-root ready w (omega arith))) p.0,
      omega arith,
    )
