-- `encoder_marks::entry` meets its contract. Assumes nothing.
use Rattle.std.proofs.Common.{ap, List, arith, length, sym, true, ℕ, ◌+◌, ◌<◌, ◌∙◌, ◌≡◌}
use Rattle.encoder_marks.specs.Marked.{marked}
use Rattle.encoder_marks.proofs.Marked.{marked-known, marked-kept, raised_written, mark_written}
use Rattle.encoder_slots.proofs.Numbers.{other-number}
use Rattle.encoder_slots.specs.declared.kinds.Kind.TheVariants.{Raised}
use Rattle.encoder_slots.specs.Kinds.{number_of}
use Rattle.encoder_slots.specs.Pieces.{WritesTree, Ready}
use Rattle.encoder_slots.specs.Places.{place_of}
use Rattle.encoder_slots.proofs.Entries.{entry-none, entry_kept, tree_of}
use Rattle.encoder_slots.proofs.Rows.{width-least}
use Rattle.encoder_bases.proofs.Given.{put_written}
use Rattle.encoding.specs.Steps.{base, shape, kept}
use Rattle.encoding.specs.Slots.{kind_at}
use Rattle.encoder_slots.proofs.Ready.{ready-root}
use Rattle.records.specs.Sets.{Set}
use Rattle.encoder_marks.proofs.entry.Goals as goal

pub returns-in-Raised : goal.returns-in-Raised
returns-in-Raised c =
    let there : let a = c.args in (S : Set) (cs members : List ℕ) → marked (number_of a.kind) ≡ true → a.t < S.threads → a.p < length cs → Ready S cs members a.table.now a.slots.now a.n → kept S cs 0 (shape (kind_at (number_of a.kind))) a.t a.p ≡ c.contains.result = λ S cs members is row column ready. let a = c.args in
    marked-kept S cs 0 a.t a.p (number_of a.kind) is ∙ sym (c.contains.ensures S cs ready.by_name row column) in
    let a = c.args in
    let q = c.requires in
    let places = place_of a.slots.now in
    let limit = q.0 in
    let column = q.2 in
    let wide = width-least (number_of a.kind) in
    let g = c.put_marked-base in
    let p = c.set_place.ensures in
    let most = g.ensures.1 in
    let here = c.if-contains.true in
    let r = c.raised_chain-tree in
    let links = r.ensures.1 in (
      λ (S : Set) (cs members : List ℕ) threads is inside-row inside-column (ready : Ready S cs members a.table.now a.slots.now a.n).
          let bare = base S cs a.step (kind_at (number_of a.kind)) a.t a.p in
          let put = put_written g.result places a.n bare a.out.now _ (g.ensures.0 S cs threads is (omega arith)) in
          let w : WritesTree places (tree_of S cs a.step (kind_at (number_of a.kind)) a.t a.p) a.out.now a.n _ r.result.next r.result.at =
          raised_written S cs a.step a.t a.p places a.out.now a.n _ r.result.next r.result.at (number_of a.kind) (ap number_of c.in-Raised.is)
          (r.ensures.0 S cs members bare a.out.now a.n inside-row inside-column (omega arith) ready put) in
          entry_kept S cs a.step (kind_at (number_of a.kind)) a.t a.p a.out.now a.slots.now a.n _ _ r.result.next r.result.at
          (there S cs members is inside-row inside-column ready ∙ here) w (p.1 ready.all_places (marked-known (number_of a.kind) is) q.1 (omega arith) (ready-root ready w (omega arith))) p.0,
      omega arith,
    )

pub returns-in_default : goal.returns-in_default
returns-in_default c =
    let there : let a = c.args in (S : Set) (cs members : List ℕ) → marked (number_of a.kind) ≡ true → a.t < S.threads → a.p < length cs → Ready S cs members a.table.now a.slots.now a.n → kept S cs 0 (shape (kind_at (number_of a.kind))) a.t a.p ≡ c.contains.result = λ S cs members is row column ready. let a = c.args in
    marked-kept S cs 0 a.t a.p (number_of a.kind) is ∙ sym (c.contains.ensures S cs ready.by_name row column) in
    let a = c.args in
    let q = c.requires in
    let places = place_of a.slots.now in
    let limit = q.0 in
    let column = q.2 in
    let wide = width-least (number_of a.kind) in
    let g = c.put_marked-base in
    let p = c.set_place-in_default.ensures in
    let most = g.ensures.1 in (
      λ (S : Set) (cs members : List ℕ) threads is inside-row inside-column (ready : Ready S cs members a.table.now a.slots.now a.n).
          let bare = base S cs a.step (kind_at (number_of a.kind)) a.t a.p in
          let put = put_written g.result places a.n bare a.out.now _ (g.ensures.0 S cs threads is (omega arith)) in
          let w : WritesTree places (tree_of S cs a.step (kind_at (number_of a.kind)) a.t a.p) a.out.now a.n _ (a.n + g.result.count) g.result.root =
          mark_written S cs a.step a.t a.p places a.out.now a.n _ (a.n + g.result.count) g.result.root (number_of a.kind) is (other-number a.kind Raised c.in_default.not-Raised) put in
          entry_kept S cs a.step (kind_at (number_of a.kind)) a.t a.p a.out.now a.slots.now a.n _ _ (a.n + g.result.count) g.result.root
          (there S cs members is inside-row inside-column ready ∙ c.if-contains.true) w (p.1 ready.all_places (marked-known (number_of a.kind) is) q.1 (omega arith) (ready-root ready w (omega arith))) p.0,
      omega arith,
    )

pub returns-else-contains : goal.returns-else-contains
returns-else-contains c =
    let there : let a = c.args in (S : Set) (cs members : List ℕ) → marked (number_of a.kind) ≡ true → a.t < S.threads → a.p < length cs → Ready S cs members a.table.now a.slots.now a.n → kept S cs 0 (shape (kind_at (number_of a.kind))) a.t a.p ≡ c.contains.result = λ S cs members is row column ready. let a = c.args in
    marked-kept S cs 0 a.t a.p (number_of a.kind) is ∙ sym (c.contains.ensures S cs ready.by_name row column) in
    let a = c.args in (
      λ (S : Set) (cs members : List ℕ) threads is inside-row inside-column (ready : Ready S cs members a.table.now a.slots.now a.n).
          entry-none S cs a.step (kind_at (number_of a.kind)) a.t a.p a.out.now a.slots.now a.n
          (there S cs members is inside-row inside-column ready ∙ c.if-contains.false),
      omega arith,
    )
