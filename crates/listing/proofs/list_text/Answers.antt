-- `listing::list_text` meets its contract. Assumes nothing.
use Rattle.std.proofs.Common.{List, ap, ap₂, arith, length, length-take-le, rules, sym, take, ℕ, ◌*◌, ◌∙◌, ◌≡◌}
use Rattle.listing.specs.Texts.{listing_by, listing_of}
use Rattle.listing.proofs.Records.{set-taken, map-taken}
use Rattle.listing_output.specs.Printed.{count, printed}
use Rattle.listing_output.specs.Listings.{listing, refused_line}
use Rattle.std.specs.Prelude.{Result}
use Rattle.records.specs.declared.refusals.Refused.{Refused}
use Rattle.text.specs.declared.Counts.{Counts}
use Rattle.text.proofs.Answered.{read-counts}
use Rattle.listing.proofs.list_text.Goals as goal

pub slice_bounds-set-end : goal.slice_bounds-set-end
slice_bounds-set-end c = let text = c.args.text.now in let w = c.read.ensures in
    let k = read-counts text 1024 512 c.in-Ok.counts (sym w.0 ∙ c.in-Ok.is) in
    let l : length c.read.new.set ≡ 1024 = search rules in omega (arith, k.2, l, c.from-size.ensures)

pub slice_bounds-list-end : goal.slice_bounds-list-end
slice_bounds-list-end c = let text = c.args.text.now in let w = c.read.ensures in
    let k = read-counts text 1024 512 c.in-Ok.counts (sym w.0 ∙ c.in-Ok.is) in
    let l : length c.read.new.set ≡ 1024 = search rules in sym (length-take-le (8 * c.from-size.result) c.read.new.set (omega (arith, k.2, l, c.from-size.ensures)))

pub slice_bounds-map-end : goal.slice_bounds-map-end
slice_bounds-map-end c = let text = c.args.text.now in let w = c.read.ensures in
    let k = read-counts text 1024 512 c.in-Ok.counts (sym w.0 ∙ c.in-Ok.is) in
    let l : length c.read.new.map ≡ 512 = search rules in omega (arith, k.3, l, c.from-length.ensures)

pub slice_bounds-list-end-in-Ok : goal.slice_bounds-list-end-in-Ok
slice_bounds-list-end-in-Ok c = let text = c.args.text.now in let w = c.read.ensures in
    let k = read-counts text 1024 512 c.in-Ok.counts (sym w.0 ∙ c.in-Ok.is) in
    let l : length c.read.new.map ≡ 512 = search rules in sym (length-take-le (4 * c.from-length.result) c.read.new.map (omega (arith, k.3, l, c.from-length.ensures)))

pub returns-in-Ok : goal.returns-in-Ok
unfolding listing_of
returns-in-Ok c = let text = c.args.text.now in let w = c.read.ensures in
    let k = read-counts text 1024 512 c.in-Ok.counts (sym w.0 ∙ c.in-Ok.is) in
    let out = c.args.out.now in
    let l = c.list.ensures in
    let set = ap (λ (k : ℕ). take (8 * k) c.read.new.set) c.from-size.ensures ∙ ap (take (8 * c.in-Ok.counts.statements)) w.1 ∙ set-taken c.read.result c.in-Ok.counts c.in-Ok.is text _ k.0 in
    let map = ap (λ (k : ℕ). take (4 * k) c.read.new.map) c.from-length.ensures ∙ ap (take (4 * c.in-Ok.counts.cells)) w.2 ∙ map-taken c.read.result c.in-Ok.counts c.in-Ok.is text _ k.1 in
    let e = ap₂ listing set map ∙ sym (ap (λ (r : Result Counts Refused). listing_by r text) (sym w.0 ∙ c.in-Ok.is)) in
    (l.0 ∙ ap (λ (bytes : List ℕ). count bytes out) e, l.1 ∙ ap (λ (bytes : List ℕ). printed bytes out) e)

pub returns-in-Err : goal.returns-in-Err
unfolding listing_of
returns-in-Err c = let text = c.args.text.now in let out = c.args.out.now in
    let w = c.read.ensures in
    let l = c.refused.ensures in
    let e = ap refused_line c.number.ensures ∙ sym (ap (λ (r : Result Counts Refused). listing_by r text) (sym w.0 ∙ c.in-Err.is)) in
    (l.0 ∙ ap (λ (bytes : List ℕ). count bytes out) e, l.1 ∙ ap (λ (bytes : List ℕ). printed bytes out) e)
