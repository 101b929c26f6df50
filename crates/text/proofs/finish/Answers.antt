-- `text::finish` meets its contract. Assumes nothing.
use Rattle.std.proofs.Common.{ap, arith, le-leb, length, length-take-le, sym, take, ℕ, ◌*◌, ◌∙◌}
use Rattle.base.proofs.Bytes.{placed-over}
use Rattle.base.proofs.Choice.{chosen, and_true}
use Rattle.base.specs.Bytes.{placed}
use Rattle.text.proofs.finish.Goals as goal

pub returns : goal.returns
returns c = let a = c.args in
    let n = a.counts.statements in let m = a.counts.cells in
    let x = length-take-le (8 * n) a.records.now (omega (arith, c.requires.0.0, c.requires.1)) in
    let y = length-take-le (4 * m) a.cells.now (omega (arith, c.requires.0.1, c.requires.2)) in
    let set = c.if-set-size.false in let map = c.if-map-length.false in (
      sym (chosen _ _ (and_true (le-leb (8 * n) (length a.set.now) (omega (arith, set, c.from-size.ensures))) (le-leb (4 * m) (length a.map.now) (omega (arith, map, c.from-length.ensures))))),
      c.place.ensures ∙ ap (λ (k : ℕ). placed a.set.now 0 (take (8 * k) a.records.now)) c.from-size.ensures ∙ placed-over a.set.now (take (8 * n) a.records.now) (omega (arith, x, set, c.from-size.ensures)),
      c.place-2.ensures ∙ ap (λ (k : ℕ). placed a.map.now 0 (take (4 * k) a.cells.now)) c.from-length.ensures ∙ placed-over a.map.now (take (4 * m) a.cells.now) (omega (arith, y, map, c.from-length.ensures)),
    )
