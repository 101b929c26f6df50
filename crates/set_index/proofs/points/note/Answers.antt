-- `set_index::points::note` meets its contract. Assumes nothing.
use Rattle.std.proofs.Common.{[], ap, arith, length, rules, sym, take, ◌∙◌, ◌∷◌, ◌≡◌}
use Rattle.set_index.specs.Points.{listed}
use Rattle.set_index.proofs.Noted.{not-check, is_known, is-new, listed_same, listed-full, listed_more}
use Rattle.set_index.proofs.points.note.Goals as goal

pub returns-then-not-is : goal.returns-then-not-is
returns-then-not-is c =
    let a = c.args in
    let n : length a.points.numbers ≡ 8 = search rules in
    listed_same a.points n _ (not-check (listed a.points) a.statement (sym c.is.ensures ∙ c.if-not-is.true))

pub returns-then-known : goal.returns-then-known
returns-then-known c =
    let a = c.args in
    let n : length a.points.numbers ≡ 8 = search rules in
    listed_same a.points n _ (is_known (listed a.points) a.statement (sym c.known.ensures ∙ c.if-known.true))

pub returns-then-count-ge-MOST : goal.returns-then-count-ge-MOST
returns-then-count-ge-MOST c =
    let a = c.args in
    let n : length a.points.numbers ≡ 8 = search rules in
    listed-full a.points n (a.statement.argument ∷ []) (omega arith)
    ∙ ap (take 8) (sym (is-new (listed a.points) a.statement (sym c.is.ensures ∙ c.if-not-is.false) (sym c.known.ensures ∙ c.if-known.false)))

pub returns : goal.returns
returns c =
    let a = c.args in
    let n : length a.points.numbers ≡ 8 = search rules in
    rw c.from-count.ensures
    (listed_more a.points n a.statement.argument (omega arith)
    ∙ ap (take 8) (sym (is-new (listed a.points) a.statement (sym c.is.ensures ∙ c.if-not-is.false) (sym c.known.ensures ∙ c.if-known.false))))
