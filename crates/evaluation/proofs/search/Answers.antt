-- `evaluation::search` meets its contract. Assumes nothing.
use Rattle.std.proofs.Common.{List, [], ℕ, Some, Ok, Err, get_or, ap, ◌∙◌, arith, rules, subst}
use Rattle.std.specs.List.Sorted.{IsBinarySearchResult}
use Rattle.std.proofs.lemmas.List.Sorted.{answers_always}
use Rattle.base.specs.Bytes.{word_at}
use Rattle.evaluation.proofs.Halves.{order, searched}
use Rattle.evaluation.proofs.search.Goals as goal

pub returns-in-Ok : goal.returns-in-Ok
returns-in-Ok c =
    let m = c.args.cells.now in
    let says = c.in-Ok.ensures.position (λ (y : List ℕ). word_at y 0) (answers_always _ _ _ (λ f a r g called. search rules)) in
    let f = c.as_chunks.ensures.front in
    let some = searched m c.args.x c.requires (Ok c.in-Ok.k) (subst (λ (cs : List (List ℕ)). IsBinarySearchResult (order c.args.x) cs (Ok c.in-Ok.k)) f says) (omega (arith, c.as_chunks.ensures.front_len, c.in-Ok.ensures.bound)) in
    ap Some c.word_at.ensures ∙ ap (λ (cells : List (List ℕ)). Some (word_at (get_or cells c.in-Ok.k []) 2)) f ∙ some

pub returns-in-Err : goal.returns-in-Err
returns-in-Err c =
    let m = c.args.cells.now in
    let says = c.in-Err.ensures.position (λ (y : List ℕ). word_at y 0) (answers_always _ _ _ (λ f a r g called. search rules)) in
    let f = c.as_chunks.ensures.front in
    searched m c.args.x c.requires (Err c.in-Err.field-0) (subst (λ (cs : List (List ℕ)). IsBinarySearchResult (order c.args.x) cs (Err c.in-Err.field-0)) f says)
