-- `decoding::cell_of` meets its contract. Assumes nothing.
use Rattle.std.proofs.Common.{◌≡◌, List, [], ℕ, Some, None, eqb, get_or, ap, ◌∙◌, rules, subst}
use borrow.Author.Tests.{tests}
use Rattle.std.proofs.lemmas.Iterator.{YieldsList-from_slice}
use Rattle.std.proofs.lemmas.Iterator.Search.{position_from_yields_List}
use Rattle.base.specs.Bytes.{word_at}
use Rattle.decoding.specs.Lookups.{cell_of}
use Rattle.decoding.proofs.Chunks.{chunks, SaysCell, cell_found}
use Rattle.decoding.proofs.cell_of.Goals as goal

pub returns-in_err-k : goal.returns-in_err-k
returns-in_err-k c =
    let a = c.args in
    let m = a.map.now in
    let found = position_from_yields_List (λ (c : List ℕ). eqb (word_at c 0) a.a) _ _ c.position.result c.position.ensures.ran (YieldsList-from_slice (chunks m) cc) (λ x b q k. search (rules, tests)) in
    let none : None ≡ cell_of m a.a = subst (SaysCell m a.a) c.in_err-k.was (cell_found m a.a _ found) in
    cc

pub returns : goal.returns
returns c =
    let a = c.args in
    let m = a.map.now in
    let found = position_from_yields_List (λ (c : List ℕ). eqb (word_at c 0) a.a) _ _ c.position.result c.position.ensures.ran (YieldsList-from_slice (chunks m) cc) (λ x b q k. search (rules, tests)) in
    let some : Some (word_at (get_or (chunks m) c.in_ok-k.k []) 2) ≡ cell_of m a.a = subst (SaysCell m a.a) c.in_ok-k.was (cell_found m a.a _ found) in
    ap Some c.word_at.ensures ∙ ap (λ (cells : List (List ℕ)). Some (word_at (get_or cells c.in_ok-k.k []) 2)) c.as_chunks.ensures.front ∙ some
