-- `text_lines::items::are_others` meets its contract. Assumes nothing.
use Rattle.std.proofs.Common.{ℕ, Bool, eqb, not, ◌&&◌, true, rules, tests, ◌∙◌}
use Rattle.std.proofs.lemmas.Iterator.{YieldsList-from_slice}
use Rattle.std.proofs.lemmas.Iterator.Consumers.{fold_from_yields_List}
use Rattle.text_lines.proofs.Runs.{fold-run}
use Rattle.text_lines.proofs.items.are_others.Goals as goal

pub returns : goal.returns
returns c =
    let test : ℕ → Bool = λ x. not (eqb x c.args.b) in
    let l = c.args.eight.now in
    fold_from_yields_List _ (λ all x. all && test x) true _ c.fold.ensures.ran (YieldsList-from_slice l cc) (λ a x b q k. search (rules, tests)) ∙ fold-run test l
